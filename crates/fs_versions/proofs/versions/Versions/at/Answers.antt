use Rattle.std.proofs.Common.{sym, ap, ◌∙◌}
use Rattle.fs_versions.specs.Chain.{shown_at}
use Rattle.fs_versions.specs.Chains.{chain_of}
use Rattle.fs_versions.specs.Room.{Versioned}
use Rattle.fs_versions.specs.Sound.{chained}
use Rattle.fs_versions.proofs.Views.{chain_get}
use Rattle.fs_versions.proofs.versions.Versions.at.Goals as goal

pub returns-in-Some-clause-value : goal.returns-in-Some-clause-value
returns-in-Some-clause-value c =
    let name = c.args.name.now in
    let is = ap (λ o. (chained o).versions) c.in-Some.ensures.value ∙ sym (chain_get c.self.inside.chains.entries name) ∙ ap (λ (v : Versioned). chain_of v.chains name) c.self.view_is in
    c.shown.ensures ∙ ap (shown_at c.args.time) is

pub returns-in-Some-clause-shows : goal.returns-in-Some-clause-shows
returns-in-Some-clause-shows c = λ h s. returns-in-Some-clause-value c ∙ sym (s.documents c.args.time c.args.name.now c.requires)

pub returns-in-None-clause-value : goal.returns-in-None-clause-value
returns-in-None-clause-value c =
    let name = c.args.name.now in
    let is = ap (λ o. (chained o).versions) c.in-None.ensures.value ∙ sym (chain_get c.self.inside.chains.entries name) ∙ ap (λ (v : Versioned). chain_of v.chains name) c.self.view_is in
    ap (shown_at c.args.time) is

pub returns-in-None-clause-shows : goal.returns-in-None-clause-shows
returns-in-None-clause-shows c = λ h s. returns-in-None-clause-value c ∙ sym (s.documents c.args.time c.args.name.now c.requires)
