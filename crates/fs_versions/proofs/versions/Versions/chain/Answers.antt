use Rattle.std.proofs.Common.{◌≡◌, [], refl, sym, ap, ◌∙◌, subst, arith}
use Rattle.std.specs.Prelude.{IfSome, IsNone, ◌↔◌}
use Rattle.fs_versions.specs.Chains.{chain_of}
use Rattle.fs_versions.specs.Rising.{TimesRise}
use Rattle.fs_versions.specs.Room.{Versioned}
use Rattle.fs_versions.specs.Sound.{chained}
use Rattle.fs_versions.proofs.Views.{chain_get}
use Rattle.fs_versions.proofs.versions.Versions.chain.Goals as goal

pub returns-in-Some : goal.returns-in-Some
returns-in-Some c =
    let name = c.args.name.now in
    let is = ap (λ o. (chained o).versions) c.in-Some.ensures.value ∙ sym (chain_get c.self.inside.chains.entries name) ∙ ap (λ (v : Versioned). chain_of v.chains name) c.self.view_is in
    record {
      some = subst (λ vs. IfSome c.listed.result (λ x. x.now ≡ vs)) is c.listed.ensures.some;
      none = subst (λ vs. IsNone c.listed.result ↔ (vs ≡ [])) is c.listed.ensures.none;
      rising = subst TimesRise is c.listed.ensures.rising;
    }

pub returns-in-None-clause-none : goal.returns-in-None-clause-none
returns-in-None-clause-none c =
    let name = c.args.name.now in
    let is = ap (λ o. (chained o).versions) c.in-None.ensures.value ∙ sym (chain_get c.self.inside.chains.entries name) ∙ ap (λ (v : Versioned). chain_of v.chains name) c.self.view_is in
    (λ none. sym is, λ empty. refl)

pub returns-in-None-clause-rising : goal.returns-in-None-clause-rising
returns-in-None-clause-rising c =
    let name = c.args.name.now in
    let is = ap (λ o. (chained o).versions) c.in-None.ensures.value ∙ sym (chain_get c.self.inside.chains.entries name) ∙ ap (λ (v : Versioned). chain_of v.chains name) c.self.view_is in
    subst TimesRise is (λ i j d below within. absurd (omega arith))
