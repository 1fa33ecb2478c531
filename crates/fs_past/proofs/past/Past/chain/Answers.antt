use Rattle.std.proofs.Common.{◌≡◌, ap, ◌∙◌, subst}
use Rattle.std.specs.Prelude.{[], IfSome, IsNone, ◌↔◌}
use Rattle.fs_history.specs.Versions.{chain}
use Rattle.fs_machine.specs.Past.{Past}
use Rattle.fs_past.proofs.past.Past.chain.Goals as goal

pub returns-clause-some : goal.returns-clause-some
returns-clause-some c =
    let name = c.args.name.now in
    let is = c.self.invariant.shows.versions.chains name ∙ ap (λ (p : Past). chain p.history p.floor name) c.self.view_is in
    subst (λ vs. IfSome c.chain.result (λ x. x.now ≡ vs)) is c.chain.ensures.some

pub returns-clause-none : goal.returns-clause-none
returns-clause-none c =
    let name = c.args.name.now in
    let is = c.self.invariant.shows.versions.chains name ∙ ap (λ (p : Past). chain p.history p.floor name) c.self.view_is in
    subst (λ vs. IsNone c.chain.result ↔ (vs ≡ [])) is c.chain.ensures.none
