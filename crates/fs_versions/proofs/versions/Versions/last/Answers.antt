use Rattle.std.proofs.Common.{◌≤ℤ◌, sym, ap, ◌∙◌, subst}
use Rattle.std.specs.FinMap.{get}
use Rattle.std.specs.List.{All}
use Rattle.fs_versions.specs.Chains.{chain_of}
use Rattle.fs_versions.specs.Room.{Versioned}
use Rattle.fs_versions.specs.Sound.{chain_in}
use Rattle.fs_versions.proofs.Views.{chain_get, get_chains, never_empty}
use Rattle.fs_versions.proofs.versions.Versions.last.Goals as goal

pub returns-clause-some : goal.returns-clause-some
returns-clause-some c = λ name is.
    let tree = c.self.inside.chains.entries in
    never_empty (chain_in name tree) (sym (get_chains tree name) ∙ ap (λ (v : Versioned). get v.chains.by_name name) c.self.view_is ∙ is)

pub returns-clause-ends : goal.returns-clause-ends
returns-clause-ends c = λ name.
    subst (λ (v : Versioned). All (λ w. w.time ≤ℤ v.chains.last) (chain_of v.chains name)) c.self.view_is
    (subst (All (λ w. w.time ≤ℤ c.self.inside.last)) (sym (chain_get c.self.inside.chains.entries name)) (c.self.invariant name))
