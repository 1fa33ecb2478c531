use Rattle.std.proofs.Common.{Bor, Some, map, sym, ap, ◌∙◌}
use Rattle.std.proofs.lemmas.List.{take_all}
use Rattle.std.proofs.lemmas.Simd.{map-map}
use Rattle.fs_machine.specs.Release.{as_committed}
use Rattle.fs_machine.specs.declared.unreleased.Unreleased.{Unreleased}
use Rattle.fs_past.specs.declared.accepted.Accepted.{Accepted}
use Rattle.fs_past.proofs.committed.all_committed.Goals as goal

pub returns : goal.returns
returns c =
    let settled : Unreleased × Accepted → Unreleased = λ r. record r.0 { results = Some r.1.results } in
    let told = λ (r : Unreleased × Accepted). as_committed (settled r) in
    let lent : Bor Unreleased × Bor Accepted → Unreleased × Accepted = λ r. (r.0.now, r.1.now) in
    let items = c.as_slice-commit-items.result.now in
    c.loop-commit.invariant
    ∙ ap (map (λ (r : Bor Unreleased × Bor Accepted). told (lent r))) (take_all c.loop-commit.commit-index items c.loop-commit-test.false ∙ c.as_slice-commit-items.ensures.value)
    ∙ sym (map-map told lent c.in_ok-ready.ready.items)
    ∙ ap (map told) c.in_ok-ready.ensures
    ∙ sym (map-map as_committed settled _)
