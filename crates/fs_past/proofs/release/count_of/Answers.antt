use Rattle.std.proofs.Common.{◌≡◌, ℕ, ◌+◌, Bor, length, get_or, take, rules, sym, ◌∙◌}
use Rattle.std.specs.List.{sum_by}
use Rattle.std.proofs.lemmas.List.Sums.{sum_by_more}
use Rattle.fs_machine.specs.declared.unreleased.Unreleased.{Unreleased}
use Rattle.fs_past.specs.declared.accepted.Accepted.{Accepted}
use Rattle.fs_past.proofs.release.count_of.Goals as goal

pub loop-commit-preserved : goal.loop-commit-preserved
loop-commit-preserved c =
    let f : Bor Unreleased × Bor Accepted → ℕ = λ r. length r.1.now.change.changes in
    let items = c.args.ready.now in
    let i = c.loop-commit.commit-index in
    let next = sum_by_more f items i c.commit-item.result c.loop-commit-test.true in
    let item : get_or items i c.commit-item.result ≡ c.commit-item.result = (search rules) in
    c.in_ok-count.ensures.1 ∙ (λ j. c.loop-commit.invariant j + c.len.ensures j) ∙ (λ j. sum_by f (take i items) + f (sym item j)) ∙ sym next
