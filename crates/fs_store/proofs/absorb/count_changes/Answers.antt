use Rattle.std.proofs.Common.{◌≡◌, ◌+◌, length, sym, ap, ◌∙◌, arith}
use Rattle.fs_store.proofs.Rooms.{counted_more}
use Rattle.fs_store.proofs.absorb.count_changes.Goals as goal

pub loop-commit-preserved : goal.loop-commit-preserved
loop-commit-preserved c =
    let i = c.loop-commit.commit-index in
    let x = c.commit-item.result in
    let sum : c.in_ok-count.count ≡ c.loop-commit.count + length x.changes = omega (arith, c.len.ensures) in
    sum ∙ ap (λ n. n + length x.changes) c.loop-commit.invariant ∙ sym (counted_more c.args.commits.now i x (omega arith) c.commit-item.is)
