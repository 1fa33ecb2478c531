use Rattle.std.proofs.Common.{rules, ◌≤ℤ◌, ◌+◌, drop, ap, ◌∙◌}
use Rattle.fs_locks.specs.Holds.{lesser_of}
use Rattle.fs_machine.specs.Behind.{least}
use Rattle.fs_past.specs.Touching.{numbers_since}
use Rattle.fs_past.proofs.LeastNumber.{passed_all, passed_one}
use Rattle.fs_past.proofs.touching.first_in_journal.Goals as goal

pub returns-then-le : goal.returns-then-le
returns-then-le c =
    let b = c.batch_before-batch.result.now in
    let within : b.time ≤ℤ c.args.time = search rules in
    passed_all c.args.time c.args.reads.now c.args.journal.now.history c.loop-later.later b c.loop-later.first c.batch_before-batch.ensures within c.count-later-end.ensures.rising c.loop-later.invariant

pub loop-later-preserved : goal.loop-later-preserved
loop-later-preserved c =
    let h = c.args.journal.now.history in
    ap (λ o. lesser_of o (least (numbers_since c.args.time c.args.reads.now (drop (c.loop-later.later + 1) h)))) c.lesser-first.ensures
    ∙ passed_one c.args.time c.args.reads.now h c.loop-later.later c.batch_before-batch.result.now c.loop-later.first c.number_since.result
    c.batch_before-batch.ensures c.number_since.ensures c.loop-later.invariant
