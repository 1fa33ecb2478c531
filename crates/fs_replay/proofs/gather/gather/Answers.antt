use Rattle.std.proofs.Common.{arith}
use Rattle.std.proofs.lemmas.List.{length-take}
use Rattle.fs_replay.specs.Limits.{longest_input}
use Rattle.fs_path.proofs.Results.{at_err}
use Rattle.fs_replay.proofs.Flow.{taken_up_to_more}
use Rattle.fs_replay.proofs.gather.gather.Goals as goal

pub returns-in_err-take_next-clause-err : goal.returns-in_err-take_next-clause-err
returns-in_err-take_next-clause-err g c =
    at_err _ (taken_up_to_more _ _ _ c.loop-bytes.bytes.items _ longest_input c.loop-bytes.invariant.taken c.in_err-take_next.ensures.err (omega (arith, length-take c.min-room.result c.deref_mut.result.now)))
