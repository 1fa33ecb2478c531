use Rattle.std.proofs.Common.{List, subst}
use Rattle.std.proofs.lemmas.List.{take_all}
use Rattle.fs_locks.specs.Holds.{IsLeastOther}
use Rattle.fs_write.specs.declared.write.Write.{Write}
use Rattle.fs_past.specs.Kept.{HoldsWritten}
use Rattle.fs_past.proofs.holds.first_holder.Goals as goal

pub returns : goal.returns
returns c =
    subst (λ (ws : List Write). IsLeastOther (HoldsWritten c.args.locks.now.exclusive ws) c.args.by c.loop-write.first)
    (take_all c.loop-write.write-index c.args.writes.now c.loop-write-test.false) c.loop-write.invariant
