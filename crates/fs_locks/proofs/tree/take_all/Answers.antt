use Rattle.std.proofs.Common.{arith}
use Rattle.fs_locks.proofs.Trees.{has_less}
use Rattle.fs_locks.proofs.tree.take_all.Goals as goal

pub loop-name-preserved : goal.loop-name-preserved
loop-name-preserved c =
    has_less c.args.tree.now.entries c.loop-name.tree.entries c.take.new.tree.entries c.args.names.now c.loop-name.name-index c.name-item.result c.args.id
    (omega arith) c.name-item.is c.loop-name.invariant c.take.ensures
