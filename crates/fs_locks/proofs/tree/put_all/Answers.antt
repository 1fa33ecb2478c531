use Rattle.std.proofs.Common.{arith, rules}
use Rattle.fs_locks.specs.Tree.{SameBut}
use Rattle.fs_locks.proofs.Trees.{has_more, has_some}
use Rattle.fs_locks.proofs.tree.put_all.Goals as goal

pub returns-in_err-put-clause-err : goal.returns-in_err-put-clause-err
returns-in_err-put-clause-err c =
    let so : SameBut c.args.tree.now.entries c.put.new.tree.entries c.args.id c.args.names.now =
    has_some c.args.tree.now.entries c.loop-name.tree.entries c.put.new.tree.entries c.args.names.now c.loop-name.name-index c.args.id c.loop-name.invariant c.in_err-put.ensures.err in
    search rules

pub loop-name-preserved : goal.loop-name-preserved
loop-name-preserved c =
    has_more c.args.tree.now.entries c.loop-name.tree.entries c.put.new.tree.entries c.args.names.now c.loop-name.name-index c.name-item.result c.args.id
    (omega arith) c.name-item.is c.loop-name.invariant c.in_ok-put.ensures.ok
