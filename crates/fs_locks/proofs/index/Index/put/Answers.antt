use Rattle.fs_locks.proofs.Indexed.{same_names}
use Rattle.fs_locks.proofs.index.Index.put.Goals as goal

pub returns-in-Name-clause-err : goal.returns-in-Name-clause-err
returns-in-Name-clause-err c = same_names c.put.result c.args.self.now c.put.new.tree c.put.ensures.err
