use Rattle.fs_path.proofs.Databases.{database_taken, bad_database}
use Rattle.fs_path.proofs.database.check_database.Goals as goal

pub returns-clause-taken : goal.returns-clause-taken
returns-clause-taken c = rw c.check_named.ensures (database_taken c.args.root.now c.args.text.now)

pub returns-clause-prefix : goal.returns-clause-prefix
returns-clause-prefix c = rw c.check_named.ensures (bad_database c.args.root.now c.args.text.now)
