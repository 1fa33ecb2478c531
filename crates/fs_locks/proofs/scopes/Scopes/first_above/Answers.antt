use Rattle.std.proofs.Common.{sym}
use Rattle.std.specs.Option.{option_copied}
use Rattle.fs_path.specs.Cursor.{rest_segments}
use Rattle.fs_locks.proofs.Above.{stands_none, stands_some}
use Rattle.fs_locks.proofs.scopes.Scopes.first_above.Goals as goal

pub returns-in-Some : goal.returns-in-Some
returns-in-Some c =
    stands_some c.args.self.now c.args.name.now (rest_segments (option_copied c.args.path)) c.args.by c.in-Some.parents.now c.first_above.result (sym c.in-Some.ensures.value) c.first_above.ensures

pub returns-in-None : goal.returns-in-None
returns-in-None c = stands_none c.args.self.now c.args.name.now (rest_segments (option_copied c.args.path)) c.args.by (sym c.in-None.ensures.value)
