use Rattle.std.proofs.Common.{sym}
use Rattle.std.specs.Option.{option_copied}
use Rattle.fs_path.specs.Cursor.{rest_segments}
use Rattle.fs_locks.proofs.Above.{is_in_none, is_in_some}
use Rattle.fs_locks.proofs.scopes.Scopes.has_above.Goals as goal

pub returns-in-Some : goal.returns-in-Some
returns-in-Some c =
    is_in_some c.args.self.now c.args.name.now (rest_segments (option_copied c.args.path)) c.args.id c.in-Some.parents.now c.has_above.result (sym c.in-Some.ensures.value) c.has_above.ensures

pub returns-in-None : goal.returns-in-None
returns-in-None c = is_in_none c.args.self.now c.args.name.now (rest_segments (option_copied c.args.path)) c.args.id (sym c.in-None.ensures.value)
