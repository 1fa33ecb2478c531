use Rattle.std.proofs.Common.{◌∙◌, sym}
use Rattle.fs_locks.proofs.Indexed.{has_name}
use Rattle.fs_locks.proofs.index.Index.has.Goals as goal

pub returns-in-Name : goal.returns-in-Name
returns-in-Name c = has_name c.args.self.now c.in-Name.name c.args.share.now c.args.id c.is_held.result (sym c.held.ensures ∙ c.in-Name.is) c.is_held.ensures
