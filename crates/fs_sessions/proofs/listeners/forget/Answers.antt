use Rattle.fs_sessions.proofs.Gone.{gone}
use Rattle.fs_sessions.proofs.listeners.forget.Goals as goal

pub returns : goal.returns
returns c = gone c.remove.result c.args.id c.args.targets.now c.remove.new.self c.remove.ensures.ok c.remove.ensures.err c.remove.ensures.unknown
