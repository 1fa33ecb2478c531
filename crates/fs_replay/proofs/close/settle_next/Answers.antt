use Rattle.std.proofs.Common.{sym, ◌∙◌}
use Rattle.fs_replay.proofs.Falling.{next_is_pending}
use Rattle.fs_replay.proofs.close.settle_next.Goals as goal

pub settle_one-requires : goal.settle_one-requires
settle_one-requires c = next_is_pending c.args.state.now.server.past c.in-Some.commit (sym c.next_pending.ensures.value ∙ c.in-Some.is)
