use Rattle.std.proofs.Common.{◌≡◌, map}
use Rattle.fs_listen.specs.Raised.{stands_at}
use Rattle.fs_request.specs.declared.message.Message.TheVariants as message
use Rattle.fs_target.specs.Laws.{with_deleted}
use Rattle.fs_sessions.proofs.raise.all_told.Given as goal

-- the messages so far are told
abbrev pub invariant-loop-message : goal.invariant-loop-message
invariant-loop-message l = l.said.items ≡ map message.Listen (map (with_deleted (stands_at l.past.history l.time)) l.yielded)
