use Rattle.std.proofs.Common.{◌≡◌, ◌++◌, take}
use Rattle.fs_replay.specs.Outboxes.{message_lines}
use Rattle.fs_replay.proofs.reply.say_all.Given as goal

-- the messages so far
abbrev pub invariant-loop-message : goal.invariant-loop-message
invariant-loop-message l = l.out.items ≡ l.initial.out.items ++ message_lines l.session (take l.message-index l.messages)
