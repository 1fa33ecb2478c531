use Rattle.std.proofs.Common.{◌≡◌, ◌++◌, length}
use Rattle.std.specs.Vec.Iter.{into_iter_items, into_iter_len}
use Rattle.fs_server.specs.Answering.{AreAnswerable, replies_of, responses_of}
use Rattle.fs_server.proofs.answering.answers.Given as goal

-- with those that are still to be answered
abbrev pub invariant-loop-commit : goal.invariant-loop-commit
invariant-loop-commit l = record {
  told : l.replies.items ++ replies_of l.streams (into_iter_items l.commit-iterator) ≡ replies_of l.streams (into_iter_items l.initial.commit-iterator);
  kept : l.responses.items ++ responses_of l.streams (into_iter_items l.commit-iterator) ≡ responses_of l.streams (into_iter_items l.initial.commit-iterator);
  may : AreAnswerable l.streams (into_iter_items l.commit-iterator);
  count : into_iter_len l.commit-iterator ≡ length (into_iter_items l.commit-iterator);
}
