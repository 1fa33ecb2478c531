use Rattle.std.proofs.Common.{◌≡◌, length}
use Rattle.std.specs.Vec.Iter.{into_iter_items, into_iter_len}
use Rattle.fs_server.specs.Answering.{CanFinishAll, all_finished}
use Rattle.fs_server.proofs.answering.finish_all.Given as goal

-- those that are still to be kept may be
abbrev pub invariant-loop-response : goal.invariant-loop-response
invariant-loop-response l = record {
  kept : all_finished (into_iter_items l.response-iterator) l.streams ≡ all_finished (into_iter_items l.initial.response-iterator) l.initial.streams;
  may : CanFinishAll l.streams (into_iter_items l.response-iterator);
  count : into_iter_len l.response-iterator ≡ length (into_iter_items l.response-iterator);
}
