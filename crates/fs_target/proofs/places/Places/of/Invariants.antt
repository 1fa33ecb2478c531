use Rattle.std.proofs.Common.{◌≡◌, length}
use Rattle.std.specs.FinMap.{empty}
use Rattle.std.specs.Vec.Iter.{into_iter_items, into_iter_len}
use Rattle.fs_target.specs.Places.{all_put, docs_in}
use Rattle.fs_target.proofs.places.Places.of.Given as goal

-- those that are still to be put
abbrev pub invariant-loop-document : goal.invariant-loop-document
invariant-loop-document l = record {
  put : all_put (into_iter_items l.document-iterator) (docs_in l.places) ≡ all_put (into_iter_items l.initial.document-iterator) empty;
  count : into_iter_len l.document-iterator ≡ length (into_iter_items l.document-iterator);
}
