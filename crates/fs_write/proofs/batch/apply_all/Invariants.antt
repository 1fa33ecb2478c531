use Rattle.std.proofs.Common.{◌≡◌, length, drop}
use Rattle.fs_write.specs.Batch.{docs_of}
use Rattle.fs_write.proofs.Stages.{SoFar}
use Rattle.fs_write.proofs.batch.apply_all.Given as goal

abbrev pub invariant-loop-write : goal.invariant-loop-write
invariant-loop-write l = record {
  number : length l.results ≡ l.write-index;
  so_far : SoFar (docs_of l.fn.docs) l.stage.entries l.results l.fn.writes (drop l.write-index l.fn.writes) l.time;
}
