use Rattle.std.proofs.Common.{◌≡◌, take}
use Rattle.fs_path.specs.FieldOrder.{paths_at}
use Rattle.fs_write.proofs.overlap.references.Given as goal

abbrev pub invariant-loop-path : goal.invariant-loop-path
invariant-loop-path l = paths_at l.refs.items ≡ take l.path-index l.paths
