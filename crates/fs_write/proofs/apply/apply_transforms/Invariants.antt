use Rattle.std.proofs.Common.{◌≡◌, ◌++◌, drop}
use Rattle.fs_write.specs.Transforms.{transformed, transform_results}
use Rattle.fs_write.proofs.apply.apply_transforms.Given as goal

-- the transforms so far are made, and the rest will be
abbrev pub invariant-loop-transform : goal.invariant-loop-transform
invariant-loop-transform l = record {
  fields : transformed l.transform-items l.time l.initial.opened ≡ transformed (drop l.transform-index l.transform-items) l.time l.opened;
  results : transform_results l.transform-items l.time l.initial.opened ≡ l.results ++ transform_results (drop l.transform-index l.transform-items) l.time l.opened;
}
