-- How deep a mask nests as it is written.
use Rattle.std.proofs.Common.{◌≤◌, List, [], ◌∷◌, arith}
use Rattle.fs_path.specs.declared.field.FieldPath.{FieldPath}
use Rattle.serde_json.specs.Data.{depth, items_depth}
use Rattle.fs_writejson.specs.Mask.{mask_json, paths_json}

paths_flat : (ps : List FieldPath) → items_depth (paths_json ps) ≤ 0
paths_flat [] = omega arith
paths_flat (p ∷ ps) = omega (arith, paths_flat ps)

pub mask_depth : (ps : List FieldPath) → depth (mask_json ps) ≤ 2
mask_depth [] = omega arith
mask_depth (p ∷ ps) = omega (arith, paths_flat ps)
