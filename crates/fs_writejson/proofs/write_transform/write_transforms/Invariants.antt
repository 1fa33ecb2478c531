use Rattle.std.proofs.Common.{◌≡◌, map, take}
use Rattle.std.specs.List.{AllByRecursion}
use Rattle.serde_json.specs.View.{view as json}
use Rattle.fs_writejson.specs.Held.{IsTransformHeld}
use Rattle.fs_writejson.specs.Transform.{transform_json}
use Rattle.fs_writejson.proofs.write_transform.write_transforms.Given as goal

-- the transforms so far are written
abbrev pub invariant-loop-transform : goal.invariant-loop-transform
invariant-loop-transform l = record {
  written : map json l.items.items ≡ map transform_json (take l.transform-index l.transforms);
  held : AllByRecursion IsTransformHeld (take l.transform-index l.transforms);
}
