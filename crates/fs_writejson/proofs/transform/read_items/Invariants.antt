use Rattle.std.proofs.Common.{◌≡◌, Bool, List, map, drop}
use Rattle.std.specs.List.{list_all}
use Rattle.fs_path.specs.Way.{place_of}
use Rattle.serde_json.specs.View.{items_view}
use Rattle.fs_write.specs.declared.transform.Transform.{Transform}
use Rattle.fs_writejson.specs.Transform.{transform_at}
use Rattle.fs_json.specs.Walk.{each_at}
use Rattle.fs_json.proofs.Walks.{behind}
use Rattle.fs_writejson.proofs.transform.read_items.Given as goal

-- those that were read so far, and then the rest, are all
abbrev pub invariant-loop-i : goal.invariant-loop-i
invariant-loop-i l = record {
  done : List (Transform × Bool);
  transforms : l.transforms ≡ map (λ t. t.0) done;
  numeric : l.is_numeric ≡ list_all (λ t. t.1) done;
  reading : behind done (each_at transform_at (items_view (drop l.i l.items)) l.i (place_of l.way)) ≡ each_at transform_at (items_view l.items) 0 (place_of l.way);
}
