use Rattle.std.proofs.Common.{◌≡◌, [], drop}
use Rattle.fs_path.specs.Way.{place_of}
use Rattle.serde_json.specs.View.{items_view}
use Rattle.fs_json.specs.Paths.{document_name_at}
use Rattle.fs_json.specs.Walk.{each_at}
use Rattle.fs_rpc.proofs.Once.{with_once}
use Rattle.fs_rpc.proofs.distinct.read_items.Given as goal

-- the names so far, and then those that the rest adds, are all
abbrev pub invariant-loop-i : goal.invariant-loop-i
invariant-loop-i l =
    with_once l.seen.keys (each_at (document_name_at l.root) (items_view (drop l.i l.items)) l.i (place_of l.way)) ≡ with_once [] (each_at (document_name_at l.root) (items_view l.items) 0 (place_of l.way))
