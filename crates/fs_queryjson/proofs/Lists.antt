-- Filters that are read one by one: what was read so far, in front of the rest.
use Rattle.std.proofs.Common.{◌≡◌, ℕ, ◌+◌, List, [], ◌∷◌, ◌++◌, Ok}
use Rattle.fs_path.specs.Place.{item_place}
use Rattle.serde_json.specs.Data as json
use Rattle.fs_json.proofs.Walks.{behind, behind-more}
use Rattle.fs_query.specs.Condition.{Condition}
use Rattle.fs_queryjson.specs.Filter.{each_filter_at, filter_at}

pub next_filter : (front : List Condition) (d : json.Data) (ds : json.Items) (i : ℕ) (place : List ℕ) (c : Condition)
    → filter_at d (item_place place i) ≡ Ok c → behind front (each_filter_at (json.item d ds) i place) ≡ behind (front ++ c ∷ []) (each_filter_at ds (i + 1) place)
next_filter front d ds i place c e = rw e (behind-more front c (each_filter_at ds (i + 1) place))
