-- A list that is read item by item: what was read so far, in front of the rest.
use Rattle.std.proofs.Common.{◌≡◌, ℕ, ◌+◌, List, [], ◌∷◌, ◌++◌, Ok}
use Rattle.fs_path.specs.Place.{member_place, item_place}
use Rattle.serde_json.specs.Data as json
use Rattle.fs_value.specs.Data.{Data}
use Rattle.fs_json.proofs.Walks.{behind, behind-more}
use Rattle.fs_valjson.specs.Reading.{value_at, items_at, entries_at}

pub next_item : (front : List Data) (d : json.Data) (ds : json.Items) (i : ℕ) (place : List ℕ) (x : Data)
    → value_at d (item_place place i) ≡ Ok x → behind front (items_at (json.item d ds) i place) ≡ behind (front ++ x ∷ []) (items_at ds (i + 1) place)
next_item front d ds i place x e = rw e (behind-more front x (items_at ds (i + 1) place))

pub next_entry : (front : List (List ℕ × Data)) (k : List ℕ) (d : json.Data) (ms : json.Members) (place : List ℕ) (x : Data)
    → value_at d (member_place place k) ≡ Ok x → behind front (entries_at (json.member k d ms) place) ≡ behind (front ++ (k, x) ∷ []) (entries_at ms place)
next_entry front k d ms place x e = rw e (behind-more front (k, x) (entries_at ms place))
