-- What is written of a value is read as the same value.
use Rattle.std.proofs.Common.{◌≡◌, ℕ, ℤ, ◌+◌, List, [], ◌∷◌, Result, Ok, Err, IfOk, OnOk, codes, refl, ap, ◌∙◌}
use Rattle.fs_path.specs.Document.{document_of, document_text}
use Rattle.fs_path.specs.declared.name.DocName.{DocName}
use Rattle.fs_path.specs.declared.name.Root.{Root}
use Rattle.fs_path.specs.Place.{member_place, item_place}
use Rattle.serde_json.specs.View.{view as json_view}
use Rattle.serde_json.specs.declared.value.Value as written
use Rattle.fs_value.specs.Data.{Data, null, boolean, integer, timestamp, string, bytes, reference, array, object, Items, no_items, item, Members, no_members, member, list_of, items_of, members_of, fields_of}
use Rattle.fs_value.specs.DataLaws.{fields_of-members_of, items_of-list_of, list_of-items_of, members_of-fields_of}
use Rattle.fs_valjson.specs.Document.{document_at, document_json, update_json, untimed}
use Rattle.fs_value.specs.FieldPaths.{map_of}
use Rattle.fs_valjson.specs.Reading.{value_at, items_at, entries_at, list_at, array_at, array_of}
use Rattle.fs_json.specs.Answer.{made}
use Rattle.fs_json.specs.Time.{IsTimeHeld}
use Rattle.fs_valjson.specs.Held.{IsHeld, ItemsAreHeld, MembersAreHeld}
use Rattle.fs_valjson.specs.Writing.{value_json, items_json, members_json, array_json, list_json, HasNames, ItemsHaveNames, MembersHaveNames}

mutual
  pub value_again : (d : Data) (place : List ℕ) → IsHeld d → HasNames d → value_at (value_json d) place ≡ Ok d
  value_again null place h n = refl
  value_again (boolean b) place h n = refl
  value_again (integer z) place h n = rw h refl
  value_again (timestamp t) place h n = ap (made timestamp) (h (member_place place (codes "timestampValue")))
  value_again (string s) place h n = refl
  value_again (bytes b) place h n = rw h refl
  value_again (reference name) place h n = rw (h n) refl
  value_again (array no_items) place h n = refl
  value_again (array (item d ds)) place h n =
      let inside = member_place (member_place place (codes "arrayValue")) (codes "values") in
      ap (made array_of) (items_again (item d ds) 0 inside h n) ∙ ap (λ xs. Ok (array xs)) (items_of-list_of (item d ds))
  value_again (object no_members) place h n = refl
  value_again (object (member k d ms)) place h n =
      let inside = member_place (member_place place (codes "mapValue")) (codes "fields") in
      ap (made map_of) (entries_again (member k d ms) inside h n) ∙ ap (λ xs. Ok (object xs)) (members_of-fields_of (member k d ms))

  items_again : (ds : Items) (i : ℕ) (place : List ℕ) → ItemsAreHeld ds → ItemsHaveNames ds → items_at (items_json ds) i place ≡ Ok (list_of ds)
  items_again no_items i place h n = refl
  items_again (item d ds) i place h n = rw (value_again d (item_place place i) h.0 n.0, items_again ds (i + 1) place h.1 n.1) refl

  entries_again : (ms : Members) (place : List ℕ) → MembersAreHeld ms → MembersHaveNames ms → entries_at (members_json ms) place ≡ Ok (fields_of ms)
  entries_again no_members place h n = refl
  entries_again (member k d ms) place h n = rw (value_again d (member_place place k) h.0 n.0, entries_again ms place h.2 n.1) refl

pub list_again : (ds : List Data) (place : List ℕ) → ItemsAreHeld (items_of ds) → ItemsHaveNames (items_of ds) → list_at (list_json ds) place ≡ Ok ds
list_again ds place h n = items_again (items_of ds) 0 place h n ∙ ap Ok (list_of-items_of ds)

array_again : (ds : List Data) (place : List ℕ) → ItemsAreHeld (items_of ds) → ItemsHaveNames (items_of ds) → array_at (array_json ds) place ≡ Ok ds
array_again [] place h n = refl
array_again (d ∷ ds) place h n = list_again (d ∷ ds) (member_place place (codes "values")) h n

-- the same of what a writer answers
pub reads_back : {E : Type 0} (r : Result written.Value E) (d : Data) → IfOk r (λ j. json_view j ≡ value_json d) → OnOk r (IsHeld d)
    → IfOk r (λ j. (place : List ℕ) → HasNames d → value_at (json_view j) place ≡ Ok d)
reads_back (Ok j) d is held = λ place names. ap (λ x. value_at x place) is ∙ value_again d place held names
reads_back (Err e) d is held = record {}

pub array_reads_back : {E : Type 0} (r : Result written.Value E) (ds : List Data) → IfOk r (λ j. json_view j ≡ array_json ds) → OnOk r (ItemsAreHeld (items_of ds))
    → IfOk r (λ j. (place : List ℕ) → ItemsHaveNames (items_of ds) → array_at (json_view j) place ≡ Ok ds)
array_reads_back (Ok j) ds is held = λ place names. ap (λ x. array_at x place) is ∙ array_again ds place held names
array_reads_back (Err e) ds is held = record {}

-- What is written of a document is read as the same document.
pub document_again : (root : Root) (name : DocName) (fields : List (List ℕ × Data)) (created updated : ℤ) (place : List ℕ) → document_of root (document_text name) ≡ Ok name
    → MembersHaveNames (members_of fields) → MembersAreHeld (members_of fields) → IsTimeHeld created → IsTimeHeld updated
    → document_at root (document_json (record { name = name; fields = fields; created = created; updated = updated })) place
    ≡ Ok (record { name = name; fields = fields; created = created; updated = updated })
unfolding document_at document_json
document_again root name [] created updated place is names held c u =
    rw (is, c (member_place place (codes "createTime")), u (member_place place (codes "updateTime"))) refl
document_again root name (f ∷ fs) created updated place is names held c u =
    let inside = member_place place (codes "fields") in
    rw (
      is,
      entries_again (members_of (f ∷ fs)) inside held names,
      fields_of-members_of fs,
      c (member_place place (codes "createTime")),
      u (member_place place (codes "updateTime")),
    ) refl

-- What is written of an update's document is read as it, without times.
pub update_again : (root : Root) (name : DocName) (fields : List (List ℕ × Data)) (place : List ℕ) → document_of root (document_text name) ≡ Ok name
    → MembersHaveNames (members_of fields) → MembersAreHeld (members_of fields) → document_at root (update_json name fields) place ≡ Ok (untimed name fields)
unfolding document_at update_json
update_again root name [] place is names held = rw is refl
update_again root name (f ∷ fs) place is names held =
    rw (is, entries_again (members_of (f ∷ fs)) (member_place place (codes "fields")) held names, fields_of-members_of fs) refl
