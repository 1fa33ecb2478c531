-- What is written so far, with one more value or field.
use Rattle.std.proofs.Common.{◌≡◌, ℕ, List, [], ◌∷◌, ◌++◌, map, take, length, Less, Greater, String, Vec, BTreeMap, Global, codes, zero, suc, refl, ap, ◌∙◌}
use Rattle.std.specs.Prelude.{IsTrue}
use Rattle.std.specs.Ordering.{ordering_reverse}
use Rattle.std.specs.FinMap.{is_sorted}
use Rattle.std.specs.FinMap.Entries.{below_all}
use Rattle.std.proofs.lemmas.Bool.{and_from, and_parts}
use Rattle.std.proofs.lemmas.Cmp.{nat_list_cmp_total}
use Rattle.std.proofs.Math.Seq.{take-nil}
use Rattle.serde_json.specs.Data as json
use Rattle.serde_json.specs.View.{view as json_view, items_view, members_view}
use Rattle.serde_json.specs.declared.value.Value as written
use Rattle.serde_json.proofs.Views.{Entry, view-Array, view-Object}
use Rattle.fs_path.specs.TextOrder.{text_cmp}
use Rattle.fs_path.proofs.Orders.{less_is}
use Rattle.fs_value.specs.Data.{Data, items_of, members_of}
use Rattle.fs_value.specs.DataLaws.{fields_of-members_of}
use Rattle.fs_value.specs.View.{field_view}
use Rattle.fs_value.specs.declared.fields.Field.{Field}
use Rattle.fs_valjson.specs.Document.{with_fields}
use Rattle.fs_valjson.specs.Steps.{with_fields_put}
use Rattle.fs_valjson.specs.Held.{IsHeld, ItemsAreHeld, MembersAreHeld}
use Rattle.fs_valjson.specs.Writing.{value_json, items_json, members_json, list_content, fields_content}
use Rattle.fs_json.specs.Members.{with_one}

-- ---- values

pub items_push : (js : List written.Value) (j : written.Value) (ds : List Data) (d : Data) → items_view js ≡ items_json (items_of ds) → json_view j ≡ value_json d
    → items_view (js ++ j ∷ []) ≡ items_json (items_of (ds ++ d ∷ []))
items_push [] j [] d written one = ap (λ x. json.item x json.no_items) one
items_push [] j (e ∷ ds) d written one = cc
items_push (x ∷ js) j [] d written one = cc
items_push (x ∷ js) j (e ∷ ds) d written one =
    let head : json_view x ≡ value_json e = cc in
    let rest : items_view js ≡ items_json (items_of ds) = cc in
    rw (head, items_push js j ds d rest one) refl

pub held_push : (ds : List Data) (d : Data) → ItemsAreHeld (items_of ds) → IsHeld d → ItemsAreHeld (items_of (ds ++ d ∷ []))
held_push [] d h one = (one, tt)
held_push (e ∷ ds) d h one = (h.0, held_push ds d h.1 one)

-- ---- fields

below_last : (k : List ℕ) (fs : List (List ℕ × Data)) (f : List ℕ × Data) → IsTrue (below_all text_cmp k (fs ++ f ∷ [])) → text_cmp k f.0 ≡ Less
below_last k [] f h = less_is _ (and_parts _ _ h).0
below_last k (g ∷ fs) f h = below_last k fs f (and_parts _ _ h).1

-- a key above those before it goes last
pub put_last : (fs : List (List ℕ × Data)) (k : List ℕ) (d : Data) → IsTrue (is_sorted text_cmp (fs ++ (k, d) ∷ []))
    → json.put k (value_json d) (members_json (members_of fs)) ≡ members_json (members_of (fs ++ (k, d) ∷ []))
put_last [] k d h = refl
put_last (f ∷ fs) k d h =
    let above : text_cmp k f.0 ≡ Greater = nat_list_cmp_total.antisymm k f.0 ∙ ap ordering_reverse (below_last f.0 fs (k, d) (and_parts _ _ h).0) in
    rw above (ap (json.member f.0 (value_json f.1)) (put_last fs k d (and_parts _ _ h).1))

pub members_held_push : (fs : List (List ℕ × Data)) (k : List ℕ) (d : Data) → MembersAreHeld (members_of fs) → IsHeld d → IsTrue (is_sorted text_cmp (fs ++ (k, d) ∷ []))
    → MembersAreHeld (members_of (fs ++ (k, d) ∷ []))
members_held_push [] k d h one rise = (one, refl, tt)
members_held_push (e ∷ fs) k d h one rise =
    let parts = and_parts (below_all text_cmp e.0 (fs ++ (k, d) ∷ [])) _ rise in
    (h.0, ap (below_all text_cmp e.0) (fields_of-members_of (fs ++ (k, d) ∷ [])) ∙ parts.0, members_held_push fs k d h.2 one parts.1)

below_taken : (k : List ℕ) (n : ℕ) (fs : List Field) → IsTrue (below_all text_cmp k (map field_view fs)) → IsTrue (below_all text_cmp k (map field_view (take n fs)))
below_taken k n [] h = rw take-nil refl
below_taken k zero (f ∷ fs) h = refl
below_taken k (suc n) (f ∷ fs) h = and_from _ _ (and_parts _ _ h).0 (below_taken k n fs (and_parts _ _ h).1)

-- the first fields rise too
pub rising_taken : (n : ℕ) (fs : List Field) → IsTrue (is_sorted text_cmp (map field_view fs)) → IsTrue (is_sorted text_cmp (map field_view (take n fs)))
rising_taken n [] h = rw take-nil refl
rising_taken zero (f ∷ fs) h = refl
rising_taken (suc n) (f ∷ fs) h = and_from _ _ (below_taken f.key n fs (and_parts _ _ h).0) (rising_taken n fs (and_parts _ _ h).1)

-- ---- lists that aren't empty

filled_items : (vs : List written.Value) → (length vs ≡ 0 → ⊥) → with_one (codes "values") (json.array (items_view vs)) ≡ list_content (items_view vs)
filled_items [] h = absurd (h refl)
filled_items (v ∷ vs) h = refl

pub filled_list : (v : Vec written.Value Global) → (length v.items ≡ 0 → ⊥) → with_one (codes "values") (json_view (written.Array v)) ≡ list_content (items_view v.items)
filled_list v h = ap (with_one (codes "values")) (view-Array v) ∙ filled_items v.items h

filled_members : (es : List Entry) → (length es ≡ 0 → ⊥) → with_one (codes "fields") (json.object (members_view es)) ≡ fields_content (members_view es)
filled_members [] h = absurd (h refl)
filled_members (e ∷ es) h = refl

pub filled_map : (m : BTreeMap (String Global) written.Value) → (length m.entries ≡ 0 → ⊥) → with_one (codes "fields") (json_view (written.Object m)) ≡ fields_content (members_view m.entries)
filled_map m h = ap (with_one (codes "fields")) (view-Object m) ∙ filled_members m.entries h

put_filled : (es : List Entry) (others : json.Members) → (length es ≡ 0 → ⊥) → json.put (codes "fields") (json.object (members_view es)) others ≡ with_fields_put (members_view es) others
put_filled [] others h = absurd (h refl)
put_filled (e ∷ es) others h = refl

pub filled_put : (m : BTreeMap (String Global) written.Value) (others : json.Members) → (length m.entries ≡ 0 → ⊥)
    → json.put (codes "fields") (json_view (written.Object m)) others ≡ with_fields_put (members_view m.entries) others
filled_put m others h = ap (λ d. json.put (codes "fields") d others) (view-Object m) ∙ put_filled m.entries others h

-- the members of an update's document, put in one after another
pub update_put : (name : List ℕ) (fields : json.Members)
    → json.put (codes "name") (json.string name) (with_fields_put fields json.no_members) ≡ with_fields fields (json.member (codes "name") (json.string name) json.no_members)
update_put name json.no_members = refl
update_put name (json.member k d ms) = refl
