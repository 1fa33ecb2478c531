-- A path, from its first name on.
use Rattle.std.proofs.Common.{◌≡◌, ◌≢◌, ℕ, ◌<◌, List, [], ◌∷◌, Option, Some, None, map, length, get_or, set, take, drop, ◌-◌, refl, sym, ap, ◌∙◌, arith}
use Rattle.std.specs.Prelude.{option_and_then, unwrap_or}
use Rattle.std.specs.Option.{option_map_or}
use Rattle.std.specs.FinMap.{find, put}
use Rattle.std.proofs.lemmas.List.{take_all}
use Rattle.fs_path.specs.TextOrder.{text_cmp}
use Rattle.fs_value.specs.Data.{Data, object, members_of}
use Rattle.fs_value.specs.DataLaws.{fields_of-members_of}
use Rattle.fs_value.specs.FieldPaths.{map_of, map_fields, fields_under, fields_below, get_fields, set_fields, unset_fields}
use Rattle.fs_value.specs.FieldPlace.{IsFoundAt}
use Rattle.fs_value.specs.SetBelow.{set_below}
use Rattle.fs_value.specs.View.{view, field_view}
use Rattle.fs_value.specs.declared.value.Value.{Value}
use Rattle.fs_value.specs.declared.value.Value.TheVariants.{Null, Boolean, Integer, Timestamp, String, Bytes, Reference, Array, Map}
use Rattle.fs_value.specs.declared.fields.Field.{Field}
use Rattle.fs_value.proofs.FieldPlaces.{found_there, replaced, kept}

-- ---- one name more

-- the names after the first, as a pattern leaves them
abbrev pub rest : List (List ℕ) → List (List ℕ)
rest names = take (length names - 1) (drop 1 names)

pub rest_is : (n : List ℕ) (ks : List (List ℕ)) → rest (n ∷ ks) ≡ ks
rest_is n ks = take_all _ ks (omega arith)

pub first_name : (names : List (List ℕ)) (k n : List ℕ) → k ≡ n → n ≡ get_or names 0 n → k ≡ get_or names 0 k
first_name [] k n same is = refl
first_name (x ∷ ks) k n same is = same ∙ is

pub get_more : (names : List (List ℕ)) (k : List ℕ) (fs : List (List ℕ × Data)) → 1 < length names → k ≡ get_or names 0 k → get_fields names fs ≡ get_fields (rest names) (fields_below (find text_cmp k fs))
get_more [] k fs more is = absurd (omega arith)
get_more (n ∷ []) k fs more is = absurd (omega arith)
get_more (n ∷ l ∷ ks) k fs more is = λ i. get_fields (sym (rest_is n (l ∷ ks)) i) (fields_below (find text_cmp (sym is i) fs))

set_more : (names : List (List ℕ)) (k : List ℕ) (v : Data) (fs : List (List ℕ × Data)) → 0 < length names → k ≡ get_or names 0 k
    → set_fields names v fs ≡ put text_cmp k (set_below (rest names) v (find text_cmp k fs)) fs
set_more [] k v fs more is = absurd (omega arith)
set_more (n ∷ []) k v fs more is = λ i. put text_cmp (sym is i) v fs
set_more (n ∷ l ∷ ks) k v fs more is = λ i. put text_cmp (sym is i) (set_below (sym (rest_is n (l ∷ ks)) i) v (find text_cmp (sym is i) fs)) fs

pub unset_more : (names : List (List ℕ)) (k : List ℕ) (fs : List (List ℕ × Data)) → 1 < length names → k ≡ get_or names 0 k
    → unset_fields names fs ≡ option_map_or (λ ms. put text_cmp k (map_of (unset_fields (rest names) ms)) fs) (fields_under k fs) fs
unset_more [] k fs more is = absurd (omega arith)
unset_more (n ∷ []) k fs more is = absurd (omega arith)
unset_more (n ∷ l ∷ ks) k fs more is = λ i. option_map_or (λ ms. put text_cmp (sym is i) (map_of (unset_fields (sym (rest_is n (l ∷ ks)) i) ms)) fs) (fields_under (sym is i) fs) fs

-- ---- below a value that isn't there, or is no map

pub get_nothing : (names : List (List ℕ)) → get_fields names [] ≡ None
get_nothing [] = refl
get_nothing (n ∷ []) = refl
get_nothing (n ∷ l ∷ ks) = get_nothing (l ∷ ks)

pub get_missing : (names : List (List ℕ)) (k : List ℕ) (fs : List (List ℕ × Data)) → 1 < length names → k ≡ get_or names 0 k → find text_cmp k fs ≡ None → get_fields names fs ≡ None
get_missing names k fs more is missing =
    get_more names k fs more is ∙ ap (λ o. get_fields (rest names) (unwrap_or (option_and_then map_fields o) [])) missing ∙ get_nothing (rest names)

pub get_below : (names : List (List ℕ)) (k : List ℕ) (d : Data) (fs : List (List ℕ × Data)) → 1 < length names → k ≡ get_or names 0 k → find text_cmp k fs ≡ Some d
    → get_fields names fs ≡ get_fields (rest names) (unwrap_or (map_fields d) [])
get_below names k d fs more is found =
    get_more names k fs more is ∙ ap (λ o. get_fields (rest names) (unwrap_or (option_and_then map_fields o) [])) found

-- a value that is no map has no fields
pub no_map : (v : Value) → ((fs : List (List ℕ × Data)) → v ≢ Map fs) → map_fields (view v) ≡ None
no_map Null h = refl
no_map (Boolean b) h = refl
no_map (Integer n) h = refl
no_map (Timestamp t) h = refl
no_map (String s) h = refl
no_map (Bytes s) h = refl
no_map (Reference n) h = refl
no_map (Array vs) h = refl
no_map (Map fs) h = absurd (h fs refl)

pub get_no_map : (names : List (List ℕ)) (k : List ℕ) (v : Value) (fs : List (List ℕ × Data)) → 1 < length names → k ≡ get_or names 0 k → find text_cmp k fs ≡ Some (view v)
    → ((gs : List (List ℕ × Data)) → v ≢ Map gs) → get_fields names fs ≡ None
get_no_map names k v fs more is found none =
    get_below names k (view v) fs more is found ∙ ap (λ o. get_fields (rest names) (unwrap_or o [])) (no_map v none) ∙ get_nothing (rest names)

-- so a value set below it makes of it what it makes of none
pub set_no_map : (names : List (List ℕ)) (d : Data) (v : Value) → ((fs : List (List ℕ × Data)) → v ≢ Map fs) → set_below names d None ≡ set_below names d (Some (view v))
set_no_map [] d v h = refl
set_no_map (k ∷ ks) d v h = ap (λ o. map_of (set_fields (k ∷ ks) d (unwrap_or o []))) (sym (no_map v h))

pub set_whole : (names : List (List ℕ)) (d : Data) (o : Option Data) → length names ≡ 0 → set_below names d None ≡ set_below names d o
set_whole [] d o none = refl
set_whole (k ∷ ks) d o none = absurd (omega arith)

-- ---- at a key's place

pub set_there : (key : List ℕ) (names : List (List ℕ)) (v : Data) (fs : List Field) (i : ℕ) (r : Field) (w : Value) → 0 < length names → key ≡ get_or names 0 key
    → IsFoundAt key (map field_view fs) i → r ≡ get_or fs i r → view w ≡ set_below (rest names) v (Some (view r.value))
    → map field_view (set fs i (record { key = r.key; value = w })) ≡ set_fields names v (map field_view fs)
set_there key names v fs i r w more is at here new =
    replaced key fs i r w at here
    ∙ ap (λ d. put text_cmp key d (map field_view fs)) new
    ∙ ap (λ o. put text_cmp key (set_below (rest names) v o) (map field_view fs)) (sym (found_there key fs i r at here))
    ∙ sym (set_more names key v (map field_view fs) more is)

pub set_missing : (key copy : List ℕ) (names : List (List ℕ)) (v : Data) (fs new : List (List ℕ × Data)) (w : Data) → 0 < length names → key ≡ get_or names 0 key → copy ≡ key → find text_cmp key fs ≡ None
    → w ≡ set_below (rest names) v None → new ≡ put text_cmp copy w fs → new ≡ set_fields names v fs
set_missing key copy names v fs new w more is copied missing made put_there =
    put_there
    ∙ (λ i. put text_cmp (copied i) (made i) fs)
    ∙ ap (λ o. put text_cmp key (set_below (rest names) v o) fs) (sym missing)
    ∙ sym (set_more names key v fs more is)

-- the value at the place is without what is below it, or as it was
unset_value : (key : List ℕ) (ks : List (List ℕ)) (fs : List Field) (i : ℕ) (r : Field) (w : Value) → IsFoundAt key (map field_view fs) i → r ≡ get_or fs i r
    → (o : Option (List (List ℕ × Data))) → view w ≡ option_map_or (λ ms. map_of (unset_fields ks ms)) o (view r.value)
    → map field_view (set fs i (record { key = r.key; value = w })) ≡ option_map_or (λ ms. put text_cmp key (map_of (unset_fields ks ms)) (map field_view fs)) o (map field_view fs)
unset_value key ks fs i r w at here None new = kept fs i r w here new
unset_value key ks fs i r w at here (Some ms) new = replaced key fs i r w at here ∙ ap (λ d. put text_cmp key d (map field_view fs)) new

pub unset_there : (key : List ℕ) (names : List (List ℕ)) (fs : List Field) (i : ℕ) (r : Field) (w : Value) → 1 < length names → key ≡ get_or names 0 key
    → IsFoundAt key (map field_view fs) i → r ≡ get_or fs i r → view w ≡ option_map_or (λ ms. map_of (unset_fields (rest names) ms)) (map_fields (view r.value)) (view r.value)
    → map field_view (set fs i (record { key = r.key; value = w })) ≡ unset_fields names (map field_view fs)
unset_there key names fs i r w more is at here new =
    let F = map field_view fs in
    unset_value key (rest names) fs i r w at here (map_fields (view r.value)) new
    ∙ ap (λ o. option_map_or (λ ms. put text_cmp key (map_of (unset_fields (rest names) ms)) F) (option_and_then map_fields o) F) (sym (found_there key fs i r at here))
    ∙ sym (unset_more names key F more is)

pub unset_missing : (key : List ℕ) (names : List (List ℕ)) (fs : List (List ℕ × Data)) → 1 < length names → key ≡ get_or names 0 key → find text_cmp key fs ≡ None → fs ≡ unset_fields names fs
unset_missing key names fs more is missing =
    ap (λ o. option_map_or (λ ms. put text_cmp key (map_of (unset_fields (rest names) ms)) fs) (option_and_then map_fields o) fs) (sym missing)
    ∙ sym (unset_more names key fs more is)

-- ---- in a map

pub set_map : (names : List (List ℕ)) (v : Data) (d : Data) (fs gs : List (List ℕ × Data)) → 0 < length names → d ≡ object (members_of fs) → gs ≡ set_fields names v fs
    → object (members_of gs) ≡ set_below names v (Some d)
set_map [] v d fs gs some is new = absurd (omega arith)
set_map (k ∷ ks) v d fs gs some is new =
    ap map_of new ∙ ap (λ ms. map_of (set_fields (k ∷ ks) v ms)) (sym (fields_of-members_of fs)) ∙ ap (λ x. set_below (k ∷ ks) v (Some x)) (sym is)

pub unset_map : (names : List (List ℕ)) (d : Data) (fs gs : List (List ℕ × Data)) → d ≡ object (members_of fs) → gs ≡ unset_fields names fs
    → object (members_of gs) ≡ option_map_or (λ ms. map_of (unset_fields names ms)) (map_fields d) d
unset_map names d fs gs is new =
    ap map_of new ∙ ap (λ ms. map_of (unset_fields names ms)) (sym (fields_of-members_of fs)) ∙ ap (λ x. option_map_or (λ ms. map_of (unset_fields names ms)) (map_fields x) x) (sym is)

pub get_map : (names : List (List ℕ)) (d : Data) (fs : List (List ℕ × Data)) → d ≡ object (members_of fs) → get_fields names fs ≡ get_fields names (unwrap_or (map_fields d) [])
get_map names d fs is = ap (get_fields names) (sym (fields_of-members_of fs)) ∙ ap (λ x. get_fields names (unwrap_or (map_fields x) [])) (sym is)
