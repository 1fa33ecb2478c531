-- A path of two names or more, from its first name on.
use Rattle.std.proofs.Common.{◌≡◌, ◌≢◌, ℕ, ◌<◌, List, [], ◌∷◌, length, get_or, refl, sym, ap, ◌∙◌, arith}
use Rattle.std.specs.Prelude.{IsTrue, cond, map, Option, Some, None, option_map, option_and_then, unwrap_or}
use Rattle.std.specs.Option.{option_map_or}
use Rattle.std.specs.BTreeMap.{is_at}
use Rattle.std.specs.Map.{lookup}
use Rattle.std.specs.FinMap.{find, put, is_sorted}
use Rattle.fs_path.specs.TextOrder.{text_cmp}
use Rattle.fs_value.specs.Data.{Data, null, array, object, items_of, members_of}
use Rattle.fs_value.specs.DataLaws.{fields_of-members_of}
use Rattle.fs_value.specs.FieldPaths.{map_of, map_fields, fields_below, get_fields, set_fields, unset_fields, unset_below}
use Rattle.fs_value.specs.View.{view}
use Rattle.fs_value.specs.declared.value.Value.{Value}
use Rattle.fs_value.specs.declared.value.Value.TheVariants.{Map}
use Rattle.fs_edit.specs.Below.{value_below}
use Rattle.fs_edit.specs.FieldChange.{value_made, value_changed}
use Rattle.fs_edit.specs.Numbers.{integer_in}
use Rattle.fs_edit.specs.OpenView.{open_view, entry_view}
use Rattle.fs_edit.specs.declared.field_change.FieldChange.{FieldChange}
use Rattle.fs_edit.specs.declared.field_change.FieldChange.TheVariants.{Set, Elements}
use Rattle.fs_edit.specs.declared.open_fields.Open.{Open}
use Rattle.fs_value.proofs.FieldPlaces.{put_same}
use Rattle.fs_value.proofs.PathSteps.{get_nothing, no_map, rest, rest_is, unset_more}
use Rattle.fs_edit.proofs.Entries.{Rise, found, changed, rising}

-- ---- what is found

itself : (o : Option Data) → o ≡ option_and_then (value_below []) o
itself None = refl
itself (Some d) = refl

below : (k : List ℕ) (ks : List (List ℕ)) (o : Option Data) → get_fields (k ∷ ks) (fields_below o) ≡ option_and_then (value_below (k ∷ ks)) o
below k ks None = get_nothing (k ∷ ks)
below k ks (Some d) = refl

-- a name further
pub get_more : (names : List (List ℕ)) (k : List ℕ) (fs : List (List ℕ × Data)) → 0 < length names → k ≡ get_or names 0 k → get_fields names fs ≡ option_and_then (value_below (rest names)) (find text_cmp k fs)
get_more [] k fs more is = absurd (omega arith)
get_more (n ∷ []) k fs more is = ap (λ x. find text_cmp x fs) (sym is) ∙ itself (find text_cmp k fs)
get_more (n ∷ l ∷ ks) k fs more is =
    ap (λ x. get_fields (l ∷ ks) (fields_below (find text_cmp x fs))) (sym is)
    ∙ below l ks (find text_cmp k fs)
    ∙ ap (λ xs. option_and_then (value_below xs) (find text_cmp k fs)) (sym (rest_is n (l ∷ ks)))

-- the integer below a map, which is none itself
pub get_map : (names : List (List ℕ)) (fs : List (List ℕ × Data)) → integer_in (get_fields names fs) ≡ integer_in (value_below names (object (members_of fs)))
get_map [] fs = refl
get_map (k ∷ ks) fs = ap (λ xs. integer_in (get_fields (k ∷ ks) xs)) (sym (fields_of-members_of fs))

-- an array is no integer, and none is below it
pub get_array : (names : List (List ℕ)) (ds : List Data) → None ≡ integer_in (value_below names (array (items_of ds)))
get_array [] ds = refl
get_array (k ∷ ks) ds = ap integer_in (sym (get_nothing (k ∷ ks)))

-- in a map that isn't opened
pub within_map : (names : List (List ℕ)) (k : List ℕ) (d : Data) (fs : List (List ℕ × Data)) (o : Option Data) → 0 < length names → k ≡ get_or names 0 k → d ≡ object (members_of fs)
    → find text_cmp k fs ≡ o → value_below names d ≡ option_and_then (value_below (rest names)) o
within_map [] k d fs o more first is at = absurd (omega arith)
within_map (n ∷ ks) k d fs o more first is at =
    ap (λ x. get_fields (n ∷ ks) (fields_below (Some x))) is
    ∙ ap (get_fields (n ∷ ks)) (fields_of-members_of fs)
    ∙ get_more (n ∷ ks) k fs more first
    ∙ ap (option_and_then (value_below (rest (n ∷ ks)))) at

-- below a value that is no map
pub within_other : (names : List (List ℕ)) (v : Value) → 0 < length names → ((fs : List (List ℕ × Data)) → v ≢ Map fs) → value_below names (view v) ≡ None
within_other [] v more h = absurd (omega arith)
within_other (n ∷ ks) v more h = ap (λ o. get_fields (n ∷ ks) (unwrap_or o [])) (no_map v h) ∙ get_nothing (n ∷ ks)

-- ---- what is set and taken out

-- a change of a value, from its first name on
change_more : (names : List (List ℕ)) (k : List ℕ) (c : FieldChange) (fs : List (List ℕ × Data)) → 0 < length names → k ≡ get_or names 0 k
    → set_fields names (value_made c (get_fields names fs)) fs ≡ put text_cmp k (value_changed (rest names) c (find text_cmp k fs)) fs
change_more [] k c fs more is = absurd (omega arith)
change_more (n ∷ []) k c fs more is = λ i. put text_cmp (sym is i) (value_made c (find text_cmp (sym is i) fs)) fs
change_more (n ∷ l ∷ ks) k c fs more is = λ i. put text_cmp (sym is i) (value_changed (sym (rest_is n (l ∷ ks)) i) c (find text_cmp (sym is i) fs)) fs

-- ---- at a key that is there

-- a value with a change
pub change_there : (names : List (List ℕ)) (key : List ℕ) (c : FieldChange) (es fs : List (List ℕ × Open)) (was now : Open) → 0 < length names → key ≡ get_or names 0 key → Rise es → Rise fs
    → lookup (is_at (text_cmp key)) es ≡ Some was → ((q : List ℕ) → lookup (is_at (text_cmp q)) fs ≡ cond (is_at (text_cmp key) q) (Some now) (lookup (is_at (text_cmp q)) es))
    → open_view now ≡ value_changed (rest names) c (Some (open_view was))
    → map entry_view fs ≡ set_fields names (value_made c (get_fields names (map entry_view es))) (map entry_view es)
change_there names key c es fs was now more first old new there is set =
    changed es fs key now old new is
    ∙ ap (λ d. put text_cmp key d (map entry_view es)) set
    ∙ ap (λ o. put text_cmp key (value_changed (rest names) c o) (map entry_view es)) (sym (found es key ∙ ap (option_map open_view) there))
    ∙ sym (change_more names key c (map entry_view es) more first)

-- without what is below it, or as it was
unset_value : (names : List (List ℕ)) (key : List ℕ) (d : Data) (fs : List (List ℕ × Data)) (o : Option (List (List ℕ × Data))) → IsTrue (is_sorted text_cmp fs) → find text_cmp key fs ≡ Some d
    → put text_cmp key (option_map_or (λ ms. map_of (unset_fields names ms)) o d) fs ≡ option_map_or (λ ms. put text_cmp key (map_of (unset_fields names ms)) fs) o fs
unset_value names key d fs None rise is = put_same key d fs rise is
unset_value names key d fs (Some ms) rise is = refl

pub unset_there : (names : List (List ℕ)) (key : List ℕ) (es fs : List (List ℕ × Open)) (was now : Open) → 1 < length names → key ≡ get_or names 0 key → Rise es → Rise fs
    → lookup (is_at (text_cmp key)) es ≡ Some was → ((q : List ℕ) → lookup (is_at (text_cmp q)) fs ≡ cond (is_at (text_cmp key) q) (Some now) (lookup (is_at (text_cmp q)) es))
    → open_view now ≡ unset_below (rest names) (open_view was)
    → map entry_view fs ≡ unset_fields names (map entry_view es)
unset_there names key es fs was now more first old new there is unset =
    let F = map entry_view es in
    let here : find text_cmp key F ≡ Some (open_view was) = found es key ∙ ap (option_map open_view) there in
    changed es fs key now old new is
    ∙ ap (λ d. put text_cmp key d F) unset
    ∙ unset_value (rest names) key (open_view was) F (map_fields (open_view was)) (rising es old) here
    ∙ ap (λ o. option_map_or (λ ms. put text_cmp key (map_of (unset_fields (rest names) ms)) F) (option_and_then map_fields o) F) (sym here)
    ∙ sym (unset_more names key F more first)

-- ---- at a key that isn't there

-- a change makes of null what it makes of no value
pub changed_of_null : (names : List (List ℕ)) (c : FieldChange) → value_changed names c (Some null) ≡ value_changed names c None
changed_of_null [] (Set v) = refl
changed_of_null [] (Elements c) = refl
changed_of_null (k ∷ ks) c = refl

pub change_missing : (names : List (List ℕ)) (key : List ℕ) (c : FieldChange) (fs same new : List (List ℕ × Data)) → 0 < length names → key ≡ get_or names 0 key → find text_cmp key fs ≡ None
    → same ≡ fs → new ≡ put text_cmp key (value_changed (rest names) c None) same → new ≡ set_fields names (value_made c (get_fields names fs)) fs
change_missing names key c fs same new more first missing are is =
    is
    ∙ (λ i. put text_cmp key (value_changed (rest names) c (sym missing i)) (are i))
    ∙ sym (change_more names key c fs more first)
