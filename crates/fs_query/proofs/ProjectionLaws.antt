-- The laws of projections.
use Rattle.std.proofs.Common.{◌≡◌, ◌≢◌, ℕ, ◌<◌, Bool, true, false, cond, List, [], ◌∷◌, ◌++◌, map, length, Less, Equal, Greater, ◌⊎◌, inl, inr, refl, sym, ap, ◌∙◌, subst, arith}
use Rattle.std.specs.Prelude.{Option, Some, None, ◌&&◌, option_and_then}
use Rattle.std.specs.FinMap.{find, is_sorted}
use Rattle.std.specs.FinMap.Entries.{below_all}
use Rattle.std.specs.List.{Contains, starts_with}
use Rattle.std.specs.Ordering.{is_eq, is_lt, eq_by_cmp}
use Rattle.std.specs.declared.cmp.Ordering.{Ordering}
use Rattle.std.proofs.lemmas.List.Elements.{Contains-append_cases, Contains-append_left, Contains-append_right}
use Rattle.fs_path.specs.TextOrder.{text_cmp, text_eq, text_ties}
use Rattle.fs_path.specs.declared.field.FieldPath.{FieldPath}
use Rattle.fs_value.specs.Data.{Data, object, members_of, fields_of, Members, no_members, member}
use Rattle.fs_value.specs.DataLaws.{fields_of-members_of, members_of-fields_of}
use Rattle.fs_value.specs.FieldPaths.{map_of, fields_below, get_fields, IsApart}
use Rattle.fs_value.specs.Ordered.{is_ordered, members_ordered}
use Rattle.fs_query.specs.Laws.{PathsAreKept, OthersAreLeftOut, NoMapIsLeftEmpty}
use Rattle.fs_query.specs.Project.{ends_here, rest_behind, rests, if_any, kept_of, kept}
use Rattle.fs_query.proofs.Projected.{AtMost, none, one, at_most_one, below_kept, first_true, second_true}
use Rattle.fs_path.proofs.Elements.{has_first, has_later}
use Rattle.fs_query.proofs.Rising.{has_cases, has_none}
use Rattle.fs_path.specs.TextOrder.{text_alike, text_is, text_itself}
use Rattle.fs_value.proofs.PathLaws.{apart_below}

-- ---- one key

same_text : (k : List ℕ) → text_eq k k ≡ true
same_text k = text_ties k k ∙ text_itself k

-- ---- the rests of paths behind a key

rest_in_by : (key k : List ℕ) (ks r : List (List ℕ)) (b : Bool) → text_eq k key ≡ b → Contains (cond b (ks ∷ []) []) r → (key ∷ r) ≡ (k ∷ ks)
rest_in_by key k ks r true e h = elim (has_cases ks [] r h) [ inl s ↦ (λ i. sym (text_is k key e) i ∷ sym s i) | inr s ↦ absurd (has_none r s) ]
rest_in_by key k ks r false e h = absurd (has_none r h)

-- each rest is that of one of the paths
pub rest_in : (key : List ℕ) (ps : List (List (List ℕ))) (r : List (List ℕ)) → Contains (rests key ps) r → Contains ps (key ∷ r)
rest_in key [] r h = absurd (has_none r h)
rest_in key ([] ∷ ps) r h = has_later [] ps (key ∷ r) (rest_in key ps r h)
rest_in key ((k ∷ ks) ∷ ps) r h =
    elim (Contains-append_cases (cond (text_eq k key) (ks ∷ []) []) (rests key ps) r h) [
      | inl s ↦ subst (λ p. Contains (p ∷ ps) (key ∷ r)) (rest_in_by key k ks r (text_eq k key) refl s) (has_first (key ∷ r) ps)
      | inr s ↦ has_later (k ∷ ks) ps (key ∷ r) (rest_in key ps r s)
    ]

-- and the rest of each path that begins with the key is there
pub in_rests : (key : List ℕ) (ps : List (List (List ℕ))) (r : List (List ℕ)) → Contains ps (key ∷ r) → Contains (rests key ps) r
in_rests key [] r h = absurd (has_none (key ∷ r) h)
in_rests key (p ∷ ps) r h =
    elim (has_cases p ps (key ∷ r) h) [
      | inl s ↦ Contains-append_left (rest_behind key p) (rests key ps) r
          (subst (λ q. Contains (rest_behind key q) r) (sym s) (subst (λ b. Contains (cond b (r ∷ []) []) r) (sym (same_text key)) (has_first r [])))
      | inr s ↦ Contains-append_right (rest_behind key p) (rests key ps) r (in_rests key ps r s)
    ]

pub ends_in : (ps : List (List (List ℕ))) → ends_here ps ≡ true → Contains ps []
ends_in [] h = absurd (cc)
ends_in ([] ∷ ps) h = has_first [] ps
ends_in ((k ∷ ks) ∷ ps) h = has_later (k ∷ ks) ps [] (ends_in ps h)

pub in_ends : (ps : List (List (List ℕ))) → Contains ps [] → ends_here ps ≡ true
in_ends [] h = absurd (has_none [] h)
in_ends ([] ∷ ps) h = refl
in_ends ((k ∷ ks) ∷ ps) h = elim (has_cases (k ∷ ks) ps [] h) [ inl s ↦ absurd (cc) | inr s ↦ in_ends ps s ]

-- ---- what is found at a key of what is kept

-- the value of at most one field
abbrev only : List (List ℕ × Data) → Option Data
only [] = None
only (f ∷ fs) = Some f.1

-- what is found at a key is kept of a field at that key
pub data Found (ps : List (List (List ℕ))) (k : List ℕ) (v : Data) : Type 0 where
  kept_from : (d : Data) → only (kept_of (rests k ps) k d) ≡ Some v → Found ps k v

found_here : (ps : List (List (List ℕ))) (k key : List ℕ) (d v : Data) (gs rest : List (List ℕ × Data)) → AtMost key gs → kept_of (rests key ps) key d ≡ gs
    → find text_cmp k (gs ++ rest) ≡ Some v → (find text_cmp k rest ≡ Some v → Found ps k v) → Found ps k v
found_here ps k key d v gs rest none is h later = later h
found_here ps k key d v gs rest (one e) is h later =
    elim (eq_by_cmp text_cmp k key) as (λ b. eq_by_cmp text_cmp k key ≡ b → cond b (Some e) (find text_cmp k rest) ≡ Some v → Found ps k v) [
      | true ↦ λ t h. kept_from d (subst (λ l. only (kept_of (rests l ps) l d) ≡ Some v) (sym (text_alike k key t)) (ap only is ∙ h))
      | false ↦ λ t h. later h
    ] refl h

pub found_kept : (ps : List (List (List ℕ))) (k : List ℕ) (v : Data) (ms : Members) → find text_cmp k (kept ps ms) ≡ Some v → Found ps k v
found_kept ps k v no_members h = absurd (cc)
found_kept ps k v (member key d ms) h =
    found_here ps k key d v (kept_of (rests key ps) key d) (kept ps ms) (at_most_one (rests key ps) key d) refl h (found_kept ps k v ms)

-- ---- how a value is kept

-- whole, where a path ends, or as the map of what is kept in it, if that is anything
abbrev IsPart : List (List (List ℕ)) → Data → Data → Type 0
IsPart rs d v = (ms : Members) × (d ≡ object ms) × (v ≡ map_of (kept rs ms)) × (kept rs ms ≢ [])

part_how : (rs : List (List (List ℕ))) (k : List ℕ) (ms : Members) (v : Data) (gs : List (List ℕ × Data)) → kept rs ms ≡ gs → only (if_any k gs) ≡ Some v → IsPart rs (object ms) v
part_how rs k ms v [] is h = absurd (cc)
part_how rs k ms v (f ∷ fs) is h =
    let same : map_of (f ∷ fs) ≡ v = cc in
    (ms, refl, sym same ∙ ap map_of (sym is), λ e. absurd (cc (is, e)))

map_how : (rs : List (List (List ℕ))) (k : List ℕ) (ms : Members) (v : Data) (b : Bool) → ends_here rs ≡ b → only (cond b ((k, object ms) ∷ []) (if_any k (kept rs ms))) ≡ Some v
    → ((ends_here rs ≡ true) × (v ≡ object ms)) ⊎ IsPart rs (object ms) v
map_how rs k ms v true ends h = let same : object ms ≡ v = cc in inl (ends, sym same)
map_how rs k ms v false ends h = inr (part_how rs k ms v (kept rs ms) refl h)

plain_how : (rs : List (List (List ℕ))) (k : List ℕ) (d v : Data) (b : Bool) → ends_here rs ≡ b → only (cond b ((k, d) ∷ []) []) ≡ Some v → ((ends_here rs ≡ true) × (v ≡ d)) ⊎ IsPart rs d v
plain_how rs k d v true ends h = let same : d ≡ v = cc in inl (ends, sym same)
plain_how rs k d v false ends h = absurd (cc)

kept_how : (rs : List (List (List ℕ))) (k : List ℕ) (d v : Data) → only (kept_of rs k d) ≡ Some v → ((ends_here rs ≡ true) × (v ≡ d)) ⊎ IsPart rs d v
kept_how rs k (object ms) v h = map_how rs k ms v (ends_here rs) refl h
kept_how rs k d v h = plain_how rs k d v (ends_here rs) refl h

get_nothing : (l : List ℕ) (ks : List (List ℕ)) → get_fields (l ∷ ks) [] ≡ None
get_nothing l [] = refl
get_nothing l (m ∷ ks) = get_nothing m ks

-- what is below a key, by what is found at it
below_map : (v : Data) (gs : List (List ℕ × Data)) → v ≡ map_of gs → fields_below (Some v) ≡ gs
below_map v gs e = ap (λ d. fields_below (Some d)) e ∙ fields_of-members_of gs

begins : (k : List ℕ) (xs r : List (List ℕ)) → starts_with text_eq xs r ≡ true → starts_with text_eq (k ∷ xs) (k ∷ r) ≡ true
begins k xs r h = ap (λ b. b && starts_with text_eq xs r) (same_text k) ∙ h

-- ---- what is apart from the paths is left out

mutual
  none_of : (key : List ℕ) (d : Data) → kept_of [] key d ≡ []
  none_of key (object ms) = ap (if_any key) (none_in ms)
  none_of key d = refl

  none_in : (ms : Members) → kept [] ms ≡ []
  none_in no_members = refl
  none_in (member key d ms) = λ i. none_of key d i ++ none_in ms i

no_paths : (rs : List (List (List ℕ))) → ((r : List (List ℕ)) → ¬ Contains rs r) → rs ≡ []
no_paths [] h = refl
no_paths (r ∷ rs) h = absurd (h r (has_first r rs))

-- no path ends at a key above
none_ends : (k : List ℕ) (ks : List (List ℕ)) (ps : List (List (List ℕ))) → ((p : List (List ℕ)) → Contains ps p → IsApart p (k ∷ ks)) → ¬ (ends_here (rests k ps) ≡ true)
none_ends k ks ps apart ends = (apart (k ∷ []) (rest_in k ps [] (ends_in (rests k ps) ends))).1 (begins k ks [] refl)

none_at_by : (k : List ℕ) (ps : List (List (List ℕ))) (v : Data) → ((p : List (List ℕ)) → Contains ps p → IsApart p (k ∷ [])) → ¬ Found ps k v
none_at_by k ps v apart (kept_from d h) =
    let no_rests = no_paths (rests k ps) (λ r c. (apart (k ∷ r) (rest_in k ps r c)).0 (begins k r [] refl)) in
    absurd (cc (h, ap (λ rs. only (kept_of rs k d)) no_rests, ap only (none_of k d)))

below_by : (k l : List ℕ) (ks : List (List ℕ)) (ps : List (List (List ℕ))) (v : Data) → ((p : List (List ℕ)) → Contains ps p → IsApart p (k ∷ l ∷ ks)) → Found ps k v
    → ((ms : Members) → get_fields (l ∷ ks) (kept (rests k ps) ms) ≡ None) → get_fields (l ∷ ks) (fields_below (Some v)) ≡ None
below_by k l ks ps v apart (kept_from d h) rest =
    elim (kept_how (rests k ps) k d v h) [
      | inl whole ↦ absurd (none_ends k (l ∷ ks) ps apart whole.0)
      | inr part ↦ ap (get_fields (l ∷ ks)) (below_map v (kept (rests k ps) part.0) part.2) ∙ rest part.0
    ]

others_out : (ks : List (List ℕ)) (ps : List (List (List ℕ))) (ms : Members) → ((p : List (List ℕ)) → Contains ps p → IsApart p ks) → get_fields ks (kept ps ms) ≡ None
others_out [] ps ms apart = refl
others_out (k ∷ []) ps ms apart =
    elim (find text_cmp k (kept ps ms)) as (λ o. find text_cmp k (kept ps ms) ≡ o → o ≡ None) [
      | None ↦ λ e. refl
      | Some v ↦ λ e. absurd (none_at_by k ps v apart (found_kept ps k v ms e))
    ] refl
others_out (k ∷ l ∷ ks) ps ms apart =
    elim (find text_cmp k (kept ps ms)) as (λ o. find text_cmp k (kept ps ms) ≡ o → get_fields (l ∷ ks) (fields_below o) ≡ None) [
      | None ↦ λ e. get_nothing l ks
      | Some v ↦ λ e. below_by k l ks ps v apart (found_kept ps k v ms e)
          (λ inner. others_out (l ∷ ks) (rests k ps) inner (λ r c. apart_below k r (l ∷ ks) (apart (k ∷ r) (rest_in k ps r c))))
    ] refl

-- each names of a list of paths are those of one of them
in_parts : (paths : List FieldPath) (r : List (List ℕ)) → Contains (map (λ p. p.parts) paths) r → (p : FieldPath) × Contains paths p × (p.parts ≡ r)
in_parts [] r h = absurd (has_none r h)
in_parts (p ∷ paths) r h =
    elim (has_cases p.parts (map (λ q. q.parts) paths) r h) [
      | inl s ↦ (p, has_first p paths, s)
      | inr s ↦ let rest = in_parts paths r s in (rest.0, has_later p paths rest.0 rest.1, rest.2)
    ]

pub others_are_left_out : OthersAreLeftOut
others_are_left_out d paths ks apart =
    others_out ks (map (λ p. p.parts) paths) (members_of d.fields)
    (λ r h. let p = in_parts paths r h in subst (λ parts. IsApart parts ks) p.2 (apart p.0 p.1))

-- ---- no map is left empty but one at or below a path

abbrev IsBegun : List (List ℕ) → List (List (List ℕ)) → Type 0
IsBegun ks ps = (p : List (List ℕ)) × Contains ps p × (starts_with text_eq ks p ≡ true)

ended : (k : List ℕ) (ks : List (List ℕ)) (ps : List (List (List ℕ))) → ends_here (rests k ps) ≡ true → IsBegun (k ∷ ks) ps
ended k ks ps ends = (k ∷ [], rest_in k ps [] (ends_in (rests k ps) ends), begins k ks [] refl)

empty_at : (k : List ℕ) (ps : List (List (List ℕ))) (v : Data) → v ≡ map_of [] → Found ps k v → IsBegun (k ∷ []) ps
empty_at k ps v is (kept_from d h) =
    elim (kept_how (rests k ps) k d v h) [
      | inl whole ↦ ended k [] ps whole.0
      | inr part ↦ absurd (part.3 (sym (below_map v (kept (rests k ps) part.0) part.2) ∙ below_map v [] is))
    ]

empty_below : (k l : List ℕ) (ks : List (List ℕ)) (ps : List (List (List ℕ))) (v : Data) → get_fields (l ∷ ks) (fields_below (Some v)) ≡ Some (map_of []) → Found ps k v
    → ((ms : Members) → get_fields (l ∷ ks) (kept (rests k ps) ms) ≡ Some (map_of []) → IsBegun (l ∷ ks) (rests k ps)) → IsBegun (k ∷ l ∷ ks) ps
empty_below k l ks ps v is (kept_from d h) rest =
    elim (kept_how (rests k ps) k d v h) [
      | inl whole ↦ ended k (l ∷ ks) ps whole.0
      | inr part ↦
          let begun = rest part.0 (ap (get_fields (l ∷ ks)) (sym (below_map v (kept (rests k ps) part.0) part.2)) ∙ is) in
          (k ∷ begun.0, rest_in k ps begun.0 begun.1, begins k (l ∷ ks) begun.0 begun.2)
    ]

none_empty : (ks : List (List ℕ)) (ps : List (List (List ℕ))) (ms : Members) → get_fields ks (kept ps ms) ≡ Some (map_of []) → IsBegun ks ps
none_empty [] ps ms is = absurd (cc)
none_empty (k ∷ []) ps ms is = empty_at k ps (map_of []) refl (found_kept ps k (map_of []) ms is)
none_empty (k ∷ l ∷ ks) ps ms is =
    elim (find text_cmp k (kept ps ms)) as (λ o. find text_cmp k (kept ps ms) ≡ o → get_fields (l ∷ ks) (fields_below o) ≡ Some (map_of []) → IsBegun (k ∷ l ∷ ks) ps) [
      | None ↦ λ e h. absurd (cc (get_nothing l ks, h))
      | Some v ↦ λ e h. empty_below k l ks ps v h (found_kept ps k v ms e) (none_empty (l ∷ ks) (rests k ps))
    ] refl is

pub no_map_is_left_empty : NoMapIsLeftEmpty
no_map_is_left_empty d paths ks is =
    let begun = none_empty ks (map (λ p. p.parts) paths) (members_of d.fields) is in
    let p = in_parts paths begun.0 begun.1 in
    (p.0, p.1, subst (λ parts. starts_with text_eq ks parts ≡ true) (sym p.2) begun.2)

-- ---- what is at the paths is kept

find_below : (k : List ℕ) (fs : List (List ℕ × Data)) → below_all text_cmp k fs ≡ true → find text_cmp k fs ≡ None
find_below k [] h = refl
find_below k (f ∷ fs) h =
    not_found (text_cmp k f.0) f.1 (find text_cmp k fs) (first_true (is_lt (text_cmp k f.0)) (below_all text_cmp k fs) h) ∙ find_below k fs (second_true (is_lt (text_cmp k f.0)) (below_all text_cmp k fs) h)
  where
    not_found : (o : Ordering) (d : Data) (rest : Option Data) → is_lt o ≡ true → cond (is_eq o) (Some d) rest ≡ rest
    not_found Less d rest e = refl
    not_found Equal d rest e = absurd (cc)
    not_found Greater d rest e = absurd (cc)

-- what is kept of what is found at a key
abbrev kept_at : List (List (List ℕ)) → List ℕ → Option Data → Option Data
kept_at ps k o = option_and_then (λ d. only (kept_of (rests k ps) k d)) o

find_first : (ps : List (List (List ℕ))) (k key : List ℕ) (d : Data) (ms : Members) (gs : List (List ℕ × Data)) (b : Bool) → eq_by_cmp text_cmp k key ≡ b → AtMost key gs → kept_of (rests key ps) key d ≡ gs
    → below_all text_cmp key (kept ps ms) ≡ true → find text_cmp k (kept ps ms) ≡ kept_at ps k (find text_cmp k (fields_of ms))
    → find text_cmp k (gs ++ kept ps ms) ≡ kept_at ps k (cond b (Some d) (find text_cmp k (fields_of ms)))
find_first ps k key d ms gs true e none is below rest =
    ap (λ l. find text_cmp l (kept ps ms)) (text_alike k key e) ∙ find_below key (kept ps ms) below ∙ ap only (sym is) ∙ ap (λ l. only (kept_of (rests l ps) l d)) (sym (text_alike k key e))
find_first ps k key d ms gs true e (one v) is below rest =
    ap (λ b. cond b (Some v) (find text_cmp k (kept ps ms))) e ∙ ap only (sym is) ∙ ap (λ l. only (kept_of (rests l ps) l d)) (sym (text_alike k key e))
find_first ps k key d ms gs false e none is below rest = rest
find_first ps k key d ms gs false e (one v) is below rest = ap (λ b. cond b (Some v) (find text_cmp k (kept ps ms))) e ∙ rest

find_kept : (ps : List (List (List ℕ))) (k : List ℕ) (ms : Members) → is_sorted text_cmp (fields_of ms) ≡ true → find text_cmp k (kept ps ms) ≡ kept_at ps k (find text_cmp k (fields_of ms))
find_kept ps k no_members up = refl
find_kept ps k (member key d ms) up =
    let below = first_true (below_all text_cmp key (fields_of ms)) (is_sorted text_cmp (fields_of ms)) up in
    let rest = second_true (below_all text_cmp key (fields_of ms)) (is_sorted text_cmp (fields_of ms)) up in
    find_first ps k key d ms (kept_of (rests key ps) key d) (eq_by_cmp text_cmp k key) refl (at_most_one (rests key ps) key d) refl
    (ap (λ ns. below_all text_cmp key (kept ps ns)) (sym (members_of-fields_of ms)) ∙ below_kept ps key (fields_of ms) below) (find_kept ps k ms rest)

-- the maps in ordered fields are ordered
ordered_found : (k : List ℕ) (v : Data) (ms : Members) → members_ordered ms ≡ true → find text_cmp k (fields_of ms) ≡ Some v → is_ordered v ≡ true
ordered_found k v no_members all is = absurd (cc)
ordered_found k v (member key d ms) all is =
    elim (eq_by_cmp text_cmp k key) as (λ b. cond b (Some d) (find text_cmp k (fields_of ms)) ≡ Some v → is_ordered v ≡ true) [
      | true ↦ λ h. let same : d ≡ v = cc in ap is_ordered (sym same) ∙ first_true (is_ordered d) (members_ordered ms) all
      | false ↦ λ h. ordered_found k v ms (second_true (is_ordered d) (members_ordered ms) all) h
    ] is

whole_kept : (rs : List (List (List ℕ))) (k : List ℕ) (d : Data) → ends_here rs ≡ true → only (kept_of rs k d) ≡ Some d
whole_kept rs k (object ms) e = ap (λ b. only (cond b ((k, object ms) ∷ []) (if_any k (kept rs ms)))) e
whole_kept rs k d e = ap (λ b. only (cond b ((k, d) ∷ []) [])) e

all_kept : (ps : List (List (List ℕ))) (k : List ℕ) (o : Option Data) → ends_here (rests k ps) ≡ true → kept_at ps k o ≡ o
all_kept ps k None e = refl
all_kept ps k (Some d) e = whole_kept (rests k ps) k d e

get_by_find : (k : List ℕ) (ks : List (List ℕ)) (fs gs : List (List ℕ × Data)) → find text_cmp k fs ≡ find text_cmp k gs → get_fields (k ∷ ks) fs ≡ get_fields (k ∷ ks) gs
get_by_find k [] fs gs e = e
get_by_find k (l ∷ ks) fs gs e = ap (λ o. get_fields (l ∷ ks) (fields_below o)) e

any_below : (k : List ℕ) (gs : List (List ℕ × Data)) → fields_below (only (if_any k gs)) ≡ gs
any_below k [] = refl
any_below k (f ∷ fs) = fields_of-members_of (f ∷ fs)

-- below a key at which no path ends
path_below : (rs : List (List (List ℕ))) (k l : List ℕ) (ks : List (List ℕ)) (d : Data) → ends_here rs ≡ false → is_ordered d ≡ true
    → ((ms : Members) → is_sorted text_cmp (fields_of ms) ≡ true → members_ordered ms ≡ true → get_fields (l ∷ ks) (kept rs ms) ≡ get_fields (l ∷ ks) (fields_of ms))
    → get_fields (l ∷ ks) (fields_below (only (kept_of rs k d))) ≡ get_fields (l ∷ ks) (fields_below (Some d))
path_below rs k l ks (object ms) e ordered rest =
    ap (λ b. get_fields (l ∷ ks) (fields_below (only (cond b ((k, object ms) ∷ []) (if_any k (kept rs ms)))))) e
    ∙ ap (get_fields (l ∷ ks)) (any_below k (kept rs ms))
    ∙ rest ms (first_true (is_sorted text_cmp (fields_of ms)) (members_ordered ms) ordered) (second_true (is_sorted text_cmp (fields_of ms)) (members_ordered ms) ordered)
path_below rs k l ks d e ordered rest = ap (λ b. get_fields (l ∷ ks) (fields_below (only (cond b ((k, d) ∷ []) [])))) e

path_found : (ps : List (List (List ℕ))) (k l : List ℕ) (ks : List (List ℕ)) (ms : Members) (o : Option Data) → find text_cmp k (fields_of ms) ≡ o → ends_here (rests k ps) ≡ false → members_ordered ms ≡ true
    → ((inner : Members) → is_sorted text_cmp (fields_of inner) ≡ true → members_ordered inner ≡ true → get_fields (l ∷ ks) (kept (rests k ps) inner) ≡ get_fields (l ∷ ks) (fields_of inner))
    → get_fields (l ∷ ks) (fields_below (kept_at ps k o)) ≡ get_fields (l ∷ ks) (fields_below o)
path_found ps k l ks ms None is e all rest = refl
path_found ps k l ks ms (Some d) is e all rest = path_below (rests k ps) k l ks d e (ordered_found k d ms all is) rest

path_kept : (p ks : List (List ℕ)) (ps : List (List (List ℕ))) (ms : Members) → 0 < length p → is_sorted text_cmp (fields_of ms) ≡ true → members_ordered ms ≡ true → Contains ps p
    → get_fields (p ++ ks) (kept ps ms) ≡ get_fields (p ++ ks) (fields_of ms)
path_kept [] ks ps ms some up all h = absurd (omega arith)
path_kept (k ∷ []) ks ps ms some up all h =
    get_by_find k ks (kept ps ms) (fields_of ms) (find_kept ps k ms up ∙ all_kept ps k (find text_cmp k (fields_of ms)) (in_ends (rests k ps) (in_rests k ps [] h)))
path_kept (k ∷ l ∷ p) ks ps ms some up all h =
    elim (ends_here (rests k ps)) as (λ b. ends_here (rests k ps) ≡ b → get_fields (k ∷ l ∷ (p ++ ks)) (kept ps ms) ≡ get_fields (k ∷ l ∷ (p ++ ks)) (fields_of ms)) [
      | true ↦ λ e. get_by_find k (l ∷ (p ++ ks)) (kept ps ms) (fields_of ms) (find_kept ps k ms up ∙ all_kept ps k (find text_cmp k (fields_of ms)) e)
      | false ↦ λ e.
          ap (λ o. get_fields (l ∷ (p ++ ks)) (fields_below o)) (find_kept ps k ms up)
          ∙ path_found ps k l (p ++ ks) ms (find text_cmp k (fields_of ms)) refl e all (λ inner u a. path_kept (l ∷ p) ks (rests k ps) inner (omega arith) u a (in_rests k ps (l ∷ p) h))
    ] refl

parts_in : (paths : List FieldPath) (p : FieldPath) → Contains paths p → Contains (map (λ q. q.parts) paths) p.parts
parts_in [] p h = absurd (has_none p h)
parts_in (q ∷ paths) p h =
    elim (has_cases q paths p h) [
      | inl s ↦ subst (λ r. Contains (q.parts ∷ map (λ q. q.parts) paths) r) (ap (λ r. r.parts) s) (has_first q.parts (map (λ q. q.parts) paths))
      | inr s ↦ has_later q.parts (map (λ q. q.parts) paths) p.parts (parts_in paths p s)
    ]

pub paths_are_kept : PathsAreKept
paths_are_kept d paths p ks ordered h =
    path_kept p.parts ks (map (λ q. q.parts) paths) (members_of d.fields) p.some
    (first_true (is_sorted text_cmp (fields_of (members_of d.fields))) (members_ordered (members_of d.fields)) ordered)
    (second_true (is_sorted text_cmp (fields_of (members_of d.fields))) (members_ordered (members_of d.fields)) ordered)
    (parts_in paths p h)
    ∙ ap (get_fields (p.parts ++ ks)) (fields_of-members_of d.fields)
