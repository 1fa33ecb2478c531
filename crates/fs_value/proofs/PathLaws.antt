-- The laws of setting and taking out at a path.
use Rattle.std.proofs.Common.{◌≡◌, ◌≢◌, ℕ, ◌<◌, true, false, cond, not, ◌&&◌, List, [], ◌∷◌, ◌++◌, Option, Some, None, length, Equal, refl, sym, ap, ◌∙◌, subst, arith}
use Rattle.std.specs.Prelude.{IsTrue, option_map, option_and_then, unwrap_or}
use Rattle.std.specs.Option.{option_map_or}
use Rattle.std.specs.List.{starts_with}
use Rattle.std.specs.Ordering.{eq_by_cmp}
use Rattle.std.specs.Cmp.{first_so, second_so}
use Rattle.std.specs.FinMap.{find, put, is_sorted}
use Rattle.std.specs.FinMap.Entries.{find-put, find-where_key}
use Rattle.std.proofs.lemmas.Bool.{false≢true}
use Rattle.fs_path.specs.TextOrder.{text_alike, text_cmp, text_eq, text_cmp_total, text_itself, text_same, text_ties}
use Rattle.fs_value.specs.Data.{Data, object, members_of, fields_of}
use Rattle.fs_value.specs.Ordered.{is_ordered, members_ordered}
use Rattle.fs_value.specs.DataLaws.{fields_of-members_of, members_of-fields_of}
use Rattle.fs_value.specs.FieldPaths.{map_of, map_fields, fields_under, fields_below, get_fields, set_fields, without, unset_fields, unset_below, IsApart}
use Rattle.fs_value.proofs.FieldPlaces.{put_same, without_missing}
use Rattle.fs_value.proofs.PathSteps.{get_nothing}

-- the fields below a key
abbrev fields_at : List ℕ → List (List ℕ × Data) → List (List ℕ × Data)
fields_at k fs = fields_below (find text_cmp k fs)

-- ---- one key

two_keys : (k l : List ℕ) → k ≢ l → eq_by_cmp text_cmp k l ≡ false
two_keys k l apart = elim (eq_by_cmp text_cmp k l) as (λ b. eq_by_cmp text_cmp k l ≡ b → eq_by_cmp text_cmp k l ≡ false) [
  | true ↦ λ e. absurd (apart (text_alike k l e))
  | false ↦ λ e. e
] refl

find_set : (k : List ℕ) (d : Data) (fs : List (List ℕ × Data)) → find text_cmp k (put text_cmp k d fs) ≡ Some d
find_set k d fs = find-put text_cmp text_cmp_total k k d fs ∙ ap (λ b. cond b (Some d) (find text_cmp k fs)) (text_itself k)

find_beside : (q k : List ℕ) (d : Data) (fs : List (List ℕ × Data)) → q ≢ k → find text_cmp q (put text_cmp k d fs) ≡ find text_cmp q fs
find_beside q k d fs apart = find-put text_cmp text_cmp_total q k d fs ∙ ap (λ b. cond b (Some d) (find text_cmp q fs)) (two_keys q k apart)

-- a key that ties with q is q
alike : (k q : List ℕ) (x : List ℕ) → text_cmp q x ≡ Equal → not (eq_by_cmp text_cmp k x) ≡ not (eq_by_cmp text_cmp k q)
alike k q x ties = ap (λ y. not (eq_by_cmp text_cmp k y)) (sym (text_same q x ties))

find_gone : (k : List ℕ) (fs : List (List ℕ × Data)) → find text_cmp k (without k fs) ≡ None
find_gone k fs =
    find-where_key text_cmp (λ x. not (eq_by_cmp text_cmp k x)) k (alike k k) fs ∙ ap (λ b. cond (not b) (find text_cmp k fs) None) (text_itself k)

find_left : (q k : List ℕ) (fs : List (List ℕ × Data)) → q ≢ k → find text_cmp q (without k fs) ≡ find text_cmp q fs
find_left q k fs apart =
    find-where_key text_cmp (λ x. not (eq_by_cmp text_cmp k x)) q (alike k q) fs
    ∙ ap (λ b. cond (not b) (find text_cmp q fs) None) (two_keys k q (λ e. apart (sym e)))

-- the fields below a key that a map was put at
fields_set : (k : List ℕ) (gs fs : List (List ℕ × Data)) → fields_at k (put text_cmp k (map_of gs) fs) ≡ gs
fields_set k gs fs = ap (λ o. unwrap_or (option_and_then map_fields o) []) (find_set k (map_of gs) fs) ∙ fields_of-members_of gs

fields_beside : (q k : List ℕ) (d : Data) (fs : List (List ℕ × Data)) → q ≢ k → fields_at q (put text_cmp k d fs) ≡ fields_at q fs
fields_beside q k d fs apart = ap (λ o. unwrap_or (option_and_then map_fields o) []) (find_beside q k d fs apart)

-- ---- the value that was set is there; what was taken out isn't

pub get-set : (p : List (List ℕ)) (v : Data) (fs : List (List ℕ × Data)) → 0 < length p → get_fields p (set_fields p v fs) ≡ Some v
get-set [] v fs some = absurd (omega arith)
get-set (k ∷ []) v fs some = find_set k v fs
get-set (k ∷ l ∷ ks) v fs some =
    ap (get_fields (l ∷ ks)) (fields_set k (set_fields (l ∷ ks) v (fields_at k fs)) fs) ∙ get-set (l ∷ ks) v (fields_at k fs) (omega arith)

pub get-unset : (p : List (List ℕ)) (fs : List (List ℕ × Data)) → get_fields p (unset_fields p fs) ≡ None
get-unset [] fs = refl
get-unset (k ∷ []) fs = find_gone k fs
get-unset (k ∷ l ∷ ks) fs =
    elim (fields_under k fs) as (λ o. fields_under k fs ≡ o → get_fields (l ∷ ks) (fields_at k (option_map_or (λ ms. put text_cmp k (map_of (unset_fields (l ∷ ks) ms)) fs) o fs)) ≡ None) [
      | Some ms ↦ λ e. ap (get_fields (l ∷ ks)) (fields_set k (unset_fields (l ∷ ks) ms) fs) ∙ get-unset (l ∷ ks) ms
      | None ↦ λ e. ap (λ o. get_fields (l ∷ ks) (unwrap_or o [])) e ∙ get_nothing (l ∷ ks)
    ] refl

-- ---- what is beside the path is as before

-- what is at another key, and below it
get_beside : (q : List (List ℕ)) (l k : List ℕ) (d : Data) (fs : List (List ℕ × Data)) → l ≢ k → get_fields (l ∷ q) (put text_cmp k d fs) ≡ get_fields (l ∷ q) fs
get_beside [] l k d fs apart = find_beside l k d fs apart
get_beside (m ∷ q) l k d fs apart = ap (get_fields (m ∷ q)) (fields_beside l k d fs apart)

get_left : (q : List (List ℕ)) (l k : List ℕ) (fs : List (List ℕ × Data)) → l ≢ k → get_fields (l ∷ q) (without k fs) ≡ get_fields (l ∷ q) fs
get_left [] l k fs apart = find_left l k fs apart
get_left (m ∷ q) l k fs apart = ap (λ o. get_fields (m ∷ q) (unwrap_or (option_and_then map_fields o) [])) (find_left l k fs apart)

-- setting at a path whose first name is another
set_beside : (p q : List (List ℕ)) (k l : List ℕ) (v : Data) (fs : List (List ℕ × Data)) → l ≢ k → get_fields (l ∷ q) (set_fields (k ∷ p) v fs) ≡ get_fields (l ∷ q) fs
set_beside [] q k l v fs apart = get_beside q l k v fs apart
set_beside (m ∷ p) q k l v fs apart = get_beside q l k (map_of (set_fields (m ∷ p) v (fields_at k fs))) fs apart

unset_beside : (p q : List (List ℕ)) (k l : List ℕ) (fs : List (List ℕ × Data)) → l ≢ k → get_fields (l ∷ q) (unset_fields (k ∷ p) fs) ≡ get_fields (l ∷ q) fs
unset_beside [] q k l fs apart = get_left q l k fs apart
unset_beside (m ∷ p) q k l fs apart =
    elim (fields_under k fs) as (λ o. get_fields (l ∷ q) (option_map_or (λ ms. put text_cmp k (map_of (unset_fields (m ∷ p) ms)) fs) o fs) ≡ get_fields (l ∷ q) fs) [
      | Some ms ↦ get_beside q l k (map_of (unset_fields (m ∷ p) ms)) fs apart
      | None ↦ refl
    ]

-- paths that share their first name are apart below it
pub apart_below : (k : List ℕ) (p q : List (List ℕ)) → IsApart (k ∷ p) (k ∷ q) → IsApart p q
apart_below k p q apart =
    let same : text_eq k k ≡ true = text_ties k k ∙ text_itself k in
    (λ h. apart.0 (ap (λ b. b && starts_with text_eq p q) same ∙ h), λ h. apart.1 (ap (λ b. b && starts_with text_eq q p) same ∙ h))

-- below a key, what is taken out of the map there leaves what it leaves of that map
unset_in : (a : List ℕ) (q r : List (List ℕ)) (fs : List (List ℕ × Data)) → ((ms : List (List ℕ × Data)) → get_fields q (unset_fields r ms) ≡ get_fields q ms)
    → get_fields q (fields_at a (option_map_or (λ ms. put text_cmp a (map_of (unset_fields r ms)) fs) (fields_under a fs) fs)) ≡ get_fields q (fields_at a fs)
unset_in a q r fs below =
    elim (fields_under a fs) as (λ o. fields_under a fs ≡ o → get_fields q (fields_at a (option_map_or (λ ms. put text_cmp a (map_of (unset_fields r ms)) fs) o fs)) ≡ get_fields q (fields_at a fs)) [
      | Some ms ↦ λ e. ap (get_fields q) (fields_set a (unset_fields r ms) fs) ∙ below ms ∙ ap (λ o. get_fields q (unwrap_or o [])) (sym e)
      | None ↦ λ e. refl
    ] refl

-- nothing is apart from no path
none_apart : (q : List (List ℕ)) → ¬ IsApart [] q
none_apart q apart = apart.1 refl

apart_none : (p : List (List ℕ)) → ¬ IsApart p []
apart_none p apart = apart.0 refl

-- paths that share their first name
set_along : (k : List ℕ) (p q : List (List ℕ)) (v : Data) (fs : List (List ℕ × Data)) → IsApart p q
    → ((gs : List (List ℕ × Data)) → get_fields q (set_fields p v gs) ≡ get_fields q gs) → get_fields (k ∷ q) (set_fields (k ∷ p) v fs) ≡ get_fields (k ∷ q) fs
set_along k [] q v fs apart below = absurd (none_apart q apart)
set_along k (m ∷ p) [] v fs apart below = absurd (apart_none (m ∷ p) apart)
set_along k (m ∷ p) (n ∷ q) v fs apart below =
    ap (get_fields (n ∷ q)) (fields_set k (set_fields (m ∷ p) v (fields_at k fs)) fs) ∙ below (fields_at k fs)

unset_along : (k : List ℕ) (p q : List (List ℕ)) (fs : List (List ℕ × Data)) → IsApart p q
    → ((gs : List (List ℕ × Data)) → get_fields q (unset_fields p gs) ≡ get_fields q gs) → get_fields (k ∷ q) (unset_fields (k ∷ p) fs) ≡ get_fields (k ∷ q) fs
unset_along k [] q fs apart below = absurd (none_apart q apart)
unset_along k (m ∷ p) [] fs apart below = absurd (apart_none (m ∷ p) apart)
unset_along k (m ∷ p) (n ∷ q) fs apart below = unset_in k (n ∷ q) (m ∷ p) fs below

not_tied : (k l : List ℕ) → eq_by_cmp text_cmp l k ≡ false → l ≢ k
not_tied k l e same = absurd (false≢true (sym e ∙ ap (eq_by_cmp text_cmp l) (sym same) ∙ text_itself l))

pub set_apart : (p q : List (List ℕ)) (v : Data) (fs : List (List ℕ × Data)) → IsApart p q → get_fields q (set_fields p v fs) ≡ get_fields q fs
set_apart [] q v fs apart = refl
set_apart (k ∷ p) [] v fs apart = refl
set_apart (k ∷ p) (l ∷ q) v fs apart =
    elim (eq_by_cmp text_cmp l k) as (λ b. eq_by_cmp text_cmp l k ≡ b → get_fields (l ∷ q) (set_fields (k ∷ p) v fs) ≡ get_fields (l ∷ q) fs) [
      | true ↦ λ e. subst (λ x. IsApart (k ∷ p) (x ∷ q) → get_fields (x ∷ q) (set_fields (k ∷ p) v fs) ≡ get_fields (x ∷ q) fs) (sym (text_alike l k e))
          (λ a. let below = apart_below k p q a in set_along k p q v fs below (λ gs. set_apart p q v gs below)) apart
      | false ↦ λ e. set_beside p q k l v fs (not_tied k l e)
    ] refl

pub unset_apart : (p q : List (List ℕ)) (fs : List (List ℕ × Data)) → IsApart p q → get_fields q (unset_fields p fs) ≡ get_fields q fs
unset_apart [] q fs apart = refl
unset_apart (k ∷ p) [] fs apart = refl
unset_apart (k ∷ p) (l ∷ q) fs apart =
    elim (eq_by_cmp text_cmp l k) as (λ b. eq_by_cmp text_cmp l k ≡ b → get_fields (l ∷ q) (unset_fields (k ∷ p) fs) ≡ get_fields (l ∷ q) fs) [
      | true ↦ λ e. subst (λ x. IsApart (k ∷ p) (x ∷ q) → get_fields (x ∷ q) (unset_fields (k ∷ p) fs) ≡ get_fields (x ∷ q) fs) (sym (text_alike l k e))
          (λ a. let below = apart_below k p q a in unset_along k p q fs below (λ gs. unset_apart p q gs below)) apart
      | false ↦ λ e. unset_beside p q k l fs (not_tied k l e)
    ] refl

-- ---- the values on the way

pub set_way : (p q : List (List ℕ)) (v : Data) (fs : List (List ℕ × Data)) → 0 < length p → 0 < length q
    → get_fields p (set_fields (p ++ q) v fs) ≡ Some (map_of (set_fields q v (fields_below (get_fields p fs))))
set_way p [] v fs some more = absurd (omega arith)
set_way [] (m ∷ q) v fs some more = absurd (omega arith)
set_way (k ∷ []) (m ∷ q) v fs some more = find_set k (map_of (set_fields (m ∷ q) v (fields_at k fs))) fs
set_way (k ∷ l ∷ ks) (m ∷ q) v fs some more =
    ap (get_fields (l ∷ ks)) (fields_set k (set_fields (l ∷ ks ++ m ∷ q) v (fields_at k fs)) fs) ∙ set_way (l ∷ ks) (m ∷ q) v (fields_at k fs) (omega arith) more

unset_first : (k : List ℕ) (q : List (List ℕ)) (fs : List (List ℕ × Data)) (o : Option Data) → find text_cmp k fs ≡ o
    → find text_cmp k (option_map_or (λ ms. put text_cmp k (map_of (unset_fields q ms)) fs) (option_and_then map_fields o) fs) ≡ option_map (unset_below q) o
unset_first k q fs None e = e
unset_first k q fs (Some d) e =
    elim (map_fields d) as (λ o. find text_cmp k (option_map_or (λ ms. put text_cmp k (map_of (unset_fields q ms)) fs) o fs) ≡ Some (option_map_or (λ ms. map_of (unset_fields q ms)) o d)) [
      | Some ms ↦ find_set k (map_of (unset_fields q ms)) fs
      | None ↦ e
    ]

pub unset_way : (p q : List (List ℕ)) (fs : List (List ℕ × Data)) → 0 < length p → 0 < length q → get_fields p (unset_fields (p ++ q) fs) ≡ option_map (unset_below q) (get_fields p fs)
unset_way p [] fs some more = absurd (omega arith)
unset_way [] (m ∷ q) fs some more = absurd (omega arith)
unset_way (k ∷ []) (m ∷ q) fs some more = unset_first k (m ∷ q) fs (find text_cmp k fs) refl
unset_way (k ∷ l ∷ ks) (m ∷ q) fs some more =
    let p : List (List ℕ) = l ∷ ks in
    let r : List (List ℕ) = l ∷ ks ++ m ∷ q in
    elim (fields_under k fs) as (λ o. fields_under k fs ≡ o → get_fields p (fields_at k (option_map_or (λ ms. put text_cmp k (map_of (unset_fields r ms)) fs) o fs)) ≡ option_map (unset_below (m ∷ q)) (get_fields p (unwrap_or o []))) [
      | Some ms ↦ λ e. ap (get_fields p) (fields_set k (unset_fields r ms) fs) ∙ unset_way (l ∷ ks) (m ∷ q) ms (omega arith) more
      | None ↦ λ e. ap (λ o. get_fields p (unwrap_or o [])) e ∙ get_nothing p ∙ ap (option_map (unset_below (m ∷ q))) (sym (get_nothing p))
    ] refl

-- ---- a map on the way keeps its other keys

pub set_keys : (p ks : List (List ℕ)) (k l : List ℕ) (v : Data) (fs : List (List ℕ × Data)) → l ≢ k → get_fields (p ++ l ∷ []) (set_fields (p ++ k ∷ ks) v fs) ≡ get_fields (p ++ l ∷ []) fs
set_keys [] ks k l v fs apart = set_beside ks [] k l v fs apart
set_keys (a ∷ []) ks k l v fs apart =
    ap (get_fields (l ∷ [])) (fields_set a (set_fields (k ∷ ks) v (fields_at a fs)) fs) ∙ set_beside ks [] k l v (fields_at a fs) apart
set_keys (a ∷ b ∷ p) ks k l v fs apart =
    ap (get_fields (b ∷ p ++ l ∷ [])) (fields_set a (set_fields (b ∷ p ++ k ∷ ks) v (fields_at a fs)) fs) ∙ set_keys (b ∷ p) ks k l v (fields_at a fs) apart

pub unset_keys : (p ks : List (List ℕ)) (k l : List ℕ) (fs : List (List ℕ × Data)) → l ≢ k → get_fields (p ++ l ∷ []) (unset_fields (p ++ k ∷ ks) fs) ≡ get_fields (p ++ l ∷ []) fs
unset_keys [] ks k l fs apart = unset_beside ks [] k l fs apart
unset_keys (a ∷ []) ks k l fs apart = unset_in a (l ∷ []) (k ∷ ks) fs (λ ms. unset_beside ks [] k l ms apart)
unset_keys (a ∷ b ∷ p) ks k l fs apart = unset_in a (b ∷ p ++ l ∷ []) (b ∷ p ++ k ∷ ks) fs (λ ms. unset_keys (b ∷ p) ks k l ms apart)

-- ---- nothing to take out

-- the keys of a value inside rise as those of the whole do
ordered_at : (k : List ℕ) (d : Data) (fs : List (List ℕ × Data)) → IsTrue (members_ordered (members_of fs)) → find text_cmp k fs ≡ Some d → IsTrue (is_ordered d)
ordered_at k d [] h is = absurd (cc)
ordered_at k d (e ∷ es) h is =
    elim (eq_by_cmp text_cmp k e.0) as (λ b. cond b (Some e.1) (find text_cmp k es) ≡ Some d → IsTrue (is_ordered d)) [
      | true ↦ λ w. subst (λ o. IsTrue (is_ordered (unwrap_or o d))) w (first_so (is_ordered e.1) (members_ordered (members_of es)) h)
      | false ↦ λ w. ordered_at k d es (second_so (is_ordered e.1) (members_ordered (members_of es)) h) w
    ] is

is_map : (d : Data) (ms : List (List ℕ × Data)) → map_fields d ≡ Some ms → d ≡ map_of ms
is_map (object m) ms is = ap object (sym (members_of-fields_of m)) ∙ ap (λ o. map_of (unwrap_or o ms)) is
is_map d ms is = absurd (cc)

map_there : (o : Option Data) (ms : List (List ℕ × Data)) → option_and_then map_fields o ≡ Some ms → o ≡ Some (map_of ms)
map_there None ms is = absurd (cc)
map_there (Some d) ms is = ap Some (is_map d ms is)

pub unset_absent : (p : List (List ℕ)) (fs : List (List ℕ × Data)) → IsTrue (is_ordered (map_of fs)) → get_fields p fs ≡ None → unset_fields p fs ≡ fs
unset_absent [] fs rise none = refl
unset_absent (k ∷ []) fs rise none = without_missing k fs none
unset_absent (k ∷ l ∷ ks) fs rise none =
    let sorted = first_so (is_sorted text_cmp (fields_of (members_of fs))) (members_ordered (members_of fs)) rise in
    let inside = second_so (is_sorted text_cmp (fields_of (members_of fs))) (members_ordered (members_of fs)) rise in
    elim (fields_under k fs) as (λ o. fields_under k fs ≡ o → get_fields (l ∷ ks) (unwrap_or o []) ≡ None → option_map_or (λ ms. put text_cmp k (map_of (unset_fields (l ∷ ks) ms)) fs) o fs ≡ fs) [
      | Some ms ↦ λ e w.
          let there = map_there (find text_cmp k fs) ms e in
          ap (λ gs. put text_cmp k (map_of gs) fs) (unset_absent (l ∷ ks) ms (ordered_at k (map_of ms) fs inside there) w)
          ∙ put_same k (map_of ms) fs (subst (λ gs. IsTrue (is_sorted text_cmp gs)) (fields_of-members_of fs) sorted) there
      | None ↦ λ e w. refl
    ] refl none
