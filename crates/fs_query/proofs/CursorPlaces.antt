-- The values of a cursor in the places of the whole order: only the name's place asks for a reference.
use Rattle.std.proofs.Common.{◌≡◌, ℕ, zero, suc, ◌+◌, ◌-◌, ◌^◌, ◌≤◌, ◌<◌, Bool, true, false, cond, List, [], ◌∷◌, ◌++◌, map, drop, length, refl, sym, ap, ◌∙◌, arith, ◌⊎◌, inl, inr}
use Rattle.std.specs.Prelude.{Some, ◌&&◌, ◌||◌, ◌==◌, not, min, slice_get}
use Rattle.std.specs.List.{AllByRecursion, list_any, zip, filter}
use Rattle.std.specs.Option.{option_map_or}
use Rattle.std.proofs.lemmas.Bool.{cases_lt}
use Rattle.std.proofs.lemmas.Bool.Decides.{nat_tests}
use Rattle.std.proofs.lemmas.List.{length-map}
use Rattle.fs_path.specs.declared.field.FieldPath.{FieldPath}
use Rattle.fs_value.specs.Data.{Data}
use Rattle.fs_value.specs.View.{view}
use Rattle.fs_value.specs.declared.value.Value.{Value}
use Rattle.fs_query.specs.Asked.{Asked}
use Rattle.fs_query.specs.Field.{is_name, name_path}
use Rattle.fs_query.specs.Normal.{inequality_paths, in_order, is_ordered, joins, joined, joining, whole_order}
use Rattle.fs_query.specs.Place.{last_is_bad}
use Rattle.fs_query.specs.FilterRules.{is_reference}
use Rattle.fs_query.specs.Rules.{is_bad_place}
use Rattle.fs_query.specs.declared.order.Order.{Order}
use Rattle.fs_query.proofs.JoiningPaths.{all_put}
use Rattle.fs_query.proofs.WholeOrdering.{length_with_name}
use Rattle.std.proofs.Math.Bool.{or-false, or_assoc}

abbrev some_bad : List Order → List Data → Bool
some_bad os vs = list_any is_bad_place (zip os vs)

-- ---- places behind one another

no_places : (os : List Order) → some_bad os [] ≡ false
no_places [] = refl
no_places (o ∷ os) = refl

some_bad_append : (os ps : List Order) (vs : List Data) → some_bad (os ++ ps) vs ≡ (some_bad os vs || some_bad ps (drop (length os) vs))
some_bad_append [] ps vs = refl
some_bad_append (o ∷ os) ps [] = sym (no_places ps)
some_bad_append (o ∷ os) ps (v ∷ vs) =
    ap (λ b. is_bad_place (o, v) || b) (some_bad_append os ps vs) ∙ sym (or_assoc (is_bad_place (o, v)) (some_bad os vs) (some_bad ps (drop (length os) vs)))

-- ---- the places of paths that join ask for nothing

kept_by : (os : List Order) (p : FieldPath) (ps : List FieldPath) (n o : Bool) → is_name p ≡ n → is_ordered os p ≡ o
    → AllByRecursion (λ y. is_name y ≡ false) (in_order ps) → AllByRecursion (λ y. is_name y ≡ false) (in_order (cond (not n && not o) (p ∷ ps) ps))
kept_by os p ps true o e f all = all
kept_by os p ps false true e f all = all
kept_by os p ps false false e f all = all_put (λ y. is_name y ≡ false) p (in_order ps) e all

no_names : (os : List Order) (ps : List FieldPath) → AllByRecursion (λ y. is_name y ≡ false) (in_order (filter (joins os) ps))
no_names os [] = tt
no_names os (p ∷ ps) = kept_by os p (filter (joins os) ps) (is_name p) (is_ordered os p) refl refl (no_names os ps)

not_bad : (q : Asked) (ps : List FieldPath) (vs : List Data) → AllByRecursion (λ y. is_name y ≡ false) ps → some_bad (map (joined q) ps) vs ≡ false
not_bad q [] vs all = refl
not_bad q (p ∷ ps) [] all = refl
not_bad q (p ∷ ps) (v ∷ vs) all =
    (λ i. (all.0 i && not (is_reference v)) || some_bad (map (joined q) ps) vs) ∙ not_bad q ps vs all.1

-- ---- the place of the name

drop_all : (k : ℕ) (vs : List Data) → length vs ≤ k → drop k vs ≡ []
drop_all zero [] h = refl
drop_all zero (v ∷ vs) h = absurd (omega arith)
drop_all (suc k) [] h = refl
drop_all (suc k) (v ∷ vs) h = drop_all k vs (omega arith)

drop_to_last : (k : ℕ) (vs : List Data) → length vs ≡ suc k → (v : Data) × (drop k vs ≡ v ∷ []) × (slice_get vs k ≡ Some v)
drop_to_last zero [] h = absurd (omega arith)
drop_to_last zero (v ∷ []) h = (v, refl, refl)
drop_to_last zero (v ∷ w ∷ vs) h = absurd (omega arith)
drop_to_last (suc k) [] h = absurd (omega arith)
drop_to_last (suc k) (v ∷ vs) h = drop_to_last k vs (omega arith)

name_bad : (o : Order) (k : ℕ) (vs : List Data) → is_name o.path ≡ true → (found : (v : Data) × (drop k vs ≡ v ∷ []) × (slice_get vs k ≡ Some v)) → length vs ≡ suc k
    → some_bad (o ∷ []) (drop k vs) ≡ last_is_bad vs
name_bad o k vs named (v, e, f) h =
    ap (some_bad (o ∷ [])) e
    ∙ (λ i. (named i && not (is_reference v)) || false)
    ∙ or-false (not (is_reference v))
    ∙ ap (λ r. option_map_or (λ x. not (is_reference x)) r false) (sym f)
    ∙ ap (λ n. option_map_or (λ x. not (is_reference x)) (slice_get vs n) false) (let s : k ≡ length vs - 1 = omega arith in s)

-- with so many values there is one in the name's place, or there is none
name_place_by : (o : Order) (k count whole : ℕ) (vs : List Data) → is_name o.path ≡ true → whole ≡ k + 1 → count ≡ min whole (2 ^ 64 - 1) → length vs ≤ count → length vs < 2 ^ 64 - 1
    → (length vs < suc k) ⊎ (suc k ≤ length vs) → some_bad (o ∷ []) (drop k vs) ≡ (length vs == count && last_is_bad vs)
name_place_by o k count whole vs named w c within short (inl h) =
    ap (some_bad (o ∷ [])) (drop_all k vs (omega arith))
    ∙ ap (λ b. b && last_is_bad vs) (let s : false ≡ (length vs == count) = grind (arith, nat_tests) in s)
name_place_by o k count whole vs named w c within short (inr h) =
    name_bad o k vs named (drop_to_last k vs (omega arith)) (omega arith)
    ∙ ap (λ b. b && last_is_bad vs) (let s : true ≡ (length vs == count) = grind (arith, nat_tests) in s)

drop_twice : (a b : ℕ) (vs : List Data) → drop b (drop a vs) ≡ drop (a + b) vs
drop_twice zero b vs = ap (λ n. drop n vs) (let s : b ≡ 0 + b = omega arith in s)
drop_twice (suc a) b [] = drop_all b [] (omega arith) ∙ ap (λ n. drop n []) (let s : suc (a + b) ≡ suc a + b = omega arith in s)
drop_twice (suc a) b (v ∷ vs) = drop_twice a b vs ∙ ap (λ n. drop n (v ∷ vs)) (let s : suc (a + b) ≡ suc a + b = omega arith in s)

name_order : (q : Asked) (b : Bool) (count : ℕ) (vs : List Data) → is_ordered q.orders name_path ≡ b → count ≡ min (length (whole_order q)) (2 ^ 64 - 1) → length vs ≤ count → length vs < 2 ^ 64 - 1
    → some_bad (cond b [] (joined q name_path ∷ [])) (drop (length q.orders + length (joining q)) vs) ≡ (not b && (length vs == count && last_is_bad vs))
name_order q true count vs e c within short = refl
name_order q false count vs e c within short =
    name_place_by (joined q name_path) (length q.orders + length (joining q)) count (length (whole_order q)) vs refl (length_with_name q e) c within short (cases_lt (length vs) (suc (length q.orders + length (joining q))))

pub places : (q : Asked) (count : ℕ) (vs : List Data) → count ≡ min (length (whole_order q)) (2 ^ 64 - 1) → length vs ≤ count → length vs < 2 ^ 64 - 1
    → some_bad (whole_order q) vs ≡ (some_bad q.orders vs || (not (is_ordered q.orders name_path) && (length vs == count && last_is_bad vs)))
places q count vs c within short =
    some_bad_append q.orders (map (joined q) (joining q) ++ cond (is_ordered q.orders name_path) [] (joined q name_path ∷ [])) vs
    ∙ ap (λ b. some_bad q.orders vs || b)
    (some_bad_append (map (joined q) (joining q)) (cond (is_ordered q.orders name_path) [] (joined q name_path ∷ [])) (drop (length q.orders) vs)
    ∙ ap (λ b. b || some_bad (cond (is_ordered q.orders name_path) [] (joined q name_path ∷ [])) (drop (length (map (joined q) (joining q))) (drop (length q.orders) vs)))
    (not_bad q (joining q) (drop (length q.orders) vs) (no_names q.orders (inequality_paths q.filter)))
    ∙ ap (some_bad (cond (is_ordered q.orders name_path) [] (joined q name_path ∷ [])))
    (drop_twice (length q.orders) (length (map (joined q) (joining q))) vs ∙ ap (λ n. drop (length q.orders + n) vs) (length-map (joining q) (joined q)))
    ∙ name_order q (is_ordered q.orders name_path) count vs refl c within short)

-- ---- a loop over the fields that are given

all_done_by : (os : List Order) (vs : List Value) (n : ℕ) → (length os ≤ n) ⊎ (length vs ≤ n) → some_bad (drop n os) (map view (drop n vs)) ≡ false
all_done_by [] vs zero h = refl
all_done_by [] vs (suc n) h = refl
all_done_by (o ∷ os) [] zero h = refl
all_done_by (o ∷ os) [] (suc n) h = no_places (drop n os)
all_done_by (o ∷ os) (v ∷ vs) zero (inl h) = absurd (omega arith)
all_done_by (o ∷ os) (v ∷ vs) zero (inr h) = absurd (omega arith)
all_done_by (o ∷ os) (v ∷ vs) (suc n) (inl h) = all_done_by os vs n (inl (omega arith))
all_done_by (o ∷ os) (v ∷ vs) (suc n) (inr h) = all_done_by os vs n (inr (omega arith))

shorter : (a b n : ℕ) → n ≡ min a b → (a < suc b) ⊎ (suc b ≤ a) → (a ≤ n) ⊎ (b ≤ n)
shorter a b n e (inl h) = inl (omega arith)
shorter a b n e (inr h) = inr (omega arith)

pub all_done : (os : List Order) (vs : List Value) (n : ℕ) → n ≡ min (length os) (length vs) → false ≡ some_bad (drop n os) (map view (drop n vs))
all_done os vs n e = sym (all_done_by os vs n (shorter (length os) (length vs) n e (cases_lt (length os) (suc (length vs)))))
