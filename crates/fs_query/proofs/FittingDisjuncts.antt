-- A document fits a query exactly where it fits one of its disjuncts.
use Rattle.std.proofs.Common.{◌≡◌, Bool, true, false, List, [], ◌∷◌, ◌++◌, map, refl, sym, ap, ◌∙◌}
use Rattle.std.specs.Prelude.{◌&&◌, ◌||◌, not, Option, Some, None}
use Rattle.std.specs.List.{list_all, list_any}
use Rattle.std.specs.Option.{is_some}
use Rattle.std.specs.Ordering.{is_eq, ordering_reverse}
use Rattle.std.specs.declared.cmp.Ordering.{Ordering}
use Rattle.std.specs.declared.cmp.Ordering.TheVariants.{Less, Equal, Greater}
use Rattle.std.proofs.lemmas.List.Folds.{list_any-append}
use Rattle.fs_path.specs.Scope.{covers}
use Rattle.fs_path.specs.declared.field.FieldPath.{FieldPath}
use Rattle.fs_value.specs.Data.{Data}
use Rattle.fs_value.specs.ValueOrder.{value_cmp}
use Rattle.fs_value.specs.ValueOrderLaws.{value_cmp_total}
use Rattle.fs_value.specs.declared.document.Document.{Document}
use Rattle.fs_query.specs.Asked.{Asked}
use Rattle.fs_query.specs.Condition.{Condition, anything, compared, is_null, is_not_null, all_of, any_of, Conditions, no_more, one_more, conditions_of}
use Rattle.fs_value.specs.Elements.{array_contains, elements, same}
use Rattle.fs_query.specs.Fits.{is_null_value}
use Rattle.fs_query.specs.Field.{value_at}
use Rattle.fs_query.specs.Fits.{holds, passes, meets, meets_all, meets_any, one_is_among, has_field, fits}
use Rattle.fs_query.specs.Inequalities.{has_inequality_fields, have_inequality_fields}
use Rattle.fs_query.specs.Laws.{narrowed, FitsADisjunct}
use Rattle.fs_query.specs.Normal.{is_inequality, alternatives, products, conjunctions, conjunctions_of_all, conjunctions_of_any, conjunction, whole_order}
use Rattle.fs_query.specs.declared.op.Op.{Op}
use Rattle.fs_query.specs.declared.op.Op.TheVariants as op
use Rattle.fs_query.proofs.OrderFields.{order_fields}
use Rattle.std.proofs.Math.Bool.{and-true, or-false}

-- ---- truth values

and_false : (a : Bool) → false ≡ (a && false)
and_false true = refl
and_false false = refl

-- g && m where m needs g
alone_by : (g m : Bool) → (g && m) ≡ m → (((g && true) && (m && true)) || false) ≡ m
alone_by g m h =
    or-false ((g && true) && (m && true)) ∙ (λ i. and-true g i && and-true m i) ∙ h

and_across : (a b c d : Bool) → ((a && b) && (c && d)) ≡ ((a && c) && (b && d))
and_across true true c d = refl
and_across true false true d = refl
and_across true false false d = refl
and_across false b c d = refl

and_assoc : (a b c : Bool) → ((a && b) && c) ≡ (a && (b && c))
and_assoc true b c = refl
and_assoc false b c = refl

and_or : (a b c : Bool) → ((a && b) || (a && c)) ≡ (a && (b || c))
and_or true b c = refl
and_or false b c = refl

or_and : (a b c : Bool) → ((a && c) || (b && c)) ≡ ((a || b) && c)
or_and true true true = refl
or_and true true false = refl
or_and true false true = refl
or_and true false false = refl
or_and false b c = refl

or_across : (a b c d : Bool) → ((a || b) || (c || d)) ≡ ((a || c) || (b || d))
or_across true b c d = refl
or_across false true true d = refl
or_across false true false d = refl
or_across false false c d = refl

-- ---- some element

any_map : {A B : Type 0} (p : B → Bool) (f : A → B) (xs : List A) → list_any p (map f xs) ≡ list_any (λ x. p (f x)) xs
any_map p f [] = refl
any_map p f (x ∷ xs) = ap (λ b. p (f x) || b) (any_map p f xs)

any_alike : {A : Type 0} (p q : A → Bool) (xs : List A) → ((x : A) → p x ≡ q x) → list_any p xs ≡ list_any q xs
any_alike p q [] h = refl
any_alike p q (x ∷ xs) h = λ i. h x i || any_alike p q xs h i

any_and : {A : Type 0} (b : Bool) (p : A → Bool) (xs : List A) → list_any (λ x. b && p x) xs ≡ (b && list_any p xs)
any_and b p [] = and_false b
any_and b p (x ∷ xs) = ap (λ c. (b && p x) || c) (any_and b p xs) ∙ and_or b (p x) (list_any p xs)

-- some pair is alike, whichever list is gone through first
any_pair : (v : Data) (vs ws : List Data) → list_any (λ w. list_any (λ x. same w x) (v ∷ vs)) ws ≡ (list_any (λ w. same w v) ws || list_any (λ w. list_any (λ x. same w x) vs) ws)
any_pair v vs [] = refl
any_pair v vs (w ∷ ws) = ap (λ b. (same w v || list_any (λ x. same w x) vs) || b) (any_pair v vs ws) ∙ or_across (same w v) (list_any (λ x. same w x) vs) (list_any (λ y. same y v) ws) (list_any (λ y. list_any (λ x. same y x) vs) ws)

eq_reversed : (o : Ordering) → is_eq (ordering_reverse o) ≡ is_eq o
eq_reversed Less = refl
eq_reversed Equal = refl
eq_reversed Greater = refl

same_turned : (v w : Data) → same v w ≡ same w v
same_turned v w = ap is_eq (value_cmp_total.antisymm v w) ∙ eq_reversed (value_cmp w v)

none_any : (ws : List Data) → list_any (λ w. list_any (λ x. same w x) []) ws ≡ false
none_any [] = refl
none_any (w ∷ ws) = none_any ws

pairs_turned : (vs ws : List Data) → list_any (λ w. array_contains vs w) ws ≡ one_is_among vs ws
pairs_turned [] ws = none_any ws
pairs_turned (v ∷ vs) ws =
    any_pair v vs ws
    ∙ (λ i. any_alike (λ w. same w v) (same v) ws (λ w. same_turned w v) i || pairs_turned vs ws i)

-- ---- a conjunction is met with the fields of its inequalities there

abbrev met : Document → List Condition → Bool
met d cs = have_inequality_fields (conditions_of cs) d && meets_all (conditions_of cs) d

have_append : (d : Document) (cs ds : List Condition) → have_inequality_fields (conditions_of (cs ++ ds)) d ≡ (have_inequality_fields (conditions_of cs) d && have_inequality_fields (conditions_of ds) d)
have_append d [] ds = refl
have_append d (c ∷ cs) ds =
    ap (λ b. has_inequality_fields c d && b) (have_append d cs ds) ∙ sym (and_assoc (has_inequality_fields c d) (have_inequality_fields (conditions_of cs) d) (have_inequality_fields (conditions_of ds) d))

meets_append : (d : Document) (cs ds : List Condition) → meets_all (conditions_of (cs ++ ds)) d ≡ (meets_all (conditions_of cs) d && meets_all (conditions_of ds) d)
meets_append d [] ds = refl
meets_append d (c ∷ cs) ds =
    ap (λ b. meets c d && b) (meets_append d cs ds) ∙ sym (and_assoc (meets c d) (meets_all (conditions_of cs) d) (meets_all (conditions_of ds) d))

met_append : (d : Document) (cs ds : List Condition) → met d (cs ++ ds) ≡ (met d cs && met d ds)
met_append d cs ds =
    (λ i. have_append d cs ds i && meets_append d cs ds i)
    ∙ and_across (have_inequality_fields (conditions_of cs) d) (have_inequality_fields (conditions_of ds) d) (meets_all (conditions_of cs) d) (meets_all (conditions_of ds) d)

met_row : (d : Document) (front : List Condition) (backs : List (List Condition)) → list_any (met d) (map (λ back. front ++ back) backs) ≡ (met d front && list_any (met d) backs)
met_row d front [] = and_false (met d front)
met_row d front (b ∷ backs) =
    (λ i. met_append d front b i || met_row d front backs i) ∙ and_or (met d front) (met d b) (list_any (met d) backs)

met_products : (d : Document) (xs ys : List (List Condition)) → list_any (met d) (products xs ys) ≡ (list_any (met d) xs && list_any (met d) ys)
met_products d [] ys = refl
met_products d (x ∷ xs) ys =
    list_any-append (met d) (map (λ y. x ++ y) ys) (products xs ys)
    ∙ (λ i. met_row d x ys i || met_products d xs ys i)
    ∙ or_and (met d x) (list_any (met d) xs) (list_any (met d) ys)

-- ---- simple filters

needs_field : (b : Bool) (o : Option Data) (t : Data → Bool) → ((not b || is_some o) && passes t o) ≡ passes t o
needs_field true None t = refl
needs_field true (Some v) t = refl
needs_field false o t = refl

needs_field_there : (o : Option Data) (t : Data → Bool) → (is_some o && passes t o) ≡ passes t o
needs_field_there None t = refl
needs_field_there (Some v) t = refl

compared_met : (d : Document) (p : FieldPath) (o : Op) (w : Data) → list_any (met d) ((compared p o w ∷ []) ∷ []) ≡ meets (compared p o w) d
compared_met d p o w =
    alone_by (has_inequality_fields (compared p o w) d) (meets (compared p o w) d) (needs_field (is_inequality o) (value_at p d) (λ v. holds o v w))

in_met : (d : Document) (p : FieldPath) (ws : List Data) (o : Option Data) → value_at p d ≡ o
    → list_any (met d) (map (λ c. c ∷ []) (map (compared p op.Equal) ws)) ≡ passes (λ v. array_contains ws v) o
in_met d p [] None e = refl
in_met d p [] (Some v) e = refl
in_met d p (w ∷ ws) None e = (λ i. (passes (λ v. same v w) (e i) && true) || in_met d p ws None e i)
in_met d p (w ∷ ws) (Some v) e = (λ i. (passes (λ x. same x w) (e i) && true) || in_met d p ws (Some v) e i) ∙ ap (λ b. b || array_contains ws v) (and-true (same v w))

any_met : (d : Document) (p : FieldPath) (ws : List Data) (o : Option Data) → value_at p d ≡ o
    → list_any (met d) (map (λ c. c ∷ []) (map (compared p op.ArrayContains) ws)) ≡ passes (λ v. list_any (λ w. array_contains (elements v) w) ws) o
any_met d p [] None e = refl
any_met d p [] (Some v) e = refl
any_met d p (w ∷ ws) None e = (λ i. (passes (λ v. array_contains (elements v) w) (e i) && true) || any_met d p ws None e i)
any_met d p (w ∷ ws) (Some v) e =
    (λ i. (passes (λ x. array_contains (elements x) w) (e i) && true) || any_met d p ws (Some v) e i)
    ∙ ap (λ b. b || list_any (λ y. array_contains (elements v) y) ws) (and-true (array_contains (elements v) w))

any_passes : (ws : List Data) (o : Option Data) → passes (λ v. list_any (λ w. array_contains (elements v) w) ws) o ≡ passes (λ v. one_is_among (elements v) ws) o
any_passes ws None = refl
any_passes ws (Some v) = pairs_turned (elements v) ws

field_met : (d : Document) (p : FieldPath) (o : Op) (w : Data) → list_any (met d) (conjunctions alternatives (compared p o w)) ≡ meets (compared p o w) d
field_met d p op.In w = in_met d p (elements w) (value_at p d) refl
field_met d p op.ArrayContainsAny w = any_met d p (elements w) (value_at p d) refl ∙ any_passes (elements w) (value_at p d)
field_met d p op.Less w = compared_met d p op.Less w
field_met d p op.LessEqual w = compared_met d p op.LessEqual w
field_met d p op.Greater w = compared_met d p op.Greater w
field_met d p op.GreaterEqual w = compared_met d p op.GreaterEqual w
field_met d p op.Equal w = compared_met d p op.Equal w
field_met d p op.NotEqual w = compared_met d p op.NotEqual w
field_met d p op.ArrayContains w = compared_met d p op.ArrayContains w
field_met d p op.NotIn w = compared_met d p op.NotIn w

-- ---- filters

mutual
  filter_met : (c : Condition) (d : Document) → list_any (met d) (conjunctions alternatives c) ≡ meets c d
  filter_met anything d = refl
  filter_met (compared p o w) d = field_met d p o w
  filter_met (is_null p) d = alone_by true (meets (is_null p) d) refl
  filter_met (is_not_null p) d = alone_by (is_some (value_at p d)) (meets (is_not_null p) d) (needs_field_there (value_at p d) (λ v. not (is_null_value v)))
  filter_met (all_of cs) d = all_met cs d
  filter_met (any_of cs) d = one_met cs d

  all_met : (cs : Conditions) (d : Document) → list_any (met d) (conjunctions_of_all alternatives cs) ≡ meets_all cs d
  all_met no_more d = refl
  all_met (one_more c cs) d =
      met_products d (conjunctions alternatives c) (conjunctions_of_all alternatives cs)
      ∙ (λ i. filter_met c d i && all_met cs d i)

  one_met : (cs : Conditions) (d : Document) → list_any (met d) (conjunctions_of_any alternatives cs) ≡ meets_any cs d
  one_met no_more d = refl
  one_met (one_more c cs) d =
      list_any-append (met d) (conjunctions alternatives c) (conjunctions_of_any alternatives cs)
      ∙ (λ i. filter_met c d i || one_met cs d i)

-- ---- queries

narrowed_fits : (q : Asked) (d : Document) (cs : List Condition)
    → fits (narrowed q (conjunction cs)) d ≡ (covers q.scope d.name && (list_all (has_field d) (whole_order q) && met d cs))
narrowed_fits q d cs =
    ap (λ b. covers q.scope d.name && (b && meets_all (conditions_of cs) d)) (order_fields (narrowed q (conjunction cs)) d)
    ∙ ap (λ b. covers q.scope d.name && b) (and_assoc (list_all (has_field d) (whole_order q)) (have_inequality_fields (conditions_of cs) d) (meets_all (conditions_of cs) d))

pub fits_a_disjunct : FitsADisjunct
fits_a_disjunct q d =
    ap (λ b. covers q.scope d.name && (list_all (has_field d) (whole_order q) && b)) (sym (filter_met q.filter d))
    ∙ ap (λ b. covers q.scope d.name && b) (sym (any_and (list_all (has_field d) (whole_order q)) (met d) (conjunctions alternatives q.filter)))
    ∙ sym (any_and (covers q.scope d.name) (λ cs. list_all (has_field d) (whole_order q) && met d cs) (conjunctions alternatives q.filter))
    ∙ any_alike (λ cs. covers q.scope d.name && (list_all (has_field d) (whole_order q) && met d cs)) (λ cs. fits (narrowed q (conjunction cs)) d) (conjunctions alternatives q.filter) (λ cs. sym (narrowed_fits q d cs))
    ∙ sym (any_map (λ c. fits (narrowed q c) d) conjunction (conjunctions alternatives q.filter))
