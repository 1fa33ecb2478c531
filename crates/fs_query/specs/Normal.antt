-- The normal form of a query: the whole order of its documents, and the disjuncts of its filter.
--
-- The fields of inequalities join the order, behind those that are given, in the order of their paths; the name comes last,
-- if it isn't ordered by already. What joins takes the last direction that is given, or else ascends:
--     b > 1 AND a != 2 AND c == 3, ordered by d descending      d, a, b and __name__, all descending
-- A filter is an OR of its disjuncts, each of which is an AND of simple filters. IN is an OR of EQUALs, and
-- ARRAY_CONTAINS_ANY one of ARRAY_CONTAINS. They stand in the order of the text, and the leftmost varies slowest:
--     a IN [1, 2] AND (b == 3 OR c == 4)
--     a == 1 AND b == 3;  a == 1 AND c == 4;  a == 2 AND b == 3;  a == 2 AND c == 4
-- (Cloud Firestore documentation, "Order and limit data", "Query operators": "Limits on OR queries".)
use Rattle.std.specs.Prelude.{Bool, true, false, not, ◌&&◌, List, [], ◌∷◌, ◌++◌, map, if◌then◌else◌}
use Rattle.std.specs.List.{list_any, filter, flat_map}
use Rattle.std.specs.Ordering.{match_ordering}
use Rattle.fs_path.specs.TextOrder.{ids_cmp, ids_eq}
use Rattle.fs_path.specs.declared.field.FieldPath.{FieldPath}
use Rattle.fs_query.specs.Asked.{Asked}
use Rattle.fs_query.specs.Condition.{Condition, anything, compared, is_null, is_not_null, all_of, any_of, Conditions, no_more, one_more, conditions_of}
use Rattle.fs_value.specs.Elements.{elements}
use Rattle.fs_query.specs.Field.{name_path, is_name}
use Rattle.fs_query.specs.declared.op.Op.{Op}
use Rattle.fs_query.specs.declared.op.Op.TheVariants.{Less, LessEqual, Greater, GreaterEqual, Equal, NotEqual, ArrayContains, In, ArrayContainsAny, NotIn}
use Rattle.fs_query.specs.declared.order.Order.{Order}

-- ---- the whole order

-- IS_NOT_NULL is one too
abbrev pub is_inequality : Op → Bool
is_inequality Less = true
is_inequality LessEqual = true
is_inequality Greater = true
is_inequality GreaterEqual = true
is_inequality NotEqual = true
is_inequality NotIn = true
is_inequality _ = false

-- the paths of a filter's inequalities, in the order of the text
abbrev mutual
  pub inequality_paths : Condition → List FieldPath
  inequality_paths (compared p op v) = if is_inequality op then p ∷ [] else []
  inequality_paths (is_not_null p) = p ∷ []
  inequality_paths (all_of cs) = inequality_paths_of cs
  inequality_paths (any_of cs) = inequality_paths_of cs
  inequality_paths _ = []

  pub inequality_paths_of : Conditions → List FieldPath
  inequality_paths_of no_more = []
  inequality_paths_of (one_more c cs) = inequality_paths c ++ inequality_paths_of cs

-- a path put in its place among paths that rise, unless it is there
abbrev pub put_path : FieldPath → List FieldPath → List FieldPath
put_path p [] = p ∷ []
put_path p (q ∷ qs) = match_ordering (ids_cmp p.parts q.parts) (p ∷ q ∷ qs) (q ∷ qs) (q ∷ put_path p qs)

-- paths name by name, each name by bytes, each path once
abbrev pub in_order : List FieldPath → List FieldPath
in_order [] = []
in_order (p ∷ ps) = put_path p (in_order ps)

abbrev pub is_ordered : List Order → FieldPath → Bool
is_ordered given p = list_any (λ o. ids_eq o.path.parts p.parts) given

-- whether a path joins the order, if it is an inequality's
abbrev pub joins : List Order → FieldPath → Bool
joins given p = not (is_name p) && not (is_ordered given p)

-- the paths that join the order
abbrev pub joining : Asked → List FieldPath
joining q = in_order (filter (joins q.orders) (inequality_paths q.filter))

abbrev pub last_descending : List Order → Bool
last_descending [] = false
last_descending (o ∷ []) = o.descending
last_descending (o ∷ p ∷ os) = last_descending (p ∷ os)

abbrev pub joined : Asked → FieldPath → Order
joined q p = record { path = p; descending = last_descending q.orders }

abbrev pub whole_order : Asked → List Order
whole_order q = q.orders ++ (map (joined q) (joining q) ++ (if is_ordered q.orders name_path then [] else joined q name_path ∷ []))

-- ---- the disjuncts

-- the simple filters that a simple filter is an OR of, where ARRAY_CONTAINS_ANY stays as it is
abbrev pub equalities : Condition → List Condition
equalities (compared p In w) = map (compared p Equal) (elements w)
equalities c = c ∷ []

abbrev pub alternatives : Condition → List Condition
alternatives (compared p ArrayContainsAny w) = map (compared p ArrayContains) (elements w)
alternatives c = equalities c

-- each of the first with each of the second behind it
abbrev pub products : List (List Condition) → List (List Condition) → List (List Condition)
products fronts backs = flat_map (λ front. map (λ back. front ++ back) backs) fronts

-- the conjunctions of simple filters that a filter is an OR of, by what a simple filter is an OR of
abbrev mutual
  pub conjunctions : (Condition → List Condition) → Condition → List (List Condition)
  conjunctions split anything = [] ∷ []
  conjunctions split (all_of cs) = conjunctions_of_all split cs
  conjunctions split (any_of cs) = conjunctions_of_any split cs
  conjunctions split (compared p op w) = map (λ c. c ∷ []) (split (compared p op w))
  conjunctions split (is_null p) = map (λ c. c ∷ []) (split (is_null p))
  conjunctions split (is_not_null p) = map (λ c. c ∷ []) (split (is_not_null p))

  pub conjunctions_of_all : (Condition → List Condition) → Conditions → List (List Condition)
  conjunctions_of_all split no_more = [] ∷ []
  conjunctions_of_all split (one_more c cs) = products (conjunctions split c) (conjunctions_of_all split cs)

  pub conjunctions_of_any : (Condition → List Condition) → Conditions → List (List Condition)
  conjunctions_of_any split no_more = []
  conjunctions_of_any split (one_more c cs) = conjunctions split c ++ conjunctions_of_any split cs

abbrev pub conjunction : List Condition → Condition
conjunction cs = all_of (conditions_of cs)

abbrev pub disjuncts : Condition → List Condition
disjuncts c = map conjunction (conjunctions alternatives c)
