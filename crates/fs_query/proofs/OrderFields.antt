-- A document has each field of a query's whole order where it has those that are given and those of the inequalities.
use Rattle.std.proofs.Common.{◌≡◌, ℕ, Bool, true, false, cond, List, [], ◌∷◌, ◌++◌, map, refl, sym, ap, ◌∙◌}
use Rattle.std.specs.Prelude.{◌&&◌, ◌||◌, not}
use Rattle.std.specs.List.{list_all, filter}
use Rattle.std.specs.Option.{is_some}
use Rattle.std.specs.Ordering.{match_ordering}
use Rattle.std.specs.declared.cmp.Ordering.{Ordering}
use Rattle.std.specs.declared.cmp.Ordering.TheVariants.{Less, Equal, Greater}
use Rattle.std.specs.Cmp.{Equal-is}
use Rattle.std.proofs.lemmas.List.Folds.{list_all-append, list_all-map}
use Rattle.fs_path.specs.TextOrder.{ids_cmp, ids_eq, ids_same, ids_ties}
use Rattle.fs_path.specs.declared.field.FieldPath.{FieldPath}
use Rattle.fs_value.specs.Data.{reference}
use Rattle.fs_value.specs.FieldPaths.{get_fields}
use Rattle.fs_value.specs.declared.document.Document.{Document}
use Rattle.std.specs.Prelude.{Some}
use Rattle.std.proofs.Math.Bool.{and-true}
use Rattle.fs_query.specs.Asked.{Asked}
use Rattle.fs_query.specs.Condition.{Condition, anything, compared, is_null, is_not_null, all_of, any_of, Conditions, no_more, one_more}
use Rattle.fs_query.specs.Field.{name_parts, name_path, is_name, value_at}
use Rattle.fs_query.specs.Fits.{has_field}
use Rattle.fs_query.specs.Inequalities.{has_inequality_fields, have_inequality_fields}
use Rattle.fs_query.specs.Normal.{is_inequality, inequality_paths, inequality_paths_of, put_path, in_order, is_ordered, joins, joining, joined, whole_order}
use Rattle.fs_query.specs.declared.order.Order.{Order}

abbrev here : Document → FieldPath → Bool
here d p = is_some (value_at p d)

abbrev all_here : Document → List FieldPath → Bool
all_here d ps = list_all (here d) ps

-- ---- truth values

and_again : (a b : Bool) → (a && b) ≡ (a && (a && b))
and_again true b = refl
and_again false b = refl

and_swap : (a b c : Bool) → (a && (b && c)) ≡ (b && (a && c))
and_swap true true c = refl
and_swap true false c = refl
and_swap false true c = refl
and_swap false false c = refl

-- ---- equal paths lead to one value

pub ids_equal : (a b : List (List ℕ)) → ids_eq a b ≡ true → a ≡ b
ids_equal a b e = ids_same a b ((Equal-is (ids_cmp a b)).0 (sym (ids_ties a b) ∙ e))

here_alike : (d : Document) (p q : FieldPath) → p.parts ≡ q.parts → here d p ≡ here d q
here_alike d p q e = ap (λ ks. is_some (cond (ids_eq ks name_parts) (Some (reference d.name)) (get_fields ks d.fields))) e

-- ---- sorting keeps which paths there are

put_here_by : (d : Document) (p q : FieldPath) (qs : List FieldPath) (o : Ordering) → ids_cmp p.parts q.parts ≡ o
    → all_here d (put_path p qs) ≡ (here d p && all_here d qs)
    → all_here d (match_ordering o (p ∷ q ∷ qs) (q ∷ qs) (q ∷ put_path p qs)) ≡ (here d p && (here d q && all_here d qs))
put_here_by d p q qs Less e rest = refl
put_here_by d p q qs Equal e rest =
    and_again (here d q) (all_here d qs) ∙ ap (λ b. b && (here d q && all_here d qs)) (sym (here_alike d p q (ids_same p.parts q.parts e)))
put_here_by d p q qs Greater e rest =
    ap (λ b. here d q && b) rest ∙ and_swap (here d q) (here d p) (all_here d qs)

put_here : (d : Document) (p : FieldPath) (qs : List FieldPath) → all_here d (put_path p qs) ≡ (here d p && all_here d qs)
put_here d p [] = refl
put_here d p (q ∷ qs) = put_here_by d p q qs (ids_cmp p.parts q.parts) refl (put_here d p qs)

in_order_here : (d : Document) (ps : List FieldPath) → all_here d (in_order ps) ≡ all_here d ps
in_order_here d [] = refl
in_order_here d (p ∷ ps) = put_here d p (in_order ps) ∙ ap (λ b. here d p && b) (in_order_here d ps)

-- ---- a path that doesn't join is the name or ordered already, so it is there

ordered_here_by : (d : Document) (o : Order) (os : List Order) (p : FieldPath) (h f : Bool) → has_field d o ≡ h → ids_eq o.path.parts p.parts ≡ f
    → (h && list_all (has_field d) os) ≡ true → (f || is_ordered os p) ≡ true
    → (list_all (has_field d) os ≡ true → is_ordered os p ≡ true → here d p ≡ true) → here d p ≡ true
ordered_here_by d o os p true true h f all some rest = sym (here_alike d o.path p (ids_equal o.path.parts p.parts f)) ∙ h
ordered_here_by d o os p true false h f all some rest = rest all some
ordered_here_by d o os p false f' h f all some rest = absurd (cc)

ordered_here : (d : Document) (os : List Order) (p : FieldPath) → list_all (has_field d) os ≡ true → is_ordered os p ≡ true → here d p ≡ true
ordered_here d [] p all some = absurd (cc)
ordered_here d (o ∷ os) p all some =
    ordered_here_by d o os p (has_field d o) (ids_eq o.path.parts p.parts) refl refl all some (ordered_here d os p)

name_here : (d : Document) (p : FieldPath) → is_name p ≡ true → here d p ≡ true
name_here d p e = ap (λ b. is_some (cond b (Some (reference d.name)) (get_fields p.parts d.fields))) e

left_out_here : (d : Document) (os : List Order) (p : FieldPath) (n o : Bool) → is_name p ≡ n → is_ordered os p ≡ o
    → list_all (has_field d) os ≡ true → (not n && not o) ≡ false → here d p ≡ true
left_out_here d os p true o n e all out = name_here d p n
left_out_here d os p false true n e all out = ordered_here d os p all e
left_out_here d os p false false n e all out = absurd (cc)

joining_here_by : (d : Document) (os : List Order) (p : FieldPath) (ps : List FieldPath) (t : Bool) → joins os p ≡ t → list_all (has_field d) os ≡ true
    → all_here d (filter (joins os) ps) ≡ all_here d ps
    → all_here d (cond t (p ∷ filter (joins os) ps) (filter (joins os) ps)) ≡ (here d p && all_here d ps)
joining_here_by d os p ps true t all rest = ap (λ b. here d p && b) rest
joining_here_by d os p ps false t all rest =
    rest ∙ ap (λ b. b && all_here d ps) (sym (left_out_here d os p (is_name p) (is_ordered os p) refl refl all t))

joining_here : (d : Document) (os : List Order) (ps : List FieldPath) → list_all (has_field d) os ≡ true
    → all_here d (filter (joins os) ps) ≡ all_here d ps
joining_here d os [] all = refl
joining_here d os (p ∷ ps) all = joining_here_by d os p ps (joins os p) refl all (joining_here d os ps all)

-- ---- the inequalities of a filter

compared_here : (d : Document) (p : FieldPath) (b : Bool) → all_here d (cond b (p ∷ []) []) ≡ (not b || here d p)
compared_here d p true = and-true (here d p)
compared_here d p false = refl

mutual
  inequalities_here : (c : Condition) (d : Document) → all_here d (inequality_paths c) ≡ has_inequality_fields c d
  inequalities_here anything d = refl
  inequalities_here (compared p op v) d = compared_here d p (is_inequality op)
  inequalities_here (is_null p) d = refl
  inequalities_here (is_not_null p) d = and-true (here d p)
  inequalities_here (all_of cs) d = inequalities_all_here cs d
  inequalities_here (any_of cs) d = inequalities_all_here cs d

  inequalities_all_here : (cs : Conditions) (d : Document) → all_here d (inequality_paths_of cs) ≡ have_inequality_fields cs d
  inequalities_all_here no_more d = refl
  inequalities_all_here (one_more c cs) d =
      list_all-append (here d) (inequality_paths c) (inequality_paths_of cs)
      ∙ ap (λ b. b && all_here d (inequality_paths_of cs)) (inequalities_here c d)
      ∙ ap (λ b. has_inequality_fields c d && b) (inequalities_all_here cs d)

-- ---- the whole order

name_is_there : (q : Asked) (d : Document) (b : Bool) → list_all (has_field d) (cond b [] (joined q name_path ∷ [])) ≡ true
name_is_there q d true = refl
name_is_there q d false = refl

joined_here : (q : Asked) (d : Document) → list_all (has_field d) q.orders ≡ true
    → list_all (has_field d) (map (joined q) (joining q) ++ cond (is_ordered q.orders name_path) [] (joined q name_path ∷ [])) ≡ has_inequality_fields q.filter d
joined_here q d all =
    list_all-append (has_field d) (map (joined q) (joining q)) (cond (is_ordered q.orders name_path) [] (joined q name_path ∷ []))
    ∙ ap (λ b. list_all (has_field d) (map (joined q) (joining q)) && b) (name_is_there q d (is_ordered q.orders name_path))
    ∙ and-true (list_all (has_field d) (map (joined q) (joining q)))
    ∙ list_all-map (has_field d) (joined q) (joining q)
    ∙ in_order_here d (filter (joins q.orders) (inequality_paths q.filter))
    ∙ joining_here d q.orders (inequality_paths q.filter) all
    ∙ inequalities_here q.filter d

order_fields_by : (q : Asked) (d : Document) (b : Bool) → list_all (has_field d) q.orders ≡ b
    → (b && list_all (has_field d) (map (joined q) (joining q) ++ cond (is_ordered q.orders name_path) [] (joined q name_path ∷ []))) ≡ (b && has_inequality_fields q.filter d)
order_fields_by q d true e = joined_here q d e
order_fields_by q d false e = refl

pub order_fields : (q : Asked) (d : Document) → list_all (has_field d) (whole_order q) ≡ (list_all (has_field d) q.orders && has_inequality_fields q.filter d)
order_fields q d =
    list_all-append (has_field d) q.orders (map (joined q) (joining q) ++ cond (is_ordered q.orders name_path) [] (joined q name_path ∷ []))
    ∙ order_fields_by q d (list_all (has_field d) q.orders) refl
