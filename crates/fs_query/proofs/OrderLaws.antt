-- The order of documents is total, and tells documents of different names apart.
use Rattle.std.proofs.Common.{◌≡◌, Bool, true, false, cond, List, [], ◌∷◌, ◌++◌, map, Less, Equal, Greater, refl, subst}
use Rattle.std.specs.Prelude.{Option, Some, ◌||◌}
use Rattle.std.specs.declared.cmp.Ordering.{Ordering}
use Rattle.std.specs.Cmp.{IsTotalOrder}
use Rattle.std.specs.Cmp.Lexicographic.{options_total}
use Rattle.std.proofs.lemmas.Cmp.{on_total, then_total, back_total}
use Rattle.fs_path.specs.NameOrder.{name_cmp, name_same, both_equal}
use Rattle.fs_path.specs.TextOrder.{ids_eq}
use Rattle.fs_path.specs.declared.field.FieldPath.{FieldPath}
use Rattle.fs_value.specs.Data.{Data, reference}
use Rattle.fs_value.specs.FieldPaths.{get_fields}
use Rattle.fs_value.specs.ValueOrderLaws.{value_cmp_total}
use Rattle.fs_value.specs.declared.document.Document.{Document}
use Rattle.fs_query.specs.Asked.{Asked}
use Rattle.fs_query.specs.DocumentOrder.{turned, found_cmp, order_cmp, orders_cmp}
use Rattle.fs_query.specs.Field.{name_path, is_name, value_at}
use Rattle.fs_query.specs.Normal.{is_ordered, joining, joined, whole_order}
use Rattle.fs_query.specs.declared.order.Order.{Order}

-- ---- it is total

-- what is found at a field, in the direction of an order
abbrev pub found_by : Order → Option Data → Option Data → Ordering
found_by o v w = turned o.descending (found_cmp v w)

turned_total : {K : Type 0} {R : K → K → Ordering} (descending : Bool) → IsTotalOrder R → IsTotalOrder (λ a b. turned descending (R a b))
turned_total true t = subst IsTotalOrder (λ i a b. t.antisymm b a i) (back_total t)
turned_total false t = t

pub found_by_total : (o : Order) → IsTotalOrder (found_by o)
found_by_total o = turned_total o.descending (options_total value_cmp_total)

level_total : IsTotalOrder (orders_cmp [])
level_total = record { antisymm = λ a b. refl; trans = λ a b d e f. e; congr = λ a b d e. refl }

pub orders_total : (os : List Order) → IsTotalOrder (orders_cmp os)
orders_total [] = level_total
orders_total (o ∷ os) = then_total (on_total (λ d. value_at o.path d) (found_by_total o)) (orders_total os)

-- ---- documents that it doesn't tell apart have one name

level_turned : (descending : Bool) (r : Ordering) → turned descending r ≡ Equal → r ≡ Equal
level_turned true Less e = absurd (cc)
level_turned true Equal e = refl
level_turned true Greater e = absurd (cc)
level_turned false r e = e

found_names : (o : Order) (a b : Document) (t : Bool) → t ≡ true → turned o.descending (found_cmp (cond t (Some (reference a.name)) (get_fields o.path.parts a.fields)) (cond t (Some (reference b.name)) (get_fields o.path.parts b.fields))) ≡ Equal → a.name ≡ b.name
found_names o a b true t e = name_same a.name b.name (level_turned o.descending (name_cmp a.name b.name) e)
found_names o a b false t e = absurd (cc)

tells_by : (o : Order) (os : List Order) (a b : Document) (t : Bool) → is_name o.path ≡ t → (t || is_ordered os name_path) ≡ true → order_cmp o a b ≡ Equal → (is_ordered os name_path ≡ true → a.name ≡ b.name) → a.name ≡ b.name
tells_by o os a b true t some e rest = found_names o a b (is_name o.path) t e
tells_by o os a b false t some e rest = rest some

pub tells_names : (os : List Order) (a b : Document) → is_ordered os name_path ≡ true → orders_cmp os a b ≡ Equal → a.name ≡ b.name
tells_names [] a b some e = absurd (cc)
tells_names (o ∷ os) a b some e =
    let both = both_equal (order_cmp o a b) (orders_cmp os a b) e in
    tells_by o os a b (is_name o.path) refl some both.0 (λ h. tells_names os a b h both.1)

-- ---- the name is in each whole order

ordered_in_front : (os ps : List Order) (p : FieldPath) → is_ordered os p ≡ true → is_ordered (os ++ ps) p ≡ true
ordered_in_front [] ps p h = absurd (cc)
ordered_in_front (o ∷ os) ps p h =
    elim (ids_eq o.path.parts p.parts) as (λ t. (t || is_ordered os p) ≡ true → (t || is_ordered (os ++ ps) p) ≡ true) [
      | true ↦ λ h. refl
      | false ↦ λ h. ordered_in_front os ps p h
    ] h

ordered_behind : (os ps : List Order) (p : FieldPath) → is_ordered ps p ≡ true → is_ordered (os ++ ps) p ≡ true
ordered_behind [] ps p h = h
ordered_behind (o ∷ os) ps p h =
    elim (ids_eq o.path.parts p.parts) as (λ t. (t || is_ordered (os ++ ps) p) ≡ true) [ true ↦ refl | false ↦ ordered_behind os ps p h ]

name_is_last : (q : Asked) (t : Bool) → is_ordered q.orders name_path ≡ t → is_ordered (q.orders ++ (map (joined q) (joining q) ++ cond t [] (joined q name_path ∷ []))) name_path ≡ true
name_is_last q true t = ordered_in_front q.orders (map (joined q) (joining q) ++ []) name_path t
name_is_last q false t = ordered_behind q.orders (map (joined q) (joining q) ++ (joined q name_path ∷ [])) name_path (ordered_behind (map (joined q) (joining q)) (joined q name_path ∷ []) name_path refl)

pub name_is_ordered : (q : Asked) → is_ordered (whole_order q) name_path ≡ true
name_is_ordered q = name_is_last q (is_ordered q.orders name_path) refl
