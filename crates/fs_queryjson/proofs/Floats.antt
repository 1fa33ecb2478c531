-- What is written has no float, so its text is told byte for byte.
use Rattle.std.proofs.Common.{◌≡◌, ℕ, zero, suc, ℤ, pos, negsuc, Bool, true, false, List, [], ◌∷◌, map, Option, Some, None, option_map, refl}
use Rattle.std.specs.List.{AllByRecursion}
use Rattle.std.specs.Option.{option_map_or}
use Rattle.serde_json.specs.Data as json
use Rattle.serde_json.specs.View.{items_of}
use Rattle.serde_json.specs.Written.{has_float, items_have_float, members_have_float}
use Rattle.fs_path.specs.declared.field.FieldPath.{FieldPath}
use Rattle.fs_path.specs.declared.scope.Scope.{Scope}
use Rattle.fs_path.specs.declared.scope.Scope.TheVariants.{Collection, Group}
use Rattle.fs_json.specs.Integer.{small_json}
use Rattle.fs_value.specs.Data.{Data}
use Rattle.fs_query.specs.Asked.{Asked}
use Rattle.fs_query.specs.Condition.{Condition, anything, compared, is_null, is_not_null, all_of, any_of, Conditions, no_more, one_more}
use Rattle.fs_query.specs.declared.cursor.Cursor.{Cursor}
use Rattle.fs_query.specs.declared.order.Order.{Order}
use Rattle.fs_valjson.proofs.Floats.{list_float, value_float}
use Rattle.fs_queryjson.specs.Cursor.{cursor_json}
use Rattle.fs_queryjson.specs.From.{from_json}
use Rattle.fs_queryjson.specs.Order.{order_json}
use Rattle.fs_queryjson.specs.Select.{fields_json, select_json}
use Rattle.fs_queryjson.specs.Written.{filter_json, filters_json, offset_json, order_by_json, query_json, query_parts, those_there, where_json, with_member}
use Rattle.fs_queryjson.proofs.Rows.{Row}

mutual
  filter_float : (c : Condition) → has_float (filter_json c) ≡ false
  filter_float anything = refl
  filter_float (compared p op v) = rw (value_float v) refl
  filter_float (is_null p) = refl
  filter_float (is_not_null p) = refl
  filter_float (all_of no_more) = refl
  filter_float (all_of (one_more c cs)) = rw (filter_float c, filters_float cs) refl
  filter_float (any_of no_more) = refl
  filter_float (any_of (one_more c cs)) = rw (filter_float c, filters_float cs) refl

  filters_float : (cs : Conditions) → items_have_float (filters_json cs) ≡ false
  filters_float no_more = refl
  filters_float (one_more c cs) = rw (filter_float c, filters_float cs) refl

fields_float : (ps : List FieldPath) → items_have_float (fields_json ps) ≡ false
fields_float [] = refl
fields_float (p ∷ ps) = rw (fields_float ps) refl

each_order_float : (os : List Order) → items_have_float (items_of (map order_json os)) ≡ false
each_order_float [] = refl
each_order_float (o ∷ os) = rw (each_order_float os) refl

cursor_float : (ds : List Data) (before : Bool) → has_float (cursor_json (record { values = ds; before = before })) ≡ false
cursor_float [] true = refl
cursor_float [] false = refl
cursor_float (d ∷ ds) true = rw (list_float (d ∷ ds)) refl
cursor_float (d ∷ ds) false = rw (list_float (d ∷ ds)) refl

small_float : (n : ℤ) → has_float (small_json n) ≡ false
small_float (pos n) = refl
small_float (negsuc n) = refl

-- ---- a member that may be absent

abbrev float_in : Option json.Data → Bool
float_in o = option_map_or has_float o false

float_in_cursor : (o : Option Cursor) → float_in (option_map cursor_json o) ≡ false
float_in_cursor None = refl
float_in_cursor (Some c) = cursor_float c.values c.before

float_in_from : (s : Scope) → float_in (Some (from_json s)) ≡ false
float_in_from (Collection parent id) = refl
float_in_from (Group parent id) = refl

float_in_limit : (o : Option ℤ) → float_in (option_map small_json o) ≡ false
float_in_limit None = refl
float_in_limit (Some n) = small_float n

float_in_offset : (n : ℤ) → float_in (offset_json n) ≡ false
float_in_offset (pos zero) = refl
float_in_offset (pos (suc n)) = refl
float_in_offset (negsuc n) = refl

float_in_orders : (os : List Order) → float_in (order_by_json os) ≡ false
float_in_orders [] = refl
float_in_orders (o ∷ os) = each_order_float (o ∷ os)

float_in_select : (o : Option (List FieldPath)) → float_in (option_map select_json o) ≡ false
float_in_select None = refl
float_in_select (Some []) = refl
float_in_select (Some (p ∷ ps)) = rw (fields_float ps) refl

float_in_where : (c : Condition) → float_in (where_json c) ≡ false
float_in_where anything = refl
float_in_where (compared p op v) = filter_float (compared p op v)
float_in_where (is_null p) = refl
float_in_where (is_not_null p) = refl
float_in_where (all_of cs) = filter_float (all_of cs)
float_in_where (any_of cs) = filter_float (any_of cs)

-- ---- members

float_with : (k : List ℕ) (o : Option json.Data) (rest : json.Members) → float_in o ≡ false → members_have_float rest ≡ false → members_have_float (with_member k o rest) ≡ false
float_with k None rest one others = others
float_with k (Some d) rest one others = rw (one, others) refl

float_there : (rows : List Row) → AllByRecursion (λ r. float_in r.1 ≡ false) rows → members_have_float (those_there rows) ≡ false
float_there [] all = refl
float_there (r ∷ rows) all = float_with r.0 r.1 (those_there rows) all.0 (float_there rows all.1)

pub query_float : (q : Asked) → has_float (query_json q) ≡ false
unfolding query_json
query_float q = float_there (query_parts q) (
  float_in_cursor q.end,
  (
    float_in_from q.scope,
    (
      float_in_limit q.limit,
      (
        float_in_offset q.offset,
        (float_in_orders q.orders, (float_in_select q.select, (float_in_cursor q.start, (float_in_where q.filter, tt)))),
      ),
    ),
  ),
)
