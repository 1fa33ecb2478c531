-- The JSON of a query, as it is written. The members of each object stand in byte order of their names, and what is absent,
-- empty or 0 is left out, but for a limit, which is written also where it is 0. The parent isn't part of it. (v1 reference,
-- "StructuredQuery"; proto3 JSON.)
--
--     the collection c of the parent                      {"from":[{"collectionId":"c"}]}
--     of it, the first where a isn't null, by a           {"from":[{"collectionId":"c"}],"limit":1,"orderBy":[..],
--                                                          "where":{"unaryFilter":{"field":{"fieldPath":"a"},"op":"IS_NOT_NULL"}}}
use Rattle.std.specs.Prelude.{ℕ, zero, suc, ℤ, pos, negsuc, Bool, true, false, List, [], ◌∷◌, Option, Some, None, option_map, codes}
use Rattle.fs_path.specs.declared.field.FieldPath.{FieldPath}
use Rattle.serde_json.specs.Data as json
use Rattle.fs_json.specs.Integer.{small_json}
use Rattle.fs_value.specs.Data.{Data}
use Rattle.fs_query.specs.Asked.{Asked}
use Rattle.fs_query.specs.Condition.{Condition, anything, compared, is_null, is_not_null, all_of, any_of, Conditions, no_more, one_more}
use Rattle.fs_query.specs.declared.op.Op.{Op}
use Rattle.fs_query.specs.declared.order.Order.{Order}
use Rattle.fs_valjson.specs.Writing.{value_json}
use Rattle.fs_json.specs.Members.{with_one}
use Rattle.fs_queryjson.specs.Cursor.{cursor_json}
use Rattle.fs_queryjson.specs.Field.{field_json}
use Rattle.fs_queryjson.specs.From.{from_json}
use Rattle.fs_queryjson.specs.Op.{join_name, null_name, op_name}
use Rattle.fs_queryjson.specs.Order.{orders_json}
use Rattle.fs_queryjson.specs.Select.{select_json}

-- ---- filters

abbrev pub compare_json : FieldPath → Op → Data → json.Data
compare_json p op v =
    json.object (json.member (codes "field") (field_json p) (json.member (codes "op") (json.string (op_name op)) (json.member (codes "value") (value_json v) json.no_members)))

abbrev pub unary_json : Bool → FieldPath → json.Data
unary_json null p = json.object (json.member (codes "field") (field_json p) (json.member (codes "op") (json.string (null_name null)) json.no_members))

-- an empty list is left out
abbrev pub composite_json : Bool → json.Items → json.Data
composite_json all json.no_items = json.object (json.member (codes "op") (json.string (join_name all)) json.no_members)
composite_json all (json.item d ds) = json.object (json.member (codes "filters") (json.array (json.item d ds)) (json.member (codes "op") (json.string (join_name all)) json.no_members))

-- A filter. One that fits every document has no JSON of its own: it stands only as a whole filter, and then it is left out.
abbrev mutual
  pub filter_json : Condition → json.Data
  filter_json anything = json.object json.no_members
  filter_json (compared p op v) = with_one (codes "fieldFilter") (compare_json p op v)
  filter_json (is_null p) = with_one (codes "unaryFilter") (unary_json true p)
  filter_json (is_not_null p) = with_one (codes "unaryFilter") (unary_json false p)
  filter_json (all_of cs) = with_one (codes "compositeFilter") (composite_json true (filters_json cs))
  filter_json (any_of cs) = with_one (codes "compositeFilter") (composite_json false (filters_json cs))

  pub filters_json : Conditions → json.Items
  filters_json no_more = json.no_items
  filters_json (one_more c cs) = json.item (filter_json c) (filters_json cs)

-- ---- the members of a query that are left out where there is nothing to tell

abbrev pub where_json : Condition → Option json.Data
where_json anything = None
where_json c = Some (filter_json c)

abbrev pub order_by_json : List Order → Option json.Data
order_by_json [] = None
order_by_json (o ∷ os) = Some (orders_json (o ∷ os))

abbrev pub offset_json : ℤ → Option json.Data
offset_json (pos zero) = None
offset_json (pos (suc n)) = Some (small_json (pos (suc n)))
offset_json (negsuc n) = Some (small_json (negsuc n))

-- ---- members, each of which may be absent

abbrev pub with_member : List ℕ → Option json.Data → json.Members → json.Members
with_member name None rest = rest
with_member name (Some d) rest = json.member name d rest

-- those of these members that are there
abbrev pub those_there : List (List ℕ × Option json.Data) → json.Members
those_there [] = json.no_members
those_there (m ∷ ms) = with_member m.0 m.1 (those_there ms)

-- ---- queries

abbrev pub query_parts : Asked → List (List ℕ × Option json.Data)
query_parts q =
    (codes "endAt", option_map cursor_json q.end)
    ∷ (codes "from", Some (from_json q.scope))
    ∷ (codes "limit", option_map small_json q.limit)
    ∷ (codes "offset", offset_json q.offset)
    ∷ (codes "orderBy", order_by_json q.orders)
    ∷ (codes "select", option_map select_json q.select)
    ∷ (codes "startAt", option_map cursor_json q.start)
    ∷ (codes "where", where_json q.filter)
    ∷ []

unfoldable pub query_json : Asked → json.Data
query_json q = json.object (those_there (query_parts q))
