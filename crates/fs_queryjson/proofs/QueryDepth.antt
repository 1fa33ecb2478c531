-- What is written of a query that was read nests no deeper than what was read, or than a few levels.
use Rattle.std.proofs.Common.{ℕ, zero, suc, ◌+◌, ◌≤◌, ◌<◌, ℤ, pos, negsuc, List, [], ◌∷◌, map, Bool, true, false, Option, Some, None, Ok, IfOk, IfSome, option_map, codes, arith}
use Rattle.std.proofs.lemmas.Result.{IfOk-weaker}
use Rattle.fs_path.specs.Place.{member_place}
use Rattle.fs_path.specs.declared.field.FieldPath.{FieldPath}
use Rattle.fs_path.specs.declared.scope.Scope.{Scope}
use Rattle.fs_path.specs.declared.scope.Scope.TheVariants.{Collection, Group}
use Rattle.serde_json.specs.Data as json
use Rattle.serde_json.specs.Data.{depth, items_depth, members_depth}
use Rattle.serde_json.specs.View.{items_of}
use Rattle.fs_value.specs.Data.{Data}
use Rattle.fs_json.specs.Integer.{small_json}
use Rattle.fs_json.specs.Members.{only_at, member_or, unbuilt_at}
use Rattle.fs_query.specs.Asked.{Asked}
use Rattle.fs_query.specs.Condition.{Condition, anything, compared, is_null, is_not_null, all_of, any_of}
use Rattle.fs_query.specs.declared.cursor.Cursor.{Cursor}
use Rattle.fs_query.specs.declared.order.Order.{Order}
use Rattle.fs_json.proofs.Readings.{at_last_holds, in_turn_holds, of_made}
use Rattle.fs_json.proofs.Depths.{inside_or}
use Rattle.fs_valjson.proofs.Depths.{list_within}
use Rattle.fs_valjson.specs.Reading.{list_at}
use Rattle.fs_valjson.specs.Writing.{list_json}
use Rattle.fs_queryjson.specs.Cursor.{cursor_at, cursor_in, cursor_json, cursor_members, with_values}
use Rattle.fs_queryjson.specs.Filter.{filter_at, where_in}
use Rattle.fs_queryjson.specs.From.{from_json, scopes_in, the_scope}
use Rattle.fs_json.specs.Scalars.{truth_at}
use Rattle.fs_queryjson.specs.Order.{order_json, orders_in}
use Rattle.fs_queryjson.specs.Query.{limit_in, listened_at, offset_in, permitted_at, query_members, walked_at}
use Rattle.fs_queryjson.specs.Select.{fields_json, select_in, select_json, written_paths}
use Rattle.fs_queryjson.specs.Written.{filter_json, offset_json, order_by_json, query_json, query_parts, those_there, where_json, with_member}
use Rattle.fs_queryjson.proofs.FilterDepth.{filter_within}
use Rattle.fs_queryjson.proofs.QueryValid.{permitted_holds}

-- ---- members of a query

-- a member that may be absent nests less deep than this
abbrev IsBelow : ℕ → Option json.Data → Type 0
IsBelow n o = IfSome o (λ d. depth d < n)

whole_below : (c : Condition) (n : ℕ) → depth (filter_json c) < n → IsBelow n (where_json c)
whole_below anything n h = record {}
whole_below (compared p op v) n h = h
whole_below (is_null p) n h = h
whole_below (is_not_null p) n h = h
whole_below (all_of cs) n h = h
whole_below (any_of cs) n h = h

where_below : (d : json.Data) (place : List ℕ) (n : ℕ) → depth d ≤ n → IfOk (where_in d place) (λ c. IsBelow n (where_json c))
where_below d place n h =
    let P : Condition → Type 0 = λ c. IsBelow n (where_json c) in
    inside_or P (codes "where") d place (λ x. filter_at x (member_place place (codes "where"))) (Ok anything)
    (λ x falls. IfOk-weaker (filter_at x (member_place place (codes "where"))) (λ c. depth (filter_json c) ≤ depth x) P (λ c is. whole_below c n (omega (arith, is, falls, h))) (filter_within x (member_place place (codes "where"))))
    (record {})

values_fit : (vs : List Data) (n : ℕ) → depth (list_json vs) < n → members_depth (with_values vs) < n
values_fit [] n h = omega (arith, h)
values_fit (v ∷ vs) n h = omega (arith, h)

cursor_fits : (vs : List Data) (before : Bool) (n : ℕ) → members_depth (with_values vs) < n → depth (cursor_json (record { values = vs; before = before })) ≤ n
cursor_fits vs true n h = omega (arith, h)
cursor_fits vs false n h = omega (arith, h)

cursor_within : (d : json.Data) (place : List ℕ) (n : ℕ) → depth d ≤ n → 0 < n → IfOk (cursor_at d place) (λ c. depth (cursor_json c) ≤ n)
cursor_within d place n h some =
    let P : Cursor → Type 0 = λ c. depth (cursor_json c) ≤ n in
    let V : List Data → Type 0 = λ vs. members_depth (with_values vs) < n in
    at_last_holds P (only_at cursor_members d place) _
    (λ u. in_turn_holds V P (member_or [] list_at (codes "values") d place) _
    (inside_or V (codes "values") d place (λ x. list_at x (member_place place (codes "values"))) (Ok [])
    (λ x falls. IfOk-weaker (list_at x (member_place place (codes "values"))) (λ vs. depth (list_json vs) ≤ depth x) V (λ vs are. values_fit vs n (omega (arith, are, falls, h))) (list_within x (member_place place (codes "values")))) some)
    (λ vs are. at_last_holds P (member_or false truth_at (codes "before") d place) _ (λ before. cursor_fits vs before n are)))

cursor_below : (name : List ℕ) (d : json.Data) (place : List ℕ) (n : ℕ) → depth d ≤ n + 1 → 0 < n → IfOk (cursor_in name d place) (λ c. IsBelow (n + 1) (option_map cursor_json c))
cursor_below name d place n h some =
    let P : Option Cursor → Type 0 = λ c. IsBelow (n + 1) (option_map cursor_json c) in
    inside_or P name d place _ (Ok None)
    (λ x falls. of_made (λ c. depth (cursor_json c) ≤ n) P Some (cursor_at x (member_place place name)) (cursor_within x (member_place place name) n (omega (arith, falls, h)) some) (λ c is. omega (arith, is))) (record {})

-- these are so deep whatever they name
fields_flat : (ps : List FieldPath) → items_depth (fields_json ps) ≤ 1
fields_flat [] = omega arith
fields_flat (p ∷ ps) = omega (arith, fields_flat ps)

select_below : (select : Option (List FieldPath)) (n : ℕ) → IsBelow (n + 4) (option_map select_json select)
select_below None n = record {}
select_below (Some ps) n = omega (arith, fields_flat (written_paths ps))

orders_flat : (os : List Order) → items_depth (items_of (map order_json os)) ≤ 2
orders_flat [] = omega arith
orders_flat (o ∷ os) = omega (arith, orders_flat os)

orders_below : (os : List Order) (n : ℕ) → IsBelow (n + 4) (order_by_json os)
orders_below [] n = record {}
orders_below (o ∷ os) n = omega (arith, orders_flat (o ∷ os))

limit_below : (limit : Option ℤ) (n : ℕ) → IsBelow (n + 4) (option_map small_json limit)
limit_below None n = record {}
limit_below (Some z) n = omega arith

offset_below : (offset : ℤ) (n : ℕ) → IsBelow (n + 4) (offset_json offset)
offset_below (pos zero) n = record {}
offset_below (pos (suc m)) n = omega arith
offset_below (negsuc m) n = omega arith

from_depth : (scope : Scope) → depth (from_json scope) ≤ 2
from_depth (Collection parent id) = omega arith
from_depth (Group parent id) = omega arith

-- ---- queries

member_fits : (name : List ℕ) (o : Option json.Data) (rest : json.Members) (n : ℕ) → IsBelow n o → members_depth rest < n → members_depth (with_member name o rest) < n
member_fits name None rest n is h = h
member_fits name (Some d) rest n is h = omega (arith, is, h)

query_fits : (q : Asked) (n : ℕ) → IsBelow (n + 4) (where_json q.filter) → IsBelow (n + 4) (option_map cursor_json q.start) → IsBelow (n + 4) (option_map cursor_json q.end)
    → depth (query_json q) ≤ n + 4
unfolding query_json
query_fits q n filter start end =
    let from : depth (from_json q.scope) < n + 4 = omega (arith, from_depth q.scope) in
    let all : members_depth (those_there (query_parts q)) < n + 4 =
    member_fits (codes "endAt") (option_map cursor_json q.end) _ (n + 4) end
    (member_fits (codes "from") (Some (from_json q.scope)) _ (n + 4) from
    (member_fits (codes "limit") (option_map small_json q.limit) _ (n + 4) (limit_below q.limit n)
    (member_fits (codes "offset") (offset_json q.offset) _ (n + 4) (offset_below q.offset n)
    (member_fits (codes "orderBy") (order_by_json q.orders) _ (n + 4) (orders_below q.orders n)
    (member_fits (codes "select") (option_map select_json q.select) _ (n + 4) (select_below q.select n)
    (member_fits (codes "startAt") (option_map cursor_json q.start) _ (n + 4) start
    (member_fits (codes "where") (where_json q.filter) json.no_members (n + 4) filter (omega arith)))))))) in
    omega (arith, all)

-- the cursor of this name
cursor_within_some : (name : List ℕ) (d : json.Data) (place : List ℕ) (n : ℕ) → depth d ≤ n + 4 → IfOk (cursor_in name d place) (λ c. IsBelow (n + 4) (option_map cursor_json c))
cursor_within_some name d place n h =
    IfOk-weaker (cursor_in name d place) (λ c. IsBelow (n + 3 + 1) (option_map cursor_json c)) (λ c. IsBelow (n + 4) (option_map cursor_json c)) raised
    (cursor_below name d place (n + 3) (omega (arith, h)) (omega arith))
  where
    raised : (c : Option Cursor) → IsBelow (n + 3 + 1) (option_map cursor_json c) → IsBelow (n + 4) (option_map cursor_json c)
    raised None is = record {}
    raised (Some c) is = omega (arith, is)

-- as it is walked
pub walked_within : (parent : List (List ℕ)) (d : json.Data) (place : List ℕ) (n : ℕ) → depth d ≤ n + 4 → IfOk (walked_at parent d place) (λ q. depth (query_json q) ≤ n + 4)
unfolding walked_at
walked_within parent d place n h =
    let P : Asked → Type 0 = λ q. depth (query_json q) ≤ n + 4 in
    let C : Option Cursor → Type 0 = λ c. IsBelow (n + 4) (option_map cursor_json c) in
    at_last_holds P (only_at query_members d place) _
    (λ u. at_last_holds P (select_in d place) _
    (λ select. at_last_holds P (scopes_in parent d place) _
    (λ scopes. in_turn_holds (λ c. IsBelow (n + 4) (where_json c)) P (where_in d place) _ (where_below d place (n + 4) h)
    (λ filter is. at_last_holds P (orders_in d place) _
    (λ orders. in_turn_holds C P (cursor_in (codes "startAt") d place) _ (cursor_within_some (codes "startAt") d place n h)
    (λ start first. in_turn_holds C P (cursor_in (codes "endAt") d place) _ (cursor_within_some (codes "endAt") d place n h)
    (λ end last. at_last_holds P (offset_in d place) _
    (λ offset. at_last_holds P (limit_in d place) _
    (λ limit. query_fits (record { scope = the_scope parent scopes; filter = filter; orders = orders; start = start; end = end; offset = offset; limit = limit; select = select }) n is first last)))))))))

-- and as one that is listened to
pub listened_within : (parent : List (List ℕ)) (d : json.Data) (place : List ℕ) (n : ℕ) → depth d ≤ n + 4 → IfOk (listened_at parent d place) (λ q. depth (query_json q) ≤ n + 4)
unfolding listened_at
listened_within parent d place n h =
    let P : Asked → Type 0 = λ q. depth (query_json q) ≤ n + 4 in
    let C : Option Cursor → Type 0 = λ c. IsBelow (n + 4) (option_map cursor_json c) in
    at_last_holds P (only_at query_members d place) _
    (λ u. at_last_holds P (unbuilt_at (codes "select" ∷ []) d place) _
    (λ v. at_last_holds P (scopes_in parent d place) _
    (λ scopes. in_turn_holds (λ c. IsBelow (n + 4) (where_json c)) P (where_in d place) _ (where_below d place (n + 4) h)
    (λ filter is. at_last_holds P (orders_in d place) _
    (λ orders. in_turn_holds C P (cursor_in (codes "startAt") d place) _ (cursor_within_some (codes "startAt") d place n h)
    (λ start first. in_turn_holds C P (cursor_in (codes "endAt") d place) _ (cursor_within_some (codes "endAt") d place n h)
    (λ end last. at_last_holds P (unbuilt_at (codes "offset" ∷ []) d place) _
    (λ w. at_last_holds P (limit_in d place) _
    (λ limit. query_fits (record { scope = the_scope parent scopes; filter = filter; orders = orders; start = start; end = end; offset = pos 0; limit = limit; select = None }) n is first last)))))))))

-- and as its rules were tested
pub permitted_within : (q : Asked) (place : List ℕ) (n : ℕ) → depth (query_json q) ≤ n → IfOk (permitted_at q place) (λ p. depth (query_json p) ≤ n)
permitted_within q place n h = permitted_holds (λ p. depth (query_json p) ≤ n) q place (λ none. h)
