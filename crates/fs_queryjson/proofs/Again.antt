-- What is written of a query is read as the same query.
use Rattle.std.proofs.Common.{◌≡◌, ℕ, zero, suc, ◌+◌, ℤ, pos, negsuc, Bool, true, false, List, [], ◌∷◌, map, Option, Some, None, option_map, Result, Ok, codes, refl, sym, ap, ◌∙◌}
use Rattle.std.specs.List.{AllByRecursion}
use Rattle.std.specs.Option.{option_map_or}
use Rattle.fs_path.specs.Place.{member_place, item_place}
use Rattle.fs_path.specs.declared.field.FieldPath.{FieldPath}
use Rattle.fs_path.specs.declared.place.Rule.TheVariants.{G}
use Rattle.fs_path.specs.declared.scope.Scope.{Scope}
use Rattle.fs_path.specs.declared.scope.Scope.TheVariants.{Collection, Group}
use Rattle.serde_json.specs.Data as json
use Rattle.serde_json.specs.View.{items_of}
use Rattle.fs_json.specs.Answer.{or_fault, made}
use Rattle.fs_json.specs.Integer.{small_json}
use Rattle.fs_json.specs.Members.{member_at, only_at, member_or}
use Rattle.fs_json.specs.Walk.{each_at}
use Rattle.fs_json.specs.declared.bad.Bad.{Bad}
use Rattle.fs_value.specs.Data.{Data}
use Rattle.fs_query.specs.Asked.{Asked}
use Rattle.fs_query.specs.Condition.{Condition, anything, compared, is_null, is_not_null, all_of, any_of}
use Rattle.fs_query.specs.declared.cursor.Cursor.{Cursor}
use Rattle.fs_query.specs.declared.order.Order.{Order}
use Rattle.fs_json.specs.Paths.{IsPathHeld}
use Rattle.fs_valjson.specs.Writing.{ItemsHaveNames}
use Rattle.fs_value.specs.Data as value
use Rattle.fs_queryjson.specs.Cursor.{cursor_at, cursor_in, cursor_json}
use Rattle.fs_queryjson.specs.Field.{field_at}
use Rattle.fs_queryjson.specs.Filter.{filter_at, where_in}
use Rattle.fs_path.specs.Scope.{scope_parent}
use Rattle.fs_queryjson.specs.From.{from_json, scopes_at, scopes_in}
use Rattle.fs_queryjson.specs.Held.{AreFirstHeld, AreLastHeld, AreValuesHeld, IsCursorHeld, IsHeld, IsLimitHeld, IsOrderHeld, IsSelectHeld, IsSmallHeld}
use Rattle.fs_json.specs.Scalars.{small_at}
use Rattle.fs_queryjson.specs.Order.{order_at, order_json, orders_at, orders_in}
use Rattle.fs_queryjson.specs.Query.{limit_in, listened_at, offset_in, permitted_at, query_at, query_members, walked_at, unless_broken}
use Rattle.fs_queryjson.specs.Select.{fields_json, select_at, select_in, select_json, selection_of}
use Rattle.fs_queryjson.specs.Valid.{CursorHasNames, IsValid, IsWhere, SelectsSome}
use Rattle.fs_queryjson.specs.Written.{offset_json, order_by_json, query_json, query_parts, those_there, where_json}
use Rattle.fs_queryjson.proofs.FilterAgain.{field_again, filter_again}
use Rattle.fs_queryjson.proofs.Rows.{given, member_at-there, only_at-there, option_or-none}

-- ---- the parts

-- what is read of a member, if it is there
abbrev read_as : {A : Type 0} → A → (json.Data → List ℕ → Result A Bad) → Option json.Data → List ℕ → Result A Bad
read_as absent read o place = option_map_or (λ d. read d place) o (Ok absent)

fields_again : (ps : List FieldPath) (i : ℕ) (place : List ℕ) → AllByRecursion IsPathHeld ps → each_at field_at (fields_json ps) i place ≡ Ok ps
fields_again [] i place held = refl
fields_again (p ∷ ps) i place held = rw (field_again p (item_place place i) held.0, fields_again ps (i + 1) place held.1) refl

select_again : (o : Option (List FieldPath)) (place : List ℕ) → IsSelectHeld o → SelectsSome o → read_as None select_at (option_map select_json o) place ≡ Ok o
select_again None place held some = refl
select_again (Some []) place held some = absurd some
select_again (Some (p ∷ ps)) place held some = ap (made selection_of) (fields_again (p ∷ ps) 0 (member_place place (codes "fields")) held)

from_again : (s : Scope) (place : List ℕ) → scopes_at (scope_parent s) (from_json s) place ≡ Ok (s ∷ [])
from_again (Collection parent id) place = refl
from_again (Group parent id) place = refl

where_again : (c : Condition) (place : List ℕ) → IsHeld c → IsWhere c → read_as anything filter_at (where_json c) place ≡ Ok c
where_again anything place held valid = refl
where_again (compared p op v) place held valid = filter_again (compared p op v) place held valid
where_again (is_null p) place held valid = filter_again (is_null p) place held valid
where_again (is_not_null p) place held valid = filter_again (is_not_null p) place held valid
where_again (all_of cs) place held valid = filter_again (all_of cs) place held valid
where_again (any_of cs) place held valid = filter_again (any_of cs) place held valid

order_again : (p : FieldPath) (descending : Bool) (place : List ℕ) → IsPathHeld p
    → order_at (order_json (record { path = p; descending = descending })) place ≡ Ok (record { path = p; descending = descending })
order_again p true place held = rw (field_again p (member_place place (codes "field")) held) refl
order_again p false place held = rw (field_again p (member_place place (codes "field")) held) refl

each_order_again : (os : List Order) (i : ℕ) (place : List ℕ) → AllByRecursion IsOrderHeld os → each_at order_at (items_of (map order_json os)) i place ≡ Ok os
each_order_again [] i place held = refl
each_order_again (o ∷ os) i place held = rw (order_again o.path o.descending (item_place place i) held.0, each_order_again os (i + 1) place held.1) refl

orders_again : (os : List Order) (place : List ℕ) → AllByRecursion IsOrderHeld os → read_as [] orders_at (order_by_json os) place ≡ Ok os
orders_again [] place held = refl
orders_again (o ∷ os) place held = each_order_again (o ∷ os) 0 place held

values_again : (ds : List Data) (before : Bool) (place : List ℕ) → AreValuesHeld ds → ItemsHaveNames (value.items_of ds)
    → cursor_at (cursor_json (record { values = ds; before = before })) place ≡ Ok (record { values = ds; before = before })
values_again [] true place held names = refl
values_again [] false place held names = refl
values_again (d ∷ ds) true place held names = rw (held (member_place place (codes "values")) names) refl
values_again (d ∷ ds) false place held names = rw (held (member_place place (codes "values")) names) refl

abbrev read_cursor : json.Data → List ℕ → Result (Option Cursor) Bad
read_cursor d place = made Some (cursor_at d place)

cursor_again : (o : Option Cursor) (place : List ℕ) → IsCursorHeld o → CursorHasNames o → read_as None read_cursor (option_map cursor_json o) place ≡ Ok o
cursor_again None place held names = refl
cursor_again (Some c) place held names = ap (made Some) (values_again c.values c.before place held names)

offset_again : (n : ℤ) (place : List ℕ) → IsSmallHeld n → read_as (pos 0) small_at (offset_json n) place ≡ Ok n
offset_again (pos zero) place held = refl
offset_again (pos (suc n)) place held = ap (or_fault G place) held
offset_again (negsuc n) place held = ap (or_fault G place) held

abbrev read_small : json.Data → List ℕ → Result (Option ℤ) Bad
read_small d place = made Some (small_at d place)

limit_again : (o : Option ℤ) (place : List ℕ) → IsLimitHeld o → read_as None read_small (option_map small_json o) place ≡ Ok o
limit_again None place held = refl
limit_again (Some n) place held = ap (λ r. made Some (or_fault G place r)) held

-- ---- that each part counts as there

cursor_given : (k : List ℕ) (o : Option Cursor) → given k (option_map cursor_json o) ≡ option_map cursor_json o
cursor_given k None = refl
cursor_given k (Some c) = refl

limit_given : (k : List ℕ) (o : Option ℤ) → given k (option_map small_json o) ≡ option_map small_json o
limit_given k None = refl
limit_given k (Some n) = refl

offset_given : (k : List ℕ) (n : ℤ) → given k (offset_json n) ≡ offset_json n
offset_given k (pos zero) = refl
offset_given k (pos (suc n)) = refl
offset_given k (negsuc n) = refl

orders_given : (k : List ℕ) (os : List Order) → given k (order_by_json os) ≡ order_by_json os
orders_given k [] = refl
orders_given k (o ∷ os) = refl

select_given : (k : List ℕ) (o : Option (List FieldPath)) → given k (option_map select_json o) ≡ option_map select_json o
select_given k None = refl
select_given k (Some ps) = refl

where_given : (k : List ℕ) (c : Condition) → given k (where_json c) ≡ where_json c
where_given k anything = refl
where_given k (compared p op v) = refl
where_given k (is_null p) = refl
where_given k (is_not_null p) = refl
where_given k (all_of cs) = refl
where_given k (any_of cs) = refl

-- ---- the whole

member_or-there : {A : Type 0} (absent : A) (read : json.Data → List ℕ → Result A Bad) (name : List ℕ) (d : json.Data) (place : List ℕ) (o : Option json.Data) (x : A)
    → member_at name d place ≡ Ok o → read_as absent read o (member_place place name) ≡ Ok x → member_or absent read name d place ≡ Ok x
member_or-there absent read name d place o x e h = rw e h

-- the parts are read that any query has
record AreRead (parent : List (List ℕ)) (d : json.Data) (place : List ℕ) (q : Asked) : Type 0 where
  known : only_at query_members d place ≡ Ok tt
  scopes : scopes_in parent d place ≡ Ok (q.scope ∷ [])
  filter : where_in d place ≡ Ok q.filter
  orders : orders_in d place ≡ Ok q.orders
  start : cursor_in (codes "startAt") d place ≡ Ok q.start
  end : cursor_in (codes "endAt") d place ≡ Ok q.end
  limit : limit_in d place ≡ Ok q.limit

parts_again : (q : Asked) (place : List ℕ) → AreLastHeld q → AreFirstHeld q → IsValid q → AreRead (scope_parent q.scope) (query_json q) place q
unfolding query_json
parts_again q place last first valid =
    let rows = query_parts q in
    let d = json.object (those_there rows) in
    let at = λ (name : List ℕ). member_place place name in record {
      known = only_at-there query_members rows place refl refl;
      scopes = member_or-there [] (scopes_at (scope_parent q.scope)) (codes "from") d place (Some (from_json q.scope)) (q.scope ∷ [])
          (member_at-there (codes "from") rows place _ refl refl refl)
          (from_again q.scope (at (codes "from")));
      filter = member_or-there anything filter_at (codes "where") d place (where_json q.filter) q.filter
          (member_at-there (codes "where") rows place _ (option_or-none _) (where_given (codes "where") q.filter) refl)
          (where_again q.filter (at (codes "where")) last.filter valid.filter);
      orders = member_or-there [] orders_at (codes "orderBy") d place (order_by_json q.orders) q.orders
          (member_at-there (codes "orderBy") rows place _ (option_or-none _) (orders_given (codes "orderBy") q.orders) refl)
          (orders_again q.orders (at (codes "orderBy")) last.orders);
      start = member_or-there None read_cursor (codes "startAt") d place (option_map cursor_json q.start) q.start
          (member_at-there (codes "startAt") rows place _ (option_or-none _) (cursor_given (codes "startAt") q.start) refl)
          (cursor_again q.start (at (codes "startAt")) last.start valid.start);
      end = member_or-there None read_cursor (codes "endAt") d place (option_map cursor_json q.end) q.end
          (member_at-there (codes "endAt") rows place _ (option_or-none _) (cursor_given (codes "endAt") q.end) refl)
          (cursor_again q.end (at (codes "endAt")) first.end valid.end);
      limit = member_or-there None read_small (codes "limit") d place (option_map small_json q.limit) q.limit
          (member_at-there (codes "limit") rows place _ (option_or-none _) (limit_given (codes "limit") q.limit) refl)
          (limit_again q.limit (at (codes "limit")) first.limit);
    }

select_there : (q : Asked) (place : List ℕ) → member_at (codes "select") (query_json q) place ≡ Ok (option_map select_json q.select)
unfolding query_json
select_there q place = member_at-there (codes "select") (query_parts q) place _ (option_or-none _) (select_given (codes "select") q.select) refl

offset_there : (q : Asked) (place : List ℕ) → member_at (codes "offset") (query_json q) place ≡ Ok (offset_json q.offset)
unfolding query_json
offset_there q place = member_at-there (codes "offset") (query_parts q) place _ (option_or-none _) (offset_given (codes "offset") q.offset) refl

-- a walk whose parts are these
walked : (parent : List (List ℕ)) (d : json.Data) (place : List ℕ) (q : Asked) → AreRead parent d place q → select_in d place ≡ Ok q.select → offset_in d place ≡ Ok q.offset
    → query_at parent d place ≡ permitted_at q place
unfolding walked_at
walked parent d place q are select offset = rw (are.known, select, are.scopes, are.filter, are.orders, are.start, are.end, offset, are.limit) refl

pub query_again : (q : Asked) (place : List ℕ) → AreLastHeld q → AreFirstHeld q → IsValid q → query_at (scope_parent q.scope) (query_json q) place ≡ Ok q
query_again q place last first valid =
    let d = query_json q in
    let select = member_or-there None select_at (codes "select") d place (option_map select_json q.select) q.select
    (select_there q place) (select_again q.select (member_place place (codes "select")) last.select valid.select) in
    let offset = member_or-there (pos 0) small_at (codes "offset") d place (offset_json q.offset) q.offset
    (offset_there q place) (offset_again q.offset (member_place place (codes "offset")) first.offset) in
    walked (scope_parent q.scope) d place q (parts_again q place last first valid) select offset ∙ ap (λ rule. unless_broken rule q place) valid.allowed

-- ---- one that is listened to

-- a query that selects nothing and skips nothing
whole : (q : Asked) → q.select ≡ None → q.offset ≡ pos 0
    → record { scope = q.scope; filter = q.filter; orders = q.orders; start = q.start; end = q.end; offset = pos 0; limit = q.limit; select = None } ≡ q
whole q none naught =
    ap (λ s. record { scope = q.scope; filter = q.filter; orders = q.orders; start = q.start; end = q.end; offset = pos 0; limit = q.limit; select = s }) (sym none)
    ∙ ap (λ z. record { scope = q.scope; filter = q.filter; orders = q.orders; start = q.start; end = q.end; offset = z; limit = q.limit; select = q.select }) (sym naught)

listened : (parent : List (List ℕ)) (d : json.Data) (place : List ℕ) (q : Asked) → AreRead parent d place q → member_at (codes "select") d place ≡ Ok None
    → member_at (codes "offset") d place ≡ Ok None → q.select ≡ None → q.offset ≡ pos 0 → listened_at parent d place ≡ Ok q
unfolding listened_at
listened parent d place q are select offset none naught =
    rw (are.known, select, are.scopes, are.filter, are.orders, are.start, are.end, offset, are.limit) (ap Ok (whole q none naught))

pub listened_again : (q : Asked) (place : List ℕ) → AreLastHeld q → AreFirstHeld q → IsValid q → (q.select ≡ None) × (q.offset ≡ pos 0)
    → listened_at (scope_parent q.scope) (query_json q) place ≡ Ok q
listened_again q place last first valid nothing =
    listened (scope_parent q.scope) (query_json q) place q (parts_again q place last first valid)
    (select_there q place ∙ ap (λ s. Ok (option_map select_json s)) nothing.0) (offset_there q place ∙ ap (λ z. Ok (offset_json z)) nothing.1) nothing.0 nothing.1
