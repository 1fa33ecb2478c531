-- What only private clauses cite: what the readers and the writers know on their way.
use Rattle.std.specs.Prelude.{ℕ, List, [], ◌∷◌, Option, Some, None, option_map, Result, Ok, Err, codes}
use Rattle.fs_path.specs.declared.place.Rule.TheVariants.{G}
use Rattle.serde_json.specs.Data as json
use Rattle.fs_json.specs.Answer.{◌>>=◌}
use Rattle.fs_json.specs.Members.{at_most_one_at, one_of_at, only_at, the_one, unbuilt_at}
use Rattle.fs_json.specs.declared.bad.Bad.{Bad}
use Rattle.fs_json.specs.declared.bad.Bad.TheVariants.{At}
use Rattle.fs_json.specs.Integer.{small_json}
use Rattle.fs_query.specs.Asked.{Asked}
use Rattle.fs_query.specs.Condition.{Condition}
use Rattle.fs_queryjson.specs.Cursor.{cursor_in, cursor_json}
use Rattle.fs_queryjson.specs.Filter.{composite_of, filter_kinds, inner_in, inner_members, where_in}
use Rattle.fs_queryjson.specs.From.{from_json, scopes_in, the_scope}
use Rattle.fs_queryjson.specs.Order.{orders_in}
use Rattle.fs_queryjson.specs.Query.{limit_in, offset_in, query_members}
use Rattle.fs_queryjson.specs.Select.{select_in, select_json}
use Rattle.fs_queryjson.specs.Written.{offset_json, order_by_json, where_json}

-- ---- readers

-- the member that is there of the kinds of filters, where no other is
abbrev pub the_filter : json.Data → List ℕ → Result (List ℕ × json.Data) Bad
the_filter d place = only_at filter_kinds d place >>= λ _. one_of_at filter_kinds d place

-- the member that has the filters of a composite one, if it is there
abbrev pub the_inner : json.Data → List ℕ → Result (Option (List ℕ × json.Data)) Bad
the_inner d place = at_most_one_at inner_members d place

-- the filters that a composite one joins
abbrev pub inner_at : json.Data → List ℕ → Result (List Condition) Bad
inner_at (json.object ms) place = the_one place (Ok []) (inner_in ms place)
inner_at _ place = Err (At G place)

abbrev pub composite_at : json.Data → List ℕ → Result Condition Bad
composite_at d place = composite_of d place (inner_at d place)

-- the walk of a query that puts its members into this one: of those between `select` and `offset`, and of all
unfoldable pub parts_into : Asked → List (List ℕ) → json.Data → List ℕ → Result Asked Bad
parts_into q parent d place = do
  scopes ← scopes_in parent d place
  filter ← where_in d place
  orders ← orders_in d place
  start ← cursor_in (codes "startAt") d place
  end ← cursor_in (codes "endAt") d place
  Ok (record q { scope = the_scope parent scopes; filter = filter; orders = orders; start = start; end = end })

unfoldable pub walked_into : Asked → List (List ℕ) → json.Data → List ℕ → Result Asked Bad
walked_into q parent d place = do
  _ ← only_at query_members d place
  select ← select_in d place
  walked ← parts_into (record q { select = select }) parent d place
  offset ← offset_in d place
  limit ← limit_in d place
  Ok (record walked { offset = offset; limit = limit })

-- and of one that is listened to
unfoldable pub listened_into : Asked → List (List ℕ) → json.Data → List ℕ → Result Asked Bad
listened_into q parent d place = do
  _ ← only_at query_members d place
  _ ← unbuilt_at (codes "select" ∷ []) d place
  walked ← parts_into q parent d place
  _ ← unbuilt_at (codes "offset" ∷ []) d place
  limit ← limit_in d place
  Ok (record walked { limit = limit })

-- ---- writers

-- a member that is put in, if it is there
abbrev pub with_put : List ℕ → Option json.Data → json.Members → json.Members
with_put name None others = others
with_put name (Some d) others = json.put name d others

-- the members of a composite filter that joins some
abbrev pub with_filters : json.Data → json.Data → json.Data
with_filters filters op = json.object (json.member (codes "filters") filters (json.member (codes "op") op json.no_members))

-- the members of a query whose names come last, and those whose names come first
abbrev pub with_last_put : Asked → json.Members → json.Members
with_last_put q others = with_put (codes "orderBy") (order_by_json q.orders) (with_put (codes "select") (option_map select_json q.select)
    (with_put (codes "startAt") (option_map cursor_json q.start) (with_put (codes "where") (where_json q.filter) others)))

abbrev pub with_first_put : Asked → json.Members → json.Members
with_first_put q others = with_put (codes "endAt") (option_map cursor_json q.end) (json.put (codes "from") (from_json q.scope)
    (with_put (codes "limit") (option_map small_json q.limit) (with_put (codes "offset") (offset_json q.offset) others)))
