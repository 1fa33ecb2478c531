-- The walk of a structured query: what it reads as, or the first place in it that is at fault, and then the rules of queries,
-- of which the least is told at the place of the query itself. (v1 reference, "StructuredQuery".)
use Rattle.std.specs.Prelude.{ℕ, ℤ, pos, List, [], ◌∷◌, Option, Some, None, Result, Ok, Err, codes}
use Rattle.fs_path.specs.declared.place.Rule.TheVariants.{Q}
use Rattle.serde_json.specs.Data.{Data}
use Rattle.fs_json.specs.Answer.{◌>>=◌, made}
use Rattle.fs_json.specs.Members.{only_at, member_or, unbuilt_at}
use Rattle.fs_json.specs.declared.bad.Bad.{Bad}
use Rattle.fs_json.specs.declared.bad.Bad.TheVariants.{At}
use Rattle.fs_query.specs.Asked.{Asked}
use Rattle.fs_query.specs.Rules.{rule_of_query}
use Rattle.fs_query.specs.declared.rule.QueryRule.{QueryRule}
use Rattle.fs_queryjson.specs.Cursor.{cursor_in}
use Rattle.fs_queryjson.specs.Filter.{where_in}
use Rattle.fs_queryjson.specs.From.{scopes_in, the_scope}
use Rattle.fs_json.specs.Scalars.{small_at}
use Rattle.fs_queryjson.specs.Order.{orders_in}
use Rattle.fs_queryjson.specs.Select.{select_in}

-- the members that it may have, in the order of the walk
abbrev pub query_members : List (List ℕ)
query_members = codes "select" ∷ codes "from" ∷ codes "where" ∷ codes "orderBy" ∷ codes "startAt" ∷ codes "endAt" ∷ codes "offset" ∷ codes "limit" ∷ []

abbrev pub offset_in : Data → List ℕ → Result ℤ Bad
offset_in d place = member_or (pos 0) small_at (codes "offset") d place

abbrev pub limit_in : Data → List ℕ → Result (Option ℤ) Bad
limit_in d place = member_or None (λ x inside. made Some (small_at x inside)) (codes "limit") d place

-- the query, unless it breaks a rule, whose number and count are told
abbrev pub unless_broken : Option QueryRule → Asked → List ℕ → Result Asked Bad
unless_broken (Some rule) q place = Err (At (Q rule.number rule.count) place)
unless_broken None q place = Ok q

abbrev pub permitted_at : Asked → List ℕ → Result Asked Bad
permitted_at q place = unless_broken (rule_of_query q) q place

-- a query below this parent, as it is walked
unfoldable pub walked_at : List (List ℕ) → Data → List ℕ → Result Asked Bad
walked_at parent d place = do
  _ ← only_at query_members d place
  select ← select_in d place
  scopes ← scopes_in parent d place
  filter ← where_in d place
  orders ← orders_in d place
  start ← cursor_in (codes "startAt") d place
  end ← cursor_in (codes "endAt") d place
  offset ← offset_in d place
  limit ← limit_in d place
  Ok (record { scope = the_scope parent scopes; filter = filter; orders = orders; start = start; end = end; offset = offset; limit = limit; select = select })

-- one that is listened to, in which nothing may be selected or skipped
unfoldable pub listened_at : List (List ℕ) → Data → List ℕ → Result Asked Bad
listened_at parent d place = do
  _ ← only_at query_members d place
  _ ← unbuilt_at (codes "select" ∷ []) d place
  scopes ← scopes_in parent d place
  filter ← where_in d place
  orders ← orders_in d place
  start ← cursor_in (codes "startAt") d place
  end ← cursor_in (codes "endAt") d place
  _ ← unbuilt_at (codes "offset" ∷ []) d place
  limit ← limit_in d place
  Ok (record { scope = the_scope parent scopes; filter = filter; orders = orders; start = start; end = end; offset = pos 0; limit = limit; select = None })

-- the walk, and then the rules
abbrev pub query_at : List (List ℕ) → Data → List ℕ → Result Asked Bad
query_at parent d place = walked_at parent d place >>= λ q. permitted_at q place
