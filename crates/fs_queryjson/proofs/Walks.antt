-- A walk that puts each member into a query reads it as it is walked.
use Rattle.std.proofs.Common.{◌≡◌, ℕ, ℤ, pos, List, [], ◌∷◌, Option, None, Result, Ok, Err, codes, refl, ap, ◌∙◌}
use Rattle.fs_path.specs.declared.field.FieldPath.{FieldPath}
use Rattle.fs_path.specs.declared.scope.Scope.{Scope}
use Rattle.serde_json.specs.Data as json
use Rattle.fs_json.specs.Answer.{Gives, ◌>>=◌}
use Rattle.fs_json.specs.Members.{only_at, unbuilt_at}
use Rattle.fs_json.specs.declared.bad.Bad.{Bad}
use Rattle.fs_json.specs.declared.bad.Bad.TheVariants.{At, Method, Memory}
use Rattle.fs_query.specs.Asked.{Asked}
use Rattle.fs_query.specs.Condition.{Condition}
use Rattle.fs_query.specs.declared.cursor.Cursor.{Cursor}
use Rattle.fs_query.specs.declared.order.Order.{Order}
use Rattle.fs_queryjson.specs.Cursor.{cursor_in}
use Rattle.fs_queryjson.specs.Filter.{where_in}
use Rattle.fs_queryjson.specs.From.{scopes_in, the_scope}
use Rattle.fs_queryjson.specs.Order.{orders_in}
use Rattle.fs_queryjson.specs.Query.{limit_in, listened_at, offset_in, query_members, walked_at}
use Rattle.fs_queryjson.specs.Select.{select_in}
use Rattle.fs_queryjson.specs.Steps.{listened_into, parts_into, walked_into}

-- what a query is made of, part after part, and what comes after it
abbrev made_of : List (List ℕ) → Asked → Result (List Scope) Bad → Result Condition Bad → Result (List Order) Bad → Result (Option Cursor) Bad → Result (Option Cursor) Bad
    → (Asked → Result Asked Bad) → Result Asked Bad
made_of parent q scopes filter orders start end next = do
  scopes ← scopes
  filter ← filter
  orders ← orders
  start ← start
  end ← end
  next (record q { scope = the_scope parent scopes; filter = filter; orders = orders; start = start; end = end })

-- whether it is made first or at last
in_parts : (parent : List (List ℕ)) (q : Asked) (scopes : Result (List Scope) Bad) (filter : Result Condition Bad) (orders : Result (List Order) Bad)
    (start end : Result (Option Cursor) Bad) (next : Asked → Result Asked Bad) → (made_of parent q scopes filter orders start end Ok >>= next) ≡ made_of parent q scopes filter orders start end next
in_parts parent q (Err bad) filter orders start end next = refl
in_parts parent q (Ok scopes) (Err bad) orders start end next = refl
in_parts parent q (Ok scopes) (Ok filter) (Err bad) start end next = refl
in_parts parent q (Ok scopes) (Ok filter) (Ok orders) (Err bad) end next = refl
in_parts parent q (Ok scopes) (Ok filter) (Ok orders) (Ok start) (Err bad) next = refl
in_parts parent q (Ok scopes) (Ok filter) (Ok orders) (Ok start) (Ok end) next = refl

-- after two readings
after_two : {A B C : Type 0} (known : Result A Bad) (first : Result B Bad) (one other : B → Result C Bad) → ((x : B) → one x ≡ other x)
    → (known >>= λ _. first >>= λ x. one x) ≡ (known >>= λ _. first >>= λ x. other x)
after_two (Err bad) first one other same = refl
after_two (Ok u) (Err bad) one other same = refl
after_two (Ok u) (Ok x) one other same = same x

pub walked_same : (q : Asked) (parent : List (List ℕ)) (d : json.Data) (place : List ℕ) → walked_into q parent d place ≡ walked_at parent d place
unfolding walked_into walked_at parts_into
walked_same q parent d place =
    after_two (only_at query_members d place) (select_in d place) _ _
    (λ select. in_parts parent (record q { select = select }) (scopes_in parent d place) (where_in d place) (orders_in d place) (cursor_in (codes "startAt") d place) (cursor_in (codes "endAt") d place)
    (λ walked. offset_in d place >>= λ offset. limit_in d place >>= λ limit. Ok (record walked { offset = offset; limit = limit })))

-- what is read of one that is listened to, with this much skipped and this selected
abbrev listened_with : List (List ℕ) → json.Data → List ℕ → ℤ → Option (List FieldPath) → Result Asked Bad
listened_with parent d place offset select = do
  scopes ← scopes_in parent d place
  filter ← where_in d place
  orders ← orders_in d place
  start ← cursor_in (codes "startAt") d place
  end ← cursor_in (codes "endAt") d place
  _ ← unbuilt_at (codes "offset" ∷ []) d place
  limit ← limit_in d place
  Ok (record { scope = the_scope parent scopes; filter = filter; orders = orders; start = start; end = end; offset = offset; limit = limit; select = select })

pub listened_same : (q : Asked) (parent : List (List ℕ)) (d : json.Data) (place : List ℕ) → q.select ≡ None → q.offset ≡ pos 0 → listened_into q parent d place ≡ listened_at parent d place
unfolding listened_into listened_at parts_into
listened_same q parent d place none naught =
    after_two (only_at query_members d place) (unbuilt_at (codes "select" ∷ []) d place) _ _
    (λ u. in_parts parent q (scopes_in parent d place) (where_in d place) (orders_in d place) (cursor_in (codes "startAt") d place) (cursor_in (codes "endAt") d place)
    (λ walked. unbuilt_at (codes "offset" ∷ []) d place >>= λ _. limit_in d place >>= λ limit. Ok (record walked { limit = limit }))
    ∙ ap (λ z. listened_with parent d place z q.select) naught
    ∙ ap (listened_with parent d place (pos 0)) none)

-- a fault is passed on, whatever is seen of what was read
pub passed_on : {X Y Z : Type 0} (f : X → Z) (g : Y → Z) (bad : Bad) (reading : Result Z Bad) → Gives f (Err bad) reading → Gives g (Err bad) reading
passed_on f g (At rule place) reading gives = gives
passed_on f g (Method name) reading gives = gives
passed_on f g (Memory e) reading gives = gives
