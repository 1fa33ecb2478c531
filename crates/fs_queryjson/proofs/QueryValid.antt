-- What is read as a query stands below its parent, and can be told in JSON; what is permitted breaks no rule.
use Rattle.std.proofs.Common.{◌≡◌, ℕ, List, [], ◌∷◌, Bool, true, false, Option, Some, None, IfOk, codes, refl}
use Rattle.std.specs.List.{AllByRecursion}
use Rattle.fs_path.specs.declared.field.FieldPath.{FieldPath}
use Rattle.fs_path.specs.declared.scope.Scope.{Scope}
use Rattle.serde_json.specs.Data as json
use Rattle.fs_value.specs.Data.{items_of}
use Rattle.fs_json.specs.Members.{only_at, member_or, unbuilt_at}
use Rattle.fs_query.specs.Asked.{Asked}
use Rattle.fs_query.specs.Rules.{rule_of_query}
use Rattle.fs_query.specs.declared.cursor.Cursor.{Cursor}
use Rattle.fs_query.specs.declared.rule.QueryRule.{QueryRule}
use Rattle.fs_json.proofs.Readings.{at_last_holds, in_turn_holds, of_made, member_holds}
use Rattle.fs_json.proofs.Walks.{each_of_list}
use Rattle.fs_valjson.specs.Reading.{list_at}
use Rattle.fs_valjson.proofs.Valid.{list_names}
use Rattle.fs_valjson.specs.Writing.{ItemsHaveNames}
use Rattle.fs_queryjson.specs.Cursor.{cursor_at, cursor_in, cursor_members}
use Rattle.fs_queryjson.specs.Filter.{where_in}
use Rattle.fs_path.specs.Scope.{scope_parent}
use Rattle.fs_queryjson.specs.From.{from_members, scope_at, scope_of, scopes_at, scopes_in, the_scope}
use Rattle.fs_json.specs.Scalars.{text_at, truth_at}
use Rattle.fs_queryjson.specs.Order.{orders_in}
use Rattle.fs_queryjson.specs.Query.{limit_in, listened_at, offset_in, permitted_at, query_members, unless_broken, walked_at}
use Rattle.fs_queryjson.specs.Select.{fields_in, select_at, select_in, select_members, selection_of}
use Rattle.fs_queryjson.specs.Valid.{CursorHasNames, IsListened, IsReadBelow, IsWalked, IsWhere, SelectsSome}
use Rattle.fs_queryjson.proofs.FilterValid.{where_valid}

-- ---- cursors

cursor_valid : (d : json.Data) (place : List ℕ) → IfOk (cursor_at d place) (λ c. ItemsHaveNames (items_of c.values))
cursor_valid d place =
    let names : Cursor → Type 0 = λ c. ItemsHaveNames (items_of c.values) in
    at_last_holds names (only_at cursor_members d place) _
    (λ u. in_turn_holds (λ ds. ItemsHaveNames (items_of ds)) names (member_or [] list_at (codes "values") d place) _
    (member_holds (λ ds. ItemsHaveNames (items_of ds)) [] list_at (codes "values") d place list_names tt)
    (λ values are. at_last_holds names (member_or false truth_at (codes "before") d place) _ (λ before. are)))

cursor_in_valid : (name : List ℕ) (d : json.Data) (place : List ℕ) → IfOk (cursor_in name d place) CursorHasNames
cursor_in_valid name d place =
    member_holds CursorHasNames None _ name d place
    (λ x p. of_made (λ c. ItemsHaveNames (items_of c.values)) CursorHasNames Some (cursor_at x p) (cursor_valid x p) (λ c are. are)) tt

-- ---- selections

some_selected : (ps : List FieldPath) → SelectsSome (selection_of ps)
some_selected [] = tt
some_selected (p ∷ ps) = tt

select_valid : (d : json.Data) (place : List ℕ) → IfOk (select_in d place) SelectsSome
select_valid d place =
    member_holds SelectsSome None select_at (codes "select") d place
    (λ x p. at_last_holds SelectsSome (only_at select_members x p) _ (λ u. at_last_holds SelectsSome (fields_in x p) _ (λ ps. some_selected ps))) tt

-- ---- collections

-- below this parent
abbrev IsBelow : List (List ℕ) → Scope → Type 0
IsBelow parent scope = scope_parent scope ≡ parent

below : (parent : List (List ℕ)) (id : List ℕ) (all : Bool) → IsBelow parent (scope_of parent id all)
below parent id true = refl
below parent id false = refl

scope_below : (parent : List (List ℕ)) (d : json.Data) (place : List ℕ) → IfOk (scope_at parent d place) (IsBelow parent)
scope_below parent d place =
    at_last_holds (IsBelow parent) (only_at from_members d place) _
    (λ u. at_last_holds (IsBelow parent) (member_or [] text_at (codes "collectionId") d place) _
    (λ id. at_last_holds (IsBelow parent) (member_or false truth_at (codes "allDescendants") d place) _ (λ all. below parent id all)))

scopes_below : (parent : List (List ℕ)) (d : json.Data) (place : List ℕ) → IfOk (scopes_in parent d place) (AllByRecursion (IsBelow parent))
scopes_below parent d place =
    member_holds (AllByRecursion (IsBelow parent)) [] (scopes_at parent) (codes "from") d place (λ x p. each_of_list (IsBelow parent) (scope_at parent) x p (scope_below parent)) tt

one_below : (parent : List (List ℕ)) (scopes : List Scope) → AllByRecursion (IsBelow parent) scopes → IsBelow parent (the_scope parent scopes)
one_below parent [] are = refl
one_below parent (scope ∷ []) are = are.0
one_below parent (scope ∷ other ∷ rest) are = refl

-- ---- queries

pub walked_valid : (parent : List (List ℕ)) (d : json.Data) (place : List ℕ) → IfOk (walked_at parent d place) (IsWalked parent)
unfolding walked_at
walked_valid parent d place =
    at_last_holds (IsWalked parent) (only_at query_members d place) _
    (λ u. in_turn_holds SelectsSome (IsWalked parent) (select_in d place) _ (select_valid d place)
    (λ select some. in_turn_holds (AllByRecursion (IsBelow parent)) (IsWalked parent) (scopes_in parent d place) _ (scopes_below parent d place)
    (λ scopes are. in_turn_holds IsWhere (IsWalked parent) (where_in d place) _ (where_valid d place)
    (λ filter fits. at_last_holds (IsWalked parent) (orders_in d place) _
    (λ orders. in_turn_holds CursorHasNames (IsWalked parent) (cursor_in (codes "startAt") d place) _ (cursor_in_valid (codes "startAt") d place)
    (λ start first. in_turn_holds CursorHasNames (IsWalked parent) (cursor_in (codes "endAt") d place) _ (cursor_in_valid (codes "endAt") d place)
    (λ end last. at_last_holds (IsWalked parent) (offset_in d place) _
    (λ offset. at_last_holds (IsWalked parent) (limit_in d place) _
    (λ limit. record { below = one_below parent scopes are; filter = fits; start = first; end = last; select = some })))))))))

-- and one that is listened to
pub listened_valid : (parent : List (List ℕ)) (d : json.Data) (place : List ℕ) → IfOk (listened_at parent d place) (IsListened parent)
unfolding listened_at
listened_valid parent d place =
    at_last_holds (IsListened parent) (only_at query_members d place) _
    (λ u. at_last_holds (IsListened parent) (unbuilt_at (codes "select" ∷ []) d place) _
    (λ v. in_turn_holds (AllByRecursion (IsBelow parent)) (IsListened parent) (scopes_in parent d place) _ (scopes_below parent d place)
    (λ scopes are. in_turn_holds IsWhere (IsListened parent) (where_in d place) _ (where_valid d place)
    (λ filter fits. at_last_holds (IsListened parent) (orders_in d place) _
    (λ orders. in_turn_holds CursorHasNames (IsListened parent) (cursor_in (codes "startAt") d place) _ (cursor_in_valid (codes "startAt") d place)
    (λ start first. in_turn_holds CursorHasNames (IsListened parent) (cursor_in (codes "endAt") d place) _ (cursor_in_valid (codes "endAt") d place)
    (λ end last. at_last_holds (IsListened parent) (unbuilt_at (codes "offset" ∷ []) d place) _
    (λ w. at_last_holds (IsListened parent) (limit_in d place) _
    (λ limit. record {
      walked = record { below = one_below parent scopes are; filter = fits; start = first; end = last; select = tt };
      select = refl;
      offset = refl;
    })))))))))

-- what is permitted is the query itself, which breaks no rule
pub permitted_holds : (P : Asked → Type 0) (q : Asked) (place : List ℕ) → (rule_of_query q ≡ None → P q) → IfOk (permitted_at q place) P
permitted_holds P q place is = at (rule_of_query q) refl
  where
    at : (rule : Option QueryRule) → rule_of_query q ≡ rule → IfOk (unless_broken rule q place) P
    at None none = is none
    at (Some rule) broken = record {}

pub permitted_valid : (parent : List (List ℕ)) (q : Asked) (place : List ℕ) → IsWalked parent q → IfOk (permitted_at q place) (IsReadBelow parent)
permitted_valid parent q place is =
    permitted_holds (IsReadBelow parent) q place
    (λ none. record { below = is.below; valid = record { filter = is.filter; start = is.start; end = is.end; select = is.select; allowed = none } })
