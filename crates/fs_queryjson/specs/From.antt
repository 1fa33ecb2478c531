-- The JSON of the collections that a query goes over, below the parent of the request, which stands beside the query.
-- (v1 reference, "StructuredQuery.CollectionSelector".)
--
--     the collection notes of the parent         [{"collectionId":"notes"}]
--     all collections notes below the parent     [{"allDescendants":true,"collectionId":"notes"}]
use Rattle.std.specs.Prelude.{ℕ, Bool, true, false, List, [], ◌∷◌, Result, Ok, codes, if◌then◌else◌}
use Rattle.fs_path.specs.declared.scope.Scope.{Scope}
use Rattle.fs_path.specs.declared.scope.Scope.TheVariants.{Collection, Group}
use Rattle.serde_json.specs.Data as json
use Rattle.fs_json.specs.Answer.{◌>>=◌}
use Rattle.fs_json.specs.Members.{only_at, member_or}
use Rattle.fs_json.specs.Walk.{all_at}
use Rattle.fs_json.specs.declared.bad.Bad.{Bad}
use Rattle.fs_json.specs.Scalars.{text_at, truth_at}

abbrev pub from_members : List (List ℕ)
from_members = codes "collectionId" ∷ codes "allDescendants" ∷ []

-- a collection, or all of this id
abbrev pub scope_of : List (List ℕ) → List ℕ → Bool → Scope
scope_of parent id all = if all then Group parent id else Collection parent id

-- an id that is absent is empty
abbrev pub scope_at : List (List ℕ) → json.Data → List ℕ → Result Scope Bad
scope_at parent d place =
    only_at from_members d place >>= λ _. member_or [] text_at (codes "collectionId") d place >>= λ id. member_or false truth_at (codes "allDescendants") d place >>= λ all. Ok (scope_of parent id all)

abbrev pub scopes_at : List (List ℕ) → json.Data → List ℕ → Result (List Scope) Bad
scopes_at parent d place = all_at (scope_at parent) d place

abbrev pub scopes_in : List (List ℕ) → json.Data → List ℕ → Result (List Scope) Bad
scopes_in parent d place = member_or [] (scopes_at parent) (codes "from") d place

-- There has to be just one. Else it is the collection of the empty id, which is no id, so that rule 1 of queries is broken.
abbrev pub the_scope : List (List ℕ) → List Scope → Scope
the_scope parent (scope ∷ []) = scope
the_scope parent _ = Collection parent []

-- ---- writing

abbrev pub scope_json : Scope → json.Data
scope_json (Collection parent id) = json.object (json.member (codes "collectionId") (json.string id) json.no_members)
scope_json (Group parent id) = json.object (json.member (codes "allDescendants") (json.boolean true) (json.member (codes "collectionId") (json.string id) json.no_members))

abbrev pub from_json : Scope → json.Data
from_json scope = json.array (json.item (scope_json scope) json.no_items)
