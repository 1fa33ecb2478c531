-- Only private clauses cite this: the texts under which scopes are looked up.
use Rattle.std.specs.Prelude.{◌≡◌, ℕ, Bool, true, false, not, List, [], ◌∷◌, ◌++◌, Option, Some, None, codes, if◌then◌else◌}
use Rattle.std.specs.List.{join_with_byte, list_all}
use Rattle.fs_path.specs.Cursor.{rest_segments}
use Rattle.fs_path.specs.Scope.{scope_id, scope_parent}
use Rattle.fs_path.specs.Segment.{has_slash}
use Rattle.fs_path.specs.TextOrder.{text_eq}
use Rattle.fs_path.specs.declared.scope.Scope.{Scope}
use Rattle.fs_locks.specs.declared.held.Held.{Held}
use Rattle.fs_locks.specs.declared.held.Held.TheVariants.{Name, Scope as Over}

-- the ids of a path with a slash between each two; the root has no text
abbrev pub path_text : List (List ℕ) → Option (List ℕ)
path_text [] = None
path_text (id ∷ ids) = Some (join_with_byte 47 (id ∷ ids))

abbrev pub path_eq : Option (List ℕ) → Option (List ℕ) → Bool
path_eq None None = true
path_eq None (Some t) = false
path_eq (Some s) None = false
path_eq (Some s) (Some t) = text_eq s t

-- the path below which the collections of a scope lie
abbrev pub held_path : Held → Option (List ℕ)
held_path (Name n) = None
held_path (Over scope) = path_text (scope_parent scope)

-- no id of a path has a slash
abbrev pub is_plain : List (List ℕ) → Bool
is_plain ids = list_all (λ id. not (has_slash id)) ids

-- The id under which a scope stands. Where its path has an id with a slash, it covers no name, though its path may have the text of
-- another's: it stands under an id that no name has.
abbrev pub stand_id : Scope → List ℕ
stand_id scope = if is_plain (scope_parent scope) then scope_id scope else codes "/"

-- a document's collection: the path below which it lies, and its id
pub record IsCollectionOf (ids : List (List ℕ)) (path : Option (List ℕ)) (id : List ℕ) : Type 0 where
  pub last : List ℕ
  pub whole : ids ≡ rest_segments path ++ id ∷ last ∷ []
  pub plain : has_slash id ≡ false
