-- A document with nothing but what is at some field paths: a field at which a path ends is kept as it is, and of a map that
-- paths lead into what they keep in it, if they keep anything.
--
--     of {a: {b: 1, c: 2}, d: 3, e: 4}      by a.b and d            {a: {b: 1}, d: 3}
--                                           by a.x, d.x and f       {}
-- (v1 reference, "StructuredQuery.Projection" and "DocumentMask".)
use Rattle.std.specs.Prelude.{ℕ, Bool, true, false, List, [], ◌∷◌, ◌++◌, map, if◌then◌else◌}
use Rattle.fs_path.specs.TextOrder.{text_eq}
use Rattle.fs_path.specs.declared.field.FieldPath.{FieldPath}
use Rattle.fs_value.specs.Data.{Data, object, members_of, Members, no_members, member}
use Rattle.fs_value.specs.FieldPaths.{map_of}
use Rattle.fs_value.specs.declared.document.Document.{Document}

-- the rests of the paths that begin with a key
abbrev pub rest_behind : List ℕ → List (List ℕ) → List (List (List ℕ))
rest_behind key [] = []
rest_behind key (k ∷ ks) = if text_eq k key then ks ∷ [] else []

abbrev pub rests : List ℕ → List (List (List ℕ)) → List (List (List ℕ))
rests key [] = []
rests key (p ∷ ps) = rest_behind key p ++ rests key ps

-- one of the paths ends here
abbrev pub ends_here : List (List (List ℕ)) → Bool
ends_here [] = false
ends_here ([] ∷ ps) = true
ends_here ((k ∷ ks) ∷ ps) = ends_here ps

-- a map, if it has any fields
abbrev pub if_any : List ℕ → List (List ℕ × Data) → List (List ℕ × Data)
if_any key [] = []
if_any key (f ∷ fs) = (key, map_of (f ∷ fs)) ∷ []

abbrev mutual
  -- what paths keep of a field, by their rests behind its key
  pub kept_of : List (List (List ℕ)) → List ℕ → Data → List (List ℕ × Data)
  kept_of ps key (object ms) = if ends_here ps then (key, object ms) ∷ [] else if_any key (kept ps ms)
  kept_of ps key d = if ends_here ps then (key, d) ∷ [] else []

  -- what they keep of fields
  pub kept : List (List (List ℕ)) → Members → List (List ℕ × Data)
  kept ps no_members = []
  kept ps (member key d ms) = kept_of (rests key ps) key d ++ kept ps ms

abbrev pub projected : Document → List FieldPath → Document
projected d paths = record d { fields = kept (map (λ p. p.parts) paths) (members_of d.fields) }
