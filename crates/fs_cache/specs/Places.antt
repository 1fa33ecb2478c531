-- How a cache keeps what is taken and what is staged: places by names, some of them empty, and what is to stand at some of these. (Only
-- private clauses cite this.)
use Rattle.std.specs.Prelude.{◌≡◌, ℕ, Bool, true, false, IfSome, IsTrue, cond, is_some, List, [], ◌∷◌, Option, Some, None}
use Rattle.std.specs.BTreeMap.{is_at}
use Rattle.std.specs.FinMap.{empty, get}
use Rattle.std.specs.List.{list_any}
use Rattle.std.specs.Map.{lookup}
use Rattle.fs_path.specs.NameOrder.{name_cmp}
use Rattle.fs_path.specs.declared.name.DocName.{DocName}
use Rattle.fs_cache.specs.Cached.{Had, is_number, with_cached}
use Rattle.fs_cache.specs.declared.cached.CachedDocument.{CachedDocument}

abbrev pub Places : Type 0
Places = List (DocName × Option CachedDocument)

-- what is at the place of a name, if there is one
abbrev pub place_at : Places → DocName → Option (Option CachedDocument)
place_at places name = lookup (is_at (name_cmp name)) places

-- the second have w at the name, and what the first have at others
abbrev pub IsPut : Places → Places → DocName → Option (Option CachedDocument) → Type 0
IsPut old new name w = (q : DocName) → place_at new q ≡ cond (is_at (name_cmp name) q) w (place_at old q)

-- documents with others in place of some, or none
abbrev pub laid_on : Had → Places → Had
laid_on docs [] = docs
laid_on docs (e ∷ es) = with_cached (laid_on docs es) e.0 e.1

-- what stands at places
abbrev pub standing_in : Places → Had
standing_in places = laid_on empty places

-- what is staged where something else is to stand at some of the places
abbrev pub staged_in : Places → Places → Had
staged_in places changes = laid_on (standing_in places) changes

-- whether what is had is another once some targets have it no longer: what no target has goes
abbrev pub is_left_of : List ℕ → List ℕ → Bool
is_left_of gone [] = true
is_left_of gone (t ∷ ts) = list_any (is_number gone) (t ∷ ts)

abbrev pub is_left : List ℕ → Option CachedDocument → Bool
is_left gone None = false
is_left gone (Some c) = is_left_of gone c.targets

-- where something is to stand there is a place
abbrev pub HavePlaces : Places → Places → Type 0
HavePlaces places changes = (name : DocName) → IsTrue (is_some (place_at changes name)) → IsTrue (is_some (place_at places name))

-- each document bears the name that it stands at
abbrev pub AreNamed : Had → Type 0
AreNamed docs = (name : DocName) → IfSome (get docs name) (λ c. c.document.name ≡ name)

-- of the places of what is taken, and of what is to stand there
pub record IsKept (places changes : Places) : Type 0 where
  pub taken_named : AreNamed (standing_in places)
  pub staged_named : AreNamed (staged_in places changes)
  pub placed : HavePlaces places changes
