-- What a client has staged of a target, beside what whoever reads the messages of that target alone has of it. The client keeps one document of
-- a name for all of its targets. So the two agree where each change of a document names all targets that have it, as one that a raise sends
-- does; and which documents the target has, they agree on always.
--
--     target 1 is raised, and target 2 isn't added yet on this link; both had c/a {n: 1}
--     c/a is {n: 2} for 1      the client has c/a {n: 2} of 1 and 2, and a reader of 2 alone has {n: 1} yet
use Rattle.std.specs.Prelude.{◌≡◌, ◌≢◌, ◌⊎◌, ℕ, ⊤, true, List, [], ◌∷◌, Option, Some, None, is_some, if◌then◌else◌}
use Rattle.std.specs.FinMap.{get}
use Rattle.fs_path.specs.declared.name.DocName.{DocName}
use Rattle.fs_value.specs.declared.document.Document.{Document}
use Rattle.fs_query.specs.declared.listen.ListenMessage.{ListenMessage}
use Rattle.fs_query.specs.declared.listen.ListenMessage.TheVariants as message
use Rattle.fs_cache.specs.Cached.{Had, is_number}
use Rattle.fs_cache.specs.declared.cached.CachedDocument.{CachedDocument}
use Rattle.fs_local.specs.State.{Client}
use Rattle.fs_local.specs.Told.{told}

-- the document of a name that a target has
abbrev pub had_of : ℕ → Option CachedDocument → Option Document
had_of id None = None
had_of id (Some c) = if is_number c.targets id then Some c.document else None

abbrev pub had_by : ℕ → DocName → Had → Option Document
had_by id name docs = had_of id (get docs name)

abbrev pub staged_by : ℕ → DocName → Client → Option Document
staged_by id name c = had_by id name c.cache.staged

-- all that a client is told
abbrev pub told_all : List ListenMessage → Client → Client
told_all [] c = c
told_all (m ∷ ms) c = told_all ms (told m c)

-- the target isn't refused
abbrev pub IsLeft : ℕ → ListenMessage → Type 0
IsLeft id (message.Add ids) = ⊤
IsLeft id (message.Remove ids None) = ⊤
IsLeft id (message.Remove ids (Some cause)) = is_number ids id ≢ true
IsLeft id (message.Reset ids) = ⊤
IsLeft id (message.Current ids time token) = ⊤
IsLeft id (message.NoChange time token) = ⊤
IsLeft id (message.Changed d ids left) = ⊤
IsLeft id (message.Deleted name time left) = ⊤
IsLeft id (message.Removed name time left) = ⊤

-- where the target is added, this holds
abbrev pub WhereAdded : ℕ → ListenMessage → Type 0 → Type 0
WhereAdded id (message.Add ids) P = is_number ids id ≡ true → P
WhereAdded id (message.Remove ids cause) P = ⊤
WhereAdded id (message.Reset ids) P = ⊤
WhereAdded id (message.Current ids time token) P = ⊤
WhereAdded id (message.NoChange time token) P = ⊤
WhereAdded id (message.Changed d ids left) P = ⊤
WhereAdded id (message.Deleted name time left) P = ⊤
WhereAdded id (message.Removed name time left) P = ⊤

-- where the document of a name changes that the target has, the target is named
abbrev pub IsNamedIn : ℕ → DocName → Option Document → ListenMessage → Type 0
IsNamedIn id name had (message.Changed d ids left) = d.name ≡ name → is_some had ≡ true → (is_number ids id ≡ true) ⊎ (is_number left id ≡ true)
IsNamedIn id name had (message.Add ids) = ⊤
IsNamedIn id name had (message.Remove ids cause) = ⊤
IsNamedIn id name had (message.Reset ids) = ⊤
IsNamedIn id name had (message.Current ids time token) = ⊤
IsNamedIn id name had (message.NoChange time token) = ⊤
IsNamedIn id name had (message.Deleted other time left) = ⊤
IsNamedIn id name had (message.Removed other time left) = ⊤

pub record Tells (id : ℕ) (name : DocName) (start : Option Document) (m : ListenMessage) (c : Client) : Type 0 where
  pub left : IsLeft id m
  -- the client has what its token resumes
  pub added : WhereAdded id m (staged_by id name c ≡ start)
  pub all : IsNamedIn id name (staged_by id name c) m

abbrev pub TellsAll : ℕ → DocName → Option Document → List ListenMessage → Client → Type 0
TellsAll id name start [] c = ⊤
TellsAll id name start (m ∷ ms) c = Tells id name start m c × TellsAll id name start ms (told m c)

-- the same of whether it has one: a change need not name the target
pub record TellsWhether (id : ℕ) (name : DocName) (start : Option Document) (m : ListenMessage) (c : Client) : Type 0 where
  pub left : IsLeft id m
  pub added : WhereAdded id m (is_some (staged_by id name c) ≡ is_some start)

abbrev pub TellsWhetherAll : ℕ → DocName → Option Document → List ListenMessage → Client → Type 0
TellsWhetherAll id name start [] c = ⊤
TellsWhetherAll id name start (m ∷ ms) c = TellsWhether id name start m c × TellsWhetherAll id name start ms (told m c)
