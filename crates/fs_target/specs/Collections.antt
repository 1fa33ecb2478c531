-- The ids of collections that have those of targets among them. (Only private clauses cite this.)
use Rattle.std.specs.Prelude.{◌≡◌, true, IsTrue, List, ℕ, String}
use Rattle.std.specs.BTreeSet.{BTreeSet, contains_text}
use Rattle.std.specs.List.{AllByRecursion}
use Rattle.std.specs.declared.alloc.Global.{Global}
use Rattle.fs_path.specs.Scope.{collection_id}
use Rattle.fs_value.specs.declared.document.Document.{Document}
use Rattle.fs_listen.specs.View.{is_listened}
use Rattle.fs_query.specs.declared.target.Target.{Target}
use Rattle.fs_target.specs.Seen.{Seen}

abbrev pub Ids : Type 0
Ids = BTreeSet (String Global)

-- each id is still there
abbrev pub AreKept : Ids → Ids → Type 0
AreKept ids kept = (id : List ℕ) → IsTrue (contains_text ids id) → IsTrue (contains_text kept id)

-- the collection of each document that a target listens to is among them
abbrev pub HasThoseOf : Ids → Target → Type 0
HasThoseOf ids t = (d : Document) → is_listened t d ≡ true → IsTrue (contains_text ids (collection_id d.name))

abbrev pub HasAll : Ids → List Seen → Type 0
HasAll ids ss = AllByRecursion (λ (s : Seen). HasThoseOf ids s.listened.target) ss
