-- The laws of clients. Each is shown by a public call.
use Rattle.std.specs.Prelude.{◌≡◌, ◌⊎◌, ◌≤ℤ◌, ℕ, ℤ, pos, true, List, [], Option, Some, is_some, option_map}
use Rattle.std.specs.FinMap.{get}
use Rattle.std.specs.List.{Contains}
use Rattle.fs_path.specs.declared.name.DocName.{DocName}
use Rattle.fs_path.specs.declared.name.Root.{Root}
use Rattle.fs_value.specs.declared.document.Document.{Document}
use Rattle.fs_write.specs.Batch.{Docs}
use Rattle.fs_query.specs.declared.listen.ListenMessage.{ListenMessage}
use Rattle.fs_query.specs.declared.target.Target.{Target}
use Rattle.fs_query.specs.declared.target.Target.TheVariants as target
use Rattle.fs_listen.specs.Gathered.{gathered}
use Rattle.fs_listen.specs.View.{view}
use Rattle.fs_cache.specs.Cached.{documents}
use Rattle.fs_queue.specs.Queue.{batches}
use Rattle.fs_queue.specs.declared.batch.Acknowledged.{Acknowledged}
use Rattle.fs_local.specs.Connect.{connected, lost}
use Rattle.fs_local.specs.Gathered.{TellsAll, TellsWhetherAll, had_by, staged_by, told_all}
use Rattle.fs_local.specs.Runs.{MayAll, Step, after, after_all}
use Rattle.fs_local.specs.Shown.{overlaid, shown, view_of}
use Rattle.fs_local.specs.Stands.{Stands}
use Rattle.fs_local.specs.State.{Client, start}
use Rattle.fs_local.specs.declared.view.View.{View}

-- what always stands of a client stands after every run
abbrev pub AlwaysStands : Type 0
AlwaysStands = (root : Root) (targets batches : ℕ) (steps : List Step) → MayAll steps (start root targets batches) → Stands (after_all steps (start root targets batches))

-- there is a snapshot, and it isn't before the commit
pub record Covers (snapshot : Option ℤ) (a : Acknowledged) : Type 0 where
  pub time : ℤ
  pub is : snapshot ≡ Some time
  pub reached : a.at ≤ℤ time

-- a batch that was acknowledged stays in the overlay until the client has a snapshot of its time
abbrev pub AcknowledgedStays : Type 0
AcknowledgedStays = (s : Step) (c : Client) (a : Acknowledged) → Contains c.queue.acknowledged a
    → Contains (after s c).queue.acknowledged a ⊎ Covers (after s c).cache.snapshot a

-- a lost link changes nothing that is shown, but that it is from the cache then
abbrev pub from_cache : View → View
from_cache v = record v { from_cache = true }

abbrev pub LostShowsTheSame : Type 0
LostShowsTheSame = (id : ℕ) (c : Client) → view_of id (lost c) ≡ option_map from_cache (view_of id c)

-- and so does a new one
abbrev pub ConnectedShowsTheSame : Type 0
ConnectedShowsTheSame = (id : ℕ) (c : Client) → view_of id (connected c) ≡ option_map from_cache (view_of id c)

-- ---- without batches

-- it skips no document
abbrev pub SkipsNone : Target → Type 0
SkipsNone (target.Query q) = q.offset ≡ pos 0
SkipsNone (target.Documents names) = Unit {0}

-- what a client has are documents of these, and of the target all that its view over these has
pub record HasView (id : ℕ) (t : Target) (docs : Docs) (c : Client) : Type 0 where
  pub part : (name : DocName) (d : Document) → get (documents c.cache) name ≡ Some d → get docs name ≡ Some d
  pub whole : (name : DocName) → had_by id name c.cache.taken ≡ get (view t docs) name

-- where nothing is uncovered, it shows just what the target's view has: the documents that it took of the target
abbrev pub ShowsWhatItTook : Type 0
ShowsWhatItTook = (id : ℕ) (t : Target) (docs : Docs) (c : Client) → batches c.queue ≡ [] → SkipsNone t → HasView id t docs c
    → shown t (overlaid c) ≡ shown t docs

-- ---- what is staged

abbrev pub GatheredIsStaged : Type 0
GatheredIsStaged = (id : ℕ) (name : DocName) (start : Option Document) (ms : List ListenMessage) (c : Client) → is_some (get c.targets.listened id) ≡ true
    → TellsAll id name start ms c → staged_by id name (told_all ms c) ≡ gathered id name start ms (staged_by id name c)

abbrev pub MembersAreStaged : Type 0
MembersAreStaged = (id : ℕ) (name : DocName) (start : Option Document) (ms : List ListenMessage) (c : Client) → is_some (get c.targets.listened id) ≡ true
    → TellsWhetherAll id name start ms c → is_some (staged_by id name (told_all ms c)) ≡ is_some (gathered id name start ms (staged_by id name c))
