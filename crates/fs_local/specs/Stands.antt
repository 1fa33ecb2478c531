-- Always: a client has documents only of targets that it listens to, and each of one at least; what was committed by the time of its snapshot
-- isn't among its batches any longer; a batch is sent only on a link on which the stream was answered, and without a link nothing is to be sent;
-- only where there is a snapshot has it a target; and no id is above the last.
use Rattle.std.specs.Prelude.{◌≡◌, ◌≢◌, ◌<◌, ◌≤◌, ℕ, ℤ, ◌<ℤ◌, true, List, [], Option, Some, None, IfSome, is_some}
use Rattle.std.specs.FinMap.{FinMap, get}
use Rattle.std.specs.List.{AllByRecursion}
use Rattle.std.specs.Ordering.{nat_cmp}
use Rattle.fs_path.specs.declared.name.DocName.{DocName}
use Rattle.fs_cache.specs.Cached.{Cached, Had, is_number}
use Rattle.fs_cache.specs.declared.cached.CachedDocument.{CachedDocument}
use Rattle.fs_queue.specs.Queue.{Queue}
use Rattle.fs_queue.specs.declared.batch.Acknowledged.{Acknowledged}
use Rattle.fs_local.specs.State.{Client, Hand, Targets}
use Rattle.fs_local.specs.TakeOut.{is_greeted}
use Rattle.fs_local.specs.declared.listened.Listened.{Listened}

pub record IsOfListened (listened : FinMap nat_cmp Listened) (d : CachedDocument) : Type 0 where
  pub some : d.targets ≢ []
  pub all : (id : ℕ) → is_number d.targets id ≡ true → is_some (get listened id) ≡ true

abbrev pub AreOfListened : FinMap nat_cmp Listened → Had → Type 0
AreOfListened listened docs = (name : DocName) (d : CachedDocument) → get docs name ≡ Some d → IsOfListened listened d

pub record Holds (cache : Cached) (ts : Targets) : Type 0 where
  pub taken : AreOfListened ts.listened cache.taken
  pub staged : AreOfListened ts.listened cache.staged

-- what was committed by a snapshot's time is gone
abbrev pub AreUncovered : Option ℤ → List Acknowledged → Type 0
AreUncovered snapshot acknowledged = IfSome snapshot (λ t. AllByRecursion (λ (a : Acknowledged). t <ℤ a.at) acknowledged)

pub record IsOnLink (h : Hand) (q : Queue) : Type 0 where
  pub sent : q.sent ≡ true → is_greeted h.link ≡ true
  pub idle : h.link ≡ None → h.out ≡ []

abbrev pub IsNumbered : ℕ → ℕ → Type 0
IsNumbered last id = (0 < id) × (id ≤ last)

pub record AreNumbered (ts : Targets) : Type 0 where
  pub listened : (id : ℕ) → is_some (get ts.listened id) ≡ true → IsNumbered ts.last id
  pub refused : (id : ℕ) → is_some (get ts.causes id) ≡ true → IsNumbered ts.last id × (get ts.listened id ≡ None)

abbrev pub HaveSnapshots : Option ℤ → Targets → Type 0
HaveSnapshots snapshot ts = (id : ℕ) (l : Listened) → get ts.listened id ≡ Some l → l.shown ≡ true → (is_some snapshot ≡ true) × (is_some ts.token ≡ true)

pub record Stands (c : Client) : Type 0 where
  pub holds : Holds c.cache c.targets
  pub uncovered : AreUncovered c.cache.snapshot c.queue.acknowledged
  pub link : IsOnLink c.hand c.queue
  pub numbered : AreNumbered c.targets
  pub snapshots : HaveSnapshots c.cache.snapshot c.targets
