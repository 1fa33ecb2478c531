-- The laws of listening. Each is shown by a public call.
use Rattle.std.specs.Prelude.{◌≡◌, ◌≢◌, ◌↔◌, ℕ, ◌<◌, ℤ, ◌≤ℤ◌, IfSome, false, List, Option, Some, None, if◌then◌else◌}
use Rattle.std.specs.FinMap.{entries, get, values}
use Rattle.std.specs.List.{AllByRecursion, Contains, filter_map, list_any}
use Rattle.fs_path.specs.NameOrder.{name_eq}
use Rattle.fs_path.specs.declared.name.DocName.{DocName}
use Rattle.fs_query.specs.Answer.{IsAnswer}
use Rattle.fs_query.specs.AnswerTo.{in_rise}
use Rattle.fs_query.specs.Asked.{Asked}
use Rattle.fs_query.specs.DocumentOrder.{orders_cmp}
use Rattle.fs_query.specs.Normal.{whole_order}
use Rattle.fs_query.specs.declared.listen.ListenMessage.{ListenMessage}
use Rattle.fs_query.specs.declared.target.Target.TheVariants as target
use Rattle.fs_value.specs.declared.document.Document.{Document}
use Rattle.fs_write.specs.Batch.{AreNamed, Docs}
use Rattle.fs_history.specs.History.{at, IsRising}
use Rattle.fs_history.specs.declared.batch.Batch.{Batch}
use Rattle.fs_listen.specs.Cuts.{cut, first_loading, is_current, is_ready}
use Rattle.fs_listen.specs.Gathered.{NeverFalls, ended_at, gathered, raise_in}
use Rattle.fs_listen.specs.Listening.{Listened, Listening, Loaded, matched}
use Rattle.fs_listen.specs.Currents.{currents_since}
use Rattle.fs_listen.specs.Raised.{sent_view}
use Rattle.fs_listen.specs.Runs.{Event, World, after_all, MayAll, begun}
use Rattle.fs_listen.specs.Versions.{versions_told}
use Rattle.fs_listen.specs.View.{view, view_at}
use Rattle.fs_listen.specs.declared.cut.Cut.TheVariants.{NoTarget}

-- ---- views

-- the view of a query has just the documents of the query's answer
abbrev pub ViewsHoldAnswers : Type 0
ViewsHoldAnswers = (q : Asked) (docs : Docs) (answer : List Document) → AreNamed docs → IsAnswer q (values docs) answer
    → (d : Document) → Contains (values (view (target.Query q) docs)) d ↔ Contains answer d

-- and put in the order of the query, they are that answer
abbrev pub OrderedViewsAreAnswers : Type 0
OrderedViewsAreAnswers = (q : Asked) (docs : Docs) (answer : List Document) → AreNamed docs → IsAnswer q (values docs) answer
    → in_rise (orders_cmp (whole_order q)) (values (view (target.Query q) docs)) ≡ answer

-- the view of names has the documents that there are of them
abbrev pub ViewsOfNames : Type 0
ViewsOfNames = (names : List DocName) (docs : Docs) (name : DocName) → AreNamed docs
    → get (view (target.Documents names) docs) name ≡ (if list_any (name_eq name) names then get docs name else None)

-- ---- what a reader has

-- what whoever read all that was told has of a target, which began with what its token resumes
abbrev pub gathered_of : List Batch → ℕ → Listened → List ListenMessage → DocName → Option Document
gathered_of h id l said name = gathered id name (get (view_at l.target h l.token) name) said None

-- of each target it has the view that was sent
abbrev pub AreTold : List Batch → Listening → List ListenMessage → Type 0
AreTold h s said = (id : ℕ) (l : Listened) → get s.targets id ≡ Some l
    → (name : DocName) → gathered_of h id l said name ≡ get (sent_view h s.raised l) name

-- of each target it has the view at one time, which is the last raise's
pub record IsOneTime (w : World) (time : ℤ) : Type 0 where
  pub raised : w.listening.raised ≡ Some time
  pub released : time ≤ℤ w.released
  pub views : (id : ℕ) (l : Listened) → get w.listening.targets id ≡ Some l
      → (name : DocName) → gathered_of w.history id l w.said name ≡ get (view l.target (at w.history time)) name

-- each target was told to be current once since it was added, if it is current, and else not yet; with a NO_CHANGE each was
pub record IsCurrentOnce (w : World) : Type 0 where
  pub once : (id : ℕ) (l : Listened) → get w.listening.targets id ≡ Some l → currents_since id w.said ≡ (if is_current l.loaded then 1 else 0)
  pub all : (time : ℤ) → ended_at w.said ≡ Some time → (id : ℕ) (l : Listened) → get w.listening.targets id ≡ Some l → currents_since id w.said ≡ 1

-- each position that it has is the time of its load or later
abbrev pub IsFromLoad : Loaded → Type 0
IsFromLoad l = AllByRecursion (λ o. IfSome o (λ position. l.time ≤ℤ position)) l.positions

-- ---- runs

-- At every point of a run a session was told just the views that were sent of its targets. That is the view of the last raise; of a target
-- that is new it is what its token resumes, and nothing once it was reset.
abbrev pub AlwaysTold : Type 0
AlwaysTold = (shards : ℕ) (h : List Batch) (released floor : ℤ) (es : List Event) → MayAll shards es (begun h released floor)
    → AreTold (after_all shards es (begun h released floor)).history (after_all shards es (begun h released floor)).listening
    (after_all shards es (begun h released floor)).said

-- wherever what a session was told ends with NO_CHANGE, it was told just the views of all its targets at that time
abbrev pub ConsistentCuts : Type 0
ConsistentCuts = (shards : ℕ) (h : List Batch) (released floor : ℤ) (es : List Event) → MayAll shards es (begun h released floor)
    → (time : ℤ) → ended_at (after_all shards es (begun h released floor)).said ≡ Some time → IsOneTime (after_all shards es (begun h released floor)) time

-- and none of these times is below one before it
abbrev pub TimesNeverFall : Type 0
TimesNeverFall = (shards : ℕ) (h : List Batch) (released floor : ℤ) (es : List Event) → MayAll shards es (begun h released floor)
    → NeverFalls (filter_map raise_in (after_all shards es (begun h released floor)).said)

-- at every point of a run each target was told to be current just once, if it is
abbrev pub CurrentsComeOnce : Type 0
CurrentsComeOnce = (shards : ℕ) (h : List Batch) (released floor : ℤ) (es : List Event) → MayAll shards es (begun h released floor)
    → IsCurrentOnce (after_all shards es (begun h released floor))

-- no position of a target is before its load
abbrev pub PositionsFollowLoads : Type 0
PositionsFollowLoads = (shards : ℕ) (h : List Batch) (released floor : ℤ) (es : List Event) (id : ℕ) (l : Listened)
    → get (after_all shards es (begun h released floor)).listening.targets id ≡ Some l → IfSome l.loaded IsFromLoad

-- of the versions of a name that a session was told none is below one before it, where the times of the history rise
abbrev pub VersionsNeverFall : Type 0
VersionsNeverFall = (shards : ℕ) (h : List Batch) (released floor : ℤ) (es : List Event) (name : DocName) → MayAll shards es (begun h released floor)
    → IsRising (after_all shards es (begun h released floor)).history → NeverFalls (versions_told name (after_all shards es (begun h released floor)).said)

-- ---- where nothing is left to be done

-- all targets are loaded, all shards are matched up to what is released, and the session isn't ready to be raised
pub record IsServed (shards : ℕ) (w : World) : Type 0 where
  pub loaded : first_loading (entries w.listening.targets) ≡ None
  pub matched : (shard : ℕ) → shard < shards → matched shard w.released w.listening ≡ w.listening
  pub raised : is_ready w.listening ≡ false

-- then it was raised at the released time, if it listens to anything
abbrev pub ServedAreRaised : Type 0
ServedAreRaised = (shards : ℕ) (h : List Batch) (released floor : ℤ) (es : List Event) → MayAll shards es (begun h released floor)
    → IsServed shards (after_all shards es (begun h released floor)) → cut (after_all shards es (begun h released floor)).listening ≢ NoTarget
    → (after_all shards es (begun h released floor)).listening.raised ≡ Some (after_all shards es (begun h released floor)).released
