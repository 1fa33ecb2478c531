-- Only the model of a past and private clauses cite this: what it is made of.
--
--     the journal     c/b at 7, c/a at 5
--     the board       8 pending, 9 accepted with its results and changes, last 9
--     the holds       8 holds c/a and c/d, 9, which writes c/e, is late
--     the store       what 5 and 7 leave, up to 7
use Rattle.std.specs.Prelude.{◌≡◌, ℕ, ℤ, ◌≤◌, ⊤, Bool, false, ◌&&◌, ◌==◌, IsTrue, List, [], ◌∷◌, Option, Some, None, is_none, length, map, sum_by, not, if◌then◌else◌}
use Rattle.std.specs.List.{AllByRecursion, list_any}
use Rattle.std.specs.Option.{option_map}
use Rattle.fs_board.specs.Board.{Commit, HasNo, Posted, all_ready}
use Rattle.fs_history.specs.Bytes.{batch_size}
use Rattle.fs_history.specs.History.{EndsBefore, whole}
use Rattle.fs_history.specs.Journal.{Recorded}
use Rattle.fs_history.specs.declared.batch.Batch.{Batch}
use Rattle.fs_locks.specs.Holds.{Hold, is_held}
use Rattle.fs_path.specs.declared.name.DocName.{DocName}
use Rattle.fs_store.specs.Shows.{Shows}
use Rattle.fs_store.specs.Stored.{Stored}
use Rattle.fs_write.specs.Batch.{Docs, IsNamed, IsOutcome}
use Rattle.fs_write.specs.WrittenName.{is_written, written_name}
use Rattle.fs_write.specs.declared.write.Write.{Write}
use Rattle.fs_write.specs.declared.timed_change.TimedChange.{TimedChange}
use Rattle.fs_machine.specs.declared.unreleased.Unreleased.{Unreleased}
use Rattle.fs_machine.specs.Facts.{PastFacts}
use Rattle.fs_machine.specs.Past.{Past}
use Rattle.fs_past.specs.declared.accepted.Accepted.{Accepted}
use Rattle.fs_past.specs.declared.holds.Holds.{Holds}

-- the commit that stands on the board, with its results once it is accepted
abbrev pub unreleased_of : Commit Unreleased Accepted → Unreleased
unreleased_of c = record c.asked { results = option_map (λ a. a.results) c.batch }

abbrev pub all_unreleased : List (Commit Unreleased Accepted) → List Unreleased
all_unreleased cs = map unreleased_of cs

abbrev pub past_of : List Batch → Posted Unreleased Accepted → Stored → ℤ → Past
past_of history board store moment = record {
  history = history;
  unreleased = all_unreleased board.commits;
  last = board.last;
  released = store.absorbed;
  moment = moment;
  floor = store.chains.floor;
  shards = store.shards;
}

-- ---- what stands on the board

-- what an accepted commit brings is what its writes come to
abbrev pub BringsEffects : Docs → Unreleased → Option Accepted → Type 0
BringsEffects docs u None = ⊤
BringsEffects docs u (Some a) =
    (a.change.time ≡ u.batch.time) × IsOutcome docs u.batch.writes u.batch.time a.change.changes a.results × AllByRecursion IsNamed a.change.changes
    × (a.change.id ≡ u.batch.id)

pub record Stands (docs : Docs) (c : Commit Unreleased Accepted) : Type 0 where
  pub time : c.asked.batch.time ≡ c.time
  pub id : c.asked.batch.id ≡ c.id
  pub pending : c.asked.results ≡ None
  pub effects : BringsEffects docs c.asked c.batch

-- each has its id, which no other has
abbrev pub AreNumbered : List (Commit Unreleased Accepted) → Type 0
AreNumbered [] = ⊤
AreNumbered (c ∷ cs) = (c.asked.batch.id ≡ c.id) × HasNo c.id cs × AreNumbered cs

-- what they count together, in bytes
abbrev pub bytes_of : List (Commit Unreleased Accepted) → ℕ
bytes_of cs = sum_by (λ u. batch_size u.batch) (all_unreleased cs)

-- ---- the names that they hold

-- the commit of an id writes a name
abbrev pub writes_name : ℕ → DocName → List (Commit Unreleased Accepted) → Bool
writes_name i n cs = list_any (λ c. c.id == i && is_written n c.asked.batch.writes) cs

-- the commit of an id holds nothing yet
abbrev pub is_late : Option ℕ → ℕ → Bool
is_late None i = false
is_late (Some id) i = i == id

-- each holds the names that it writes, but for one that is late, and nothing else is held
abbrev pub AreHeld : Holds → List (Commit Unreleased Accepted) → Type 0
AreHeld holds cs = (i : ℕ) (n : DocName) → is_held holds.locks.exclusive i n ≡ (not (is_late holds.late i) && writes_name i n cs)

-- an id holds nothing any more, and isn't late
pub record HoldLess (old new : Holds) (id : ℕ) : Type 0 where
  pub locks : (i : ℕ) (n : DocName) → is_held new.locks.exclusive i n ≡ (not (i == id) && is_held old.locks.exclusive i n)
  pub late : (i : ℕ) → is_late new.late i ≡ (not (i == id) && is_late old.late i)

-- an id holds a name that one of these writes
abbrev pub HoldsWritten : List Hold → List Write → ℕ → Type 0
HoldsWritten holds ws i = IsTrue (list_any (λ w. is_held holds i (written_name w)) ws)

-- ---- what a release lets in

-- the history with the accepted commits before which none is pending
abbrev pub all_history : List Batch → List (Commit Unreleased Accepted) → List Batch
all_history h [] = h
all_history h (c ∷ cs) = if is_none c.batch then h else all_history (c.asked.batch ∷ h) cs

-- the commits that stay on the board
abbrev pub kept_on_board : List (Commit Unreleased Accepted) → List (Commit Unreleased Accepted)
kept_on_board [] = []
kept_on_board (c ∷ cs) = if is_none c.batch then c ∷ cs else kept_on_board cs

-- those that leave it, with their results
abbrev pub let_out_of : List (Commit Unreleased Accepted) → List Unreleased
let_out_of cs = map (λ r. record r.0 { results = Some r.1.results }) (all_ready cs)

-- the changes that come to be seen
abbrev pub changes_of : List (Commit Unreleased Accepted) → List TimedChange
changes_of cs = map (λ r. r.1.change) (all_ready cs)

-- each is later than those before it
abbrev pub GoOn : List Batch → List (Commit Unreleased Accepted) → Type 0
GoOn h [] = ⊤
GoOn h (c ∷ cs) = EndsBefore h c.asked.batch.time × GoOn (c.asked.batch ∷ h) cs

-- ---- always

pub record IsKept (journal : Recorded) (board : Posted Unreleased Accepted) (holds : Holds) (store : Stored) (moment : ℤ) (bytes : ℕ) : Type 0 where
  pub facts : PastFacts (past_of journal.history board store moment)
  -- the store has the documents of each time that can be read
  pub shows : Shows journal.history store
  pub stand : AllByRecursion (Stands (whole journal.history)) board.commits
  pub room : length board.commits ≤ journal.room
  pub locks : AreHeld holds board.commits
  pub waiting : bytes ≡ bytes_of board.commits
