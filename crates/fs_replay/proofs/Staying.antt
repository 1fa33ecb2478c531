-- What waits where no commit is under way: commits of no transaction, each kept by an open one that has read what it writes.
use Rattle.std.proofs.Common.{◌≡◌, ℕ, ℤ, ◌+◌, Bool, true, false, cond, List, [], ◌∷◌, ◌++◌, map, Option, Some, None, refl, sym, ap, ◌∙◌, subst}
use Rattle.std.specs.Prelude.{⊤, pos, ◌+ℤ◌, ◌&&◌, codes, int_lt, length, nat_le, nat_lt, sum_by}
use Rattle.std.specs.List.{AllByRecursion, filter}
use Rattle.fs_history.specs.Bytes.{batch_size, commit_size, history_size}
use Rattle.fs_history.specs.Touches.{some_touched}
use Rattle.fs_history.specs.declared.batch.Batch.{Batch}
use Rattle.fs_history.specs.declared.read.Read.{Read}
use Rattle.fs_request.specs.declared.request.Request.{Request}
use Rattle.fs_request.specs.declared.request.Request.TheVariants.{Commit, GetDocument, BatchGetDocuments, RunQuery, BeginTransaction, Rollback, AddTarget, RemoveTarget}
use Rattle.fs_request.specs.declared.request.Request.TheVariants as request
use Rattle.fs_request.specs.declared.when.When.{When}
use Rattle.fs_status.specs.declared.refusal.Refusal.{Refusal}
use Rattle.fs_txn.specs.Transactions.{is_read_write}
use Rattle.fs_txn.specs.declared.txn.Txn.{Txn}
use Rattle.fs_write.specs.declared.write.Write.{Write}
use Rattle.fs_machine.specs.Behind.{behind, least, writing_same}
use Rattle.fs_machine.specs.Compact.{compacted}
use Rattle.fs_machine.specs.Conflict.{is_reader, plain_behind, read_behind, readers_of, touching}
use Rattle.fs_machine.specs.Leave.{departed}
use Rattle.fs_machine.specs.Past.{Past}
use Rattle.fs_machine.specs.Read.{is_noted, reader_behind, shown_at}
use Rattle.fs_machine.specs.Refusing.{passed}
use Rattle.fs_machine.specs.Request.{Decision, check_refusal, held_by, retry_refusal, unless_held, unless_refused}
use Rattle.fs_machine.specs.Retry.{retry_decision}
use Rattle.fs_machine.specs.State.{Machine}
use Rattle.fs_machine.specs.declared.config.Config.{Config}
use Rattle.fs_machine.specs.declared.config.Mode.{Mode}
use Rattle.fs_machine.specs.declared.config.Mode.TheVariants.{Pessimistic, Optimistic}
use Rattle.fs_machine.specs.declared.limits.Limits.{Limits}
use Rattle.fs_machine.specs.declared.parked_request.ParkedRequest.{ParkedRequest}
use Rattle.fs_machine.specs.declared.unreleased.Unreleased.{Unreleased}
use Rattle.fs_machine.proofs.Behind.{none_any}
use Rattle.fs_machine.proofs.Listening.{beside_listening}
use Rattle.fs_machine.proofs.TransactionsHold.{none_passes}
use Rattle.fs_replay.specs.BetweenLines.{IsHeld, IsHeldStill, IsSettled}
use Rattle.fs_replay.specs.Lines.{keeps_waiting, some_keep}
use Rattle.fs_replay.proofs.Going.{passes}
use Rattle.fs_replay.proofs.Readers.{NoneReads, ReadOn, ReadsOn}

-- ---- by whom

-- one that is open has read what these writes touch, and keeps them
abbrev pub HasReader : Mode → List Txn → List Write → Type 0
HasReader Pessimistic ts ws = NoneReads ws ts → ⊥
HasReader Optimistic ts ws = ⊥

-- a commit of no transaction, which one keeps
abbrev pub IsKept : Mode → List Txn → Request → Type 0
IsKept mode ts (Commit database writes None) = HasReader mode ts writes
IsKept mode ts (Commit database writes (Some id)) = ⊥
IsKept mode ts (GetDocument name mask when) = ⊥
IsKept mode ts (BatchGetDocuments database names mask when) = ⊥
IsKept mode ts (RunQuery database query when) = ⊥
IsKept mode ts (BeginTransaction database options) = ⊥
IsKept mode ts (Rollback database transaction) = ⊥
IsKept mode ts (AddTarget database target t token) = ⊥
IsKept mode ts (RemoveTarget database target) = ⊥
IsKept mode ts (request.Write database asked) = ⊥

reader_on : (mode : Mode) (ts us : List Txn) (ws : List Write) → ReadOn ts us → HasReader mode ts ws → HasReader mode us ws
reader_on Pessimistic ts us ws on has = λ none. has (on ws none)
reader_on Optimistic ts us ws on has = has

pub kept_on : (mode : Mode) (ts us : List Txn) (q : Request) → ReadOn ts us → IsKept mode ts q → IsKept mode us q
kept_on mode ts us (Commit database writes None) on kept = reader_on mode ts us writes on kept
kept_on mode ts us (Commit database writes (Some id)) on kept = kept
kept_on mode ts us (GetDocument name mask when) on kept = kept
kept_on mode ts us (BatchGetDocuments database names mask when) on kept = kept
kept_on mode ts us (RunQuery database query when) on kept = kept
kept_on mode ts us (BeginTransaction database options) on kept = kept
kept_on mode ts us (Rollback database transaction) on kept = kept
kept_on mode ts us (AddTarget database target t token) on kept = kept
kept_on mode ts us (RemoveTarget database target) on kept = kept
kept_on mode ts us (request.Write database asked) on kept = kept

-- where no transaction keeps any, it keeps none
only_read : (ws : List Write) (ts : List Txn) → AllByRecursion (λ t. is_read_write t.kind ≡ false) ts → NoneReads ws ts
only_read ws [] all = tt
only_read ws (t ∷ ts) all = (ap (λ b. b && some_touched ws t.reads) all.0, only_read ws ts all.1)

reader_none : (mode : Mode) (ts : List Txn) (ws : List Write) → some_keep mode ts ≡ false → HasReader mode ts ws → ⊥
reader_none Pessimistic ts ws none has = has (only_read ws ts (none_any (λ t. is_read_write t.kind) ts none))
reader_none Optimistic ts ws none has = has

pub kept_none : (mode : Mode) (ts : List Txn) (q : Request) → some_keep mode ts ≡ false → IsKept mode ts q → ⊥
kept_none mode ts (Commit database writes None) none kept = reader_none mode ts writes none kept
kept_none mode ts (Commit database writes (Some id)) none kept = kept
kept_none mode ts (GetDocument name mask when) none kept = kept
kept_none mode ts (BatchGetDocuments database names mask when) none kept = kept
kept_none mode ts (RunQuery database query when) none kept = kept
kept_none mode ts (BeginTransaction database options) none kept = kept
kept_none mode ts (Rollback database transaction) none kept = kept
kept_none mode ts (AddTarget database target t token) none kept = kept
kept_none mode ts (RemoveTarget database target) none kept = kept
kept_none mode ts (request.Write database asked) none kept = kept

-- ---- what is held where no commit is under way

none_left : (ws : List Write) (ts : List Txn) → NoneReads ws ts → readers_of ts ws ≡ []
none_left ws [] none = refl
none_left ws (t ∷ ts) none = ap (λ b. map (λ (u : Txn). u.id) (cond b (t ∷ filter (is_reader ws) ts) (filter (is_reader ws) ts))) none.0 ∙ none_left ws ts none.1

never_some : (found : Option ℕ) (by : ℕ) → found ≡ None → found ≡ Some by → ⊥
never_some found by none is = cc

writer_kept : (mode : Mode) (p : Past) (ts : List Txn) (ws : List Write) (by : ℕ) → p.unreleased ≡ [] → plain_behind mode p ts ws ≡ Some by → HasReader mode ts ws
writer_kept Pessimistic p ts ws by idle is = λ none.
    never_some (plain_behind Pessimistic p ts ws) by (ap (λ us. least (writing_same us ws ++ readers_of ts ws)) idle ∙ ap least (none_left ws ts none)) is
writer_kept Optimistic p ts ws by idle is = never_some (plain_behind Optimistic p ts ws) by (ap (λ us. least (writing_same us ws)) idle) is

behind_none : (p : Past) (ws : List Write) → p.unreleased ≡ [] → behind p ws ≡ None
behind_none p ws idle = ap (λ us. least (writing_same us ws)) idle

reads_none : (mode : Mode) (p : Past) (rs : List Read) → p.unreleased ≡ [] → read_behind mode p rs ≡ None
reads_none Pessimistic p rs idle = ap (λ us. least (touching us rs)) idle
reads_none Optimistic p rs idle = refl

noted_none : (b : Bool) (found : Option ℕ) → found ≡ None → cond b found None ≡ None
noted_none true found none = none
noted_none false found none = refl

reader_free : (m : Machine) (when : When) (q : Request) (by : ℕ) → m.past.unreleased ≡ [] → reader_behind m when q ≡ Some by → ⊥
reader_free m when q by idle is =
    never_some (reader_behind m when q) by (noted_none (is_noted m when) (read_behind m.config.mode m.past (shown_at m when q)) (reads_none m.config.mode m.past (shown_at m when q) idle)) is

pub held_kept : (m : Machine) (q : Request) (by : ℕ) → m.past.unreleased ≡ [] → held_by m q ≡ Some by → IsKept m.config.mode m.txns.open q
held_kept m (Commit database writes None) by idle is = writer_kept m.config.mode m.past m.txns.open writes by idle is
held_kept m (Commit database writes (Some id)) by idle is = never_some (behind m.past writes) by (behind_none m.past writes idle) is
held_kept m (GetDocument name mask when) by idle is = reader_free m when (GetDocument name mask when) by idle is
held_kept m (BatchGetDocuments database names mask when) by idle is = reader_free m when (BatchGetDocuments database names mask when) by idle is
held_kept m (RunQuery database query when) by idle is = reader_free m when (RunQuery database query when) by idle is
held_kept m (BeginTransaction database options) by idle is = absurd (cc)
held_kept m (Rollback database transaction) by idle is = absurd (cc)
held_kept m (AddTarget database target t token) by idle is = absurd (cc)
held_kept m (RemoveTarget database target) by idle is = absurd (cc)
held_kept m (request.Write database asked) by idle is = absurd (cc)

-- ---- it is held as long as there is room for it

-- why a commit of no transaction has none, if it hasn't
abbrev room_of : Limits → List Batch → List Unreleased → ℤ → List Write → Option Refusal
room_of l h us last ws =
    passed (nat_le l.batches (length h + length us)) (codes "batches") l.batches
    (passed (nat_lt l.journal ((history_size h + sum_by (λ u. batch_size u.batch) us) + commit_size ws [])) (codes "journal") l.journal
    (passed (int_lt (pos l.time) (last +ℤ pos 1)) (codes "time") l.time None))

abbrev pub HasRoom : Limits → List Batch → List Unreleased → ℤ → Request → Type 0
HasRoom l h us last (Commit database writes None) = room_of l h us last writes ≡ None
HasRoom l h us last (Commit database writes (Some id)) = ⊤
HasRoom l h us last (GetDocument name mask when) = ⊤
HasRoom l h us last (BatchGetDocuments database names mask when) = ⊤
HasRoom l h us last (RunQuery database query when) = ⊤
HasRoom l h us last (BeginTransaction database options) = ⊤
HasRoom l h us last (Rollback database transaction) = ⊤
HasRoom l h us last (AddTarget database target t token) = ⊤
HasRoom l h us last (RemoveTarget database target) = ⊤
HasRoom l h us last (request.Write database asked) = ⊤

pub has_room : (m : Machine) (q : Request) → retry_refusal m q ≡ None → HasRoom m.limits m.past.history m.past.unreleased m.past.last q
has_room m (Commit database writes None) none = none
has_room m (Commit database writes (Some id)) none = tt
has_room m (GetDocument name mask when) none = tt
has_room m (BatchGetDocuments database names mask when) none = tt
has_room m (RunQuery database query when) none = tt
has_room m (BeginTransaction database options) none = tt
has_room m (Rollback database transaction) none = tt
has_room m (AddTarget database target t token) none = tt
has_room m (RemoveTarget database target) none = tt
has_room m (request.Write database asked) none = tt

-- one that waits is kept, and has room
pub record StaysOn (m : Machine) (q : Request) : Type 0 where
  pub kept : IsKept m.config.mode m.txns.open q
  pub room : HasRoom m.limits m.past.history m.past.unreleased m.past.last q

held_found : (found : Option ℕ) → IsHeld (unless_held found) → (by : ℕ) × (found ≡ Some by)
held_found None held = absurd held
held_found (Some by) held = (by, refl)

held_parts : (first check : Option Refusal) (found : Option ℕ) → IsHeld (unless_refused first (unless_refused check (unless_held found))) → (first ≡ None) × ((by : ℕ) × (found ≡ Some by))
held_parts (Some refusal) check found held = absurd held
held_parts None (Some refusal) found held = absurd held
held_parts None None found held = (refl, held_found found held)

still_stays : (m : Machine) (session : ℕ) (q : Request) → m.past.unreleased ≡ [] → IsHeld (retry_decision m session q) → StaysOn m q
still_stays m session q idle held =
    let parts = held_parts (retry_refusal m q) (check_refusal m session q) (held_by m q) held in
    record { kept = held_kept m q parts.1.0 idle parts.1.1; room = has_room m q parts.0 }

none_behind : (xs ys : List ℕ) → least (xs ++ ys) ≡ None → least ys ≡ None
none_behind [] ys none = none
none_behind (x ∷ xs) ys none = absurd (cc)

kept_found : (mode : Mode) (p : Past) (ts : List Txn) (ws : List Write) → HasReader mode ts ws → plain_behind mode p ts ws ≡ None → ⊥
kept_found Pessimistic p ts ws has none = has (none_passes (λ t. t.id) (is_reader ws) ts (none_behind (writing_same p.unreleased ws) (readers_of ts ws) none))
kept_found Optimistic p ts ws has none = has

found_held : (found : Option ℕ) → (found ≡ None → ⊥) → IsHeld (unless_held found)
found_held None some = some refl
found_held (Some by) some = tt

pub stays_held : (m : Machine) (session : ℕ) (q : Request) → StaysOn m q → IsHeld (retry_decision m session q)
stays_held m session (Commit database writes None) stays =
    let found = plain_behind m.config.mode m.past m.txns.open writes in
    subst (λ first. IsHeld (unless_refused first (unless_held found))) (sym stays.room) (found_held found (kept_found m.config.mode m.past m.txns.open writes stays.kept))
stays_held m session (Commit database writes (Some id)) stays = absurd stays.kept
stays_held m session (GetDocument name mask when) stays = absurd stays.kept
stays_held m session (BatchGetDocuments database names mask when) stays = absurd stays.kept
stays_held m session (RunQuery database query when) stays = absurd stays.kept
stays_held m session (BeginTransaction database options) stays = absurd stays.kept
stays_held m session (Rollback database transaction) stays = absurd stays.kept
stays_held m session (AddTarget database target t token) stays = absurd stays.kept
stays_held m session (RemoveTarget database target) stays = absurd stays.kept
stays_held m session (request.Write database asked) stays = absurd stays.kept

goes_free : (found : Option ℕ) → unless_held found ≡ Decision.goes_on → found ≡ None
goes_free None goes = refl
goes_free (Some by) goes = absurd (cc)

-- one that is kept doesn't go on, whatever else holds it
pub kept_waits : (m : Machine) (session : ℕ) (q : Request) → IsKept m.config.mode m.txns.open q → retry_decision m session q ≡ Decision.goes_on → ⊥
kept_waits m session (Commit database writes None) kept goes =
    let found = plain_behind m.config.mode m.past m.txns.open writes in
    kept_found m.config.mode m.past m.txns.open writes kept (goes_free found (passes (retry_refusal m (Commit database writes None)) (unless_held found) goes).1)
kept_waits m session (Commit database writes (Some id)) kept goes = kept
kept_waits m session (GetDocument name mask when) kept goes = kept
kept_waits m session (BatchGetDocuments database names mask when) kept goes = kept
kept_waits m session (RunQuery database query when) kept goes = kept
kept_waits m session (BeginTransaction database options) kept goes = kept
kept_waits m session (Rollback database transaction) kept goes = kept
kept_waits m session (AddTarget database target t token) kept goes = kept
kept_waits m session (RemoveTarget database target) kept goes = kept
kept_waits m session (request.Write database asked) kept goes = kept

-- ---- all that wait

abbrev pub AllStay : Machine → List ParkedRequest → Type 0
AllStay m rs = AllByRecursion (λ r. StaysOn m r.envelope.request) rs

abbrev pub AllKept : Machine → List ParkedRequest → Type 0
AllKept m rs = AllByRecursion (λ r. IsKept m.config.mode m.txns.open r.envelope.request) rs

pub all_stay : (m : Machine) (rs : List ParkedRequest) → m.past.unreleased ≡ [] → AllByRecursion (IsHeldStill m) rs → AllStay m rs
all_stay m [] idle all = tt
all_stay m (r ∷ rs) idle all = (still_stays m r.session r.envelope.request idle all.0, all_stay m rs idle all.1)

pub all_held : (m : Machine) (rs : List ParkedRequest) → AllStay m rs → AllByRecursion (IsHeldStill m) rs
all_held m [] all = tt
all_held m (r ∷ rs) all = (stays_held m r.session r.envelope.request all.0, all_held m rs all.1)

kept_then : (m n : Machine) (q : Request) → ReadsOn m n → IsKept m.config.mode m.txns.open q → IsKept n.config.mode n.txns.open q
kept_then m n q on kept = kept_on n.config.mode m.txns.open n.txns.open q on.reads (subst (λ (c : Config). IsKept c.mode m.txns.open q) (sym on.config) kept)

pub stays_then : (m n : Machine) (q : Request) → ReadsOn m n → n.past ≡ m.past → StaysOn m q → StaysOn n q
stays_then m n q on past stays = record {
  kept = kept_then m n q on stays.kept;
  room = subst (λ (p : Past). HasRoom n.limits p.history p.unreleased p.last q) (sym past) (subst (λ l. HasRoom l m.past.history m.past.unreleased m.past.last q) (sym on.limits) stays.room);
}

-- as long as no transaction ends, what was kept is kept
pub all_kept_then : (m n : Machine) (rs : List ParkedRequest) → ReadsOn m n → AllStay m rs → AllKept n rs
all_kept_then m n [] on all = tt
all_kept_then m n (r ∷ rs) on all = (kept_then m n r.envelope.request on all.0.kept, all_kept_then m n rs on all.1)

-- and stays held, where what was committed stays
pub all_stay_then : (m n : Machine) (rs : List ParkedRequest) → ReadsOn m n → n.past ≡ m.past → AllStay m rs → AllStay n rs
all_stay_then m n [] on past all = tt
all_stay_then m n (r ∷ rs) on past all = (stays_then m n r.envelope.request on past all.0, all_stay_then m n rs on past all.1)

-- a compaction, what is done to targets, and a session that leaves, leave that as it is
pub all_compacted : (m : Machine) (to : ℤ) (rs : List ParkedRequest) → AllStay m rs → AllStay (compacted m to) rs
all_compacted m to [] all = tt
all_compacted m to (r ∷ rs) all = (record { kept = all.0.kept; room = all.0.room }, all_compacted m to rs all.1)

pub all_beside : (m n : Machine) (rs : List ParkedRequest) → AllStay m rs → AllStay (beside_listening m n) rs
all_beside m n [] all = tt
all_beside m n (r ∷ rs) all = (record { kept = all.0.kept; room = all.0.room }, all_beside m n rs all.1)

pub all_departed : (m : Machine) (number : ℕ) (rs : List ParkedRequest) → AllStay m rs → AllStay (departed m number) rs
all_departed m number [] all = tt
all_departed m number (r ∷ rs) all = (record { kept = all.0.kept; room = all.0.room }, all_departed m number rs all.1)

none_stays : (m : Machine) (rs : List ParkedRequest) → keeps_waiting m ≡ false → AllStay m rs → rs ≡ []
none_stays m [] none all = refl
none_stays m (r ∷ rs) none all = absurd (kept_none m.config.mode m.txns.open r.envelope.request none all.0.kept)

-- so nobody waits where no transaction keeps anybody
pub nobody_waits : (m : Machine) → IsSettled m → keeps_waiting m ≡ false → m.parked ≡ []
nobody_waits m settled none = none_stays m m.parked none (all_stay m m.parked settled.released settled.held)
