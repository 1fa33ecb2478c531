-- Of two transactions that are open at once, each of which writes what the other has read, not both are committed.
use Rattle.std.proofs.Common.{◌≡◌, ◌⊎◌, inl, inr, ℕ, ℤ, ◌≤ℤ◌, ◌<ℤ◌, ◌≤◌, Bool, true, false, cond, List, [], ◌∷◌, ◌++◌, Option, Some, None, Result, Ok, Err, refl, sym, ap, ◌∙◌, subst, arith}
use Rattle.std.specs.Prelude.{◌+◌, ◌&&◌, ◌==◌, pos, negsuc, int_lt, not, slice_get, unwrap_or}
use Rattle.std.specs.List.{AllByRecursion, Contains, filter}
use Rattle.std.proofs.lemmas.Bool.{and_from, eqb-false, eqb-true, or_left}
use Rattle.std.proofs.lemmas.Int.{ints}
use Rattle.std.proofs.lemmas.List.Elements.{All-contains, All-contains_itself, All-from_recursion, All-weaker, Contains-append_left, Contains-append_right, Contains-push_cases, recursion_from_All}
use Rattle.std.proofs.lemmas.List.Folds.{list_any-append}
use Rattle.std.proofs.lemmas.Option.{same_Some}
use Rattle.fs_history.specs.Touches.{some_touched, touched}
use Rattle.fs_history.specs.declared.batch.Batch.{Batch}
use Rattle.fs_history.specs.declared.read.Read.{Read}
use Rattle.fs_request.specs.declared.options.TransactionOptions.{TransactionOptions}
use Rattle.fs_request.specs.declared.request.Request.{Request}
use Rattle.fs_request.specs.declared.request.Request.TheVariants.{Commit, GetDocument, BatchGetDocuments, RunQuery, BeginTransaction, Rollback, AddTarget, RemoveTarget}
use Rattle.fs_request.specs.declared.request.Request.TheVariants as request
use Rattle.fs_request.specs.declared.when.When.{When}
use Rattle.fs_request.specs.declared.when.When.TheVariants.{Released, At, In}
use Rattle.fs_status.specs.declared.refusal.Refusal.{Refusal}
use Rattle.fs_txn.specs.Expiry.{is_over}
use Rattle.fs_txn.specs.Transactions.{Transactions, all_noted, is_read_write, noted, txn_of}
use Rattle.fs_txn.specs.declared.txn.Txn.{Txn}
use Rattle.fs_write.specs.Batch.{Docs}
use Rattle.fs_write.specs.declared.write.Write.{Write}
use Rattle.fs_write.specs.declared.write_result.WriteResult.{WriteResult}
use Rattle.fs_machine.specs.Commit.{committed, committed_in, committed_unless, next_commit, past_prepared}
use Rattle.fs_machine.specs.Compact.{first_asked, past_compacted}
use Rattle.fs_machine.specs.Conflict.{conflict, is_reader, others}
use Rattle.fs_machine.specs.Event.{Event, after, step}
use Rattle.fs_machine.specs.Facts.{Facts}
use Rattle.fs_machine.specs.IdsAreDrawn.{counted, times, times_in, times_open}
use Rattle.fs_machine.specs.NotBothCommit.{IsCommitted, IsOpenReadWrite, NotBothCommit}
use Rattle.fs_machine.specs.Numbered.{draws}
use Rattle.fs_machine.specs.Open.{is_full, with_session}
use Rattle.fs_machine.specs.Past.{Past, batches}
use Rattle.fs_machine.specs.Read.{read_in, shown_at}
use Rattle.fs_machine.specs.Refusing.{next_time}
use Rattle.fs_machine.specs.Release.{past_released}
use Rattle.fs_machine.specs.Request.{Decision, arrival_refusal, arrived, arrives, asked, asked_unless, carried_by, comes, decision, taken_unless, unless_full}
use Rattle.fs_machine.specs.Retry.{retried_if, retry_decision, tried, unparked}
use Rattle.fs_machine.specs.Settle.{decided_if, decided_with, dropped_from, outcome_of, past_decided, pending_of}
use Rattle.fs_machine.specs.State.{Machine}
use Rattle.fs_machine.specs.Tick.{past_advanced}
use Rattle.fs_machine.specs.Transact.{kind_of, time_asked, with_begun, with_ended}
use Rattle.fs_machine.specs.TransactionsHold.{TransactionsHold}
use Rattle.fs_machine.specs.UnreleasedRise.{UnreleasedRise}
use Rattle.fs_machine.specs.declared.config.Mode.{Mode}
use Rattle.fs_machine.specs.declared.config.Mode.TheVariants.{Pessimistic, Optimistic}
use Rattle.fs_machine.specs.declared.parked_request.ParkedRequest.{ParkedRequest}
use Rattle.fs_machine.specs.declared.unreleased.Unreleased.{Unreleased}
use Rattle.fs_machine.proofs.Batches.{all_dropped}
use Rattle.fs_machine.proofs.Carried.{drawn_count, drawn_later, number_open, own_or_drawn}
use Rattle.fs_machine.proofs.Holding.{Holds}
use Rattle.fs_machine.proofs.IdsAreDrawn.{open_ended, parked_less}
use Rattle.fs_machine.proofs.Listening.{loaded_rest, raised_rest}
use Rattle.fs_machine.proofs.Moved.{moved}
use Rattle.fs_machine.proofs.OldNumbers.{IsOld, counted_own, not_counted, stays_old}
use Rattle.fs_machine.proofs.Pending.{same_batches}
use Rattle.fs_machine.proofs.Refused.{was_drawn}
use Rattle.fs_machine.proofs.Runs.{keeps}
use Rattle.fs_machine.proofs.Streaming.{arrived_number, streamed_rest, taken_rest}
use Rattle.fs_machine.proofs.TransactionsHold.{all_changed, all_left, all_open, all_put, each, none_passes, noted_keeps, with_noted}
use Rattle.fs_machine.proofs.UnreleasedRise.{rise_within}

-- ---- what is committed, after an event

-- as many of a number are, or fewer
abbrev NoMore : Past → Past → ℕ → Type 0
NoMore p q id = (b : Batch) → IsCommitted q b → b.id ≡ id → IsCommitted p b

batches_more : (us : List Unreleased) (u : Unreleased) → batches (us ++ u ∷ []) ≡ batches us ++ u.batch ∷ []
batches_more [] u = refl
batches_more (v ∷ us) u = ap (λ bs. v.batch ∷ bs) (batches_more us u)

prepared_is : (p : Past) (u : Unreleased) (b : Batch) → IsCommitted (past_prepared p u) b → IsCommitted p b ⊎ (u.batch ≡ b)
prepared_is p u b (inl at) = inl (inl at)
prepared_is p u b (inr at) = either (Contains-push_cases (batches p.unreleased) u.batch b (subst (λ (bs : List Batch). Contains bs b) (batches_more p.unreleased u) at)) where
  either : Contains (batches p.unreleased) b ⊎ (u.batch ≡ b) → IsCommitted p b ⊎ (u.batch ≡ b)
  either (inl there) = inl (inr there)
  either (inr is) = inr is

prepared_no_more : (p : Past) (u : Unreleased) (id : ℕ) → (u.batch.id ≡ id → ⊥) → NoMore p (past_prepared p u) id
prepared_no_more p u id other b at is = either (prepared_is p u b at) where
  either : IsCommitted p b ⊎ (u.batch ≡ b) → IsCommitted p b
  either (inl there) = there
  either (inr same) = absurd (other (ap (λ (x : Batch). x.id) same ∙ is))

own : (bs : List Batch) → AllByRecursion (Contains bs) bs
own bs = recursion_from_All (Contains bs) bs (All-contains_itself bs)

holds_of : (P : Batch → Type 0) (bs : List Batch) (b : Batch) → AllByRecursion P bs → Contains bs b → P b
holds_of P bs b all at = All-contains P bs b (All-from_recursion P bs all) at

decided_no_more : (p : Past) (u : Unreleased) (r : Result (Docs × List WriteResult) Refusal) (id : ℕ) → NoMore p (past_decided p u r) id
decided_no_more p u (Ok done) id b (inl at) is = inl at
decided_no_more p u (Ok done) id b (inr at) is = inr (subst (λ (bs : List Batch). Contains bs b) (same_batches p.unreleased u.batch.id done.1) at)
decided_no_more p u (Err refusal) id b (inl at) is = inl at
decided_no_more p u (Err refusal) id b (inr at) is =
    inr (holds_of (Contains (batches p.unreleased)) (batches (dropped_from u.batch.id p.unreleased)) b
    (all_dropped (Contains (batches p.unreleased)) p.unreleased u.batch.id (own (batches p.unreleased))) at)

all_committed : (p : Past) → AllByRecursion (IsCommitted p) p.history × AllByRecursion (IsCommitted p) (batches p.unreleased)
all_committed p = (
  recursion_from_All (IsCommitted p) p.history (All-weaker (Contains p.history) (IsCommitted p) (λ b at. inl at) p.history (All-contains_itself p.history)),
  recursion_from_All (IsCommitted p) (batches p.unreleased) (All-weaker (Contains (batches p.unreleased)) (IsCommitted p) (λ b at. inr at) (batches p.unreleased) (All-contains_itself (batches p.unreleased))),
)

released_no_more : (p : Past) (id : ℕ) → UnreleasedRise p → NoMore p (past_released p) id
released_no_more p id rises b at is = either at where
  both : AllByRecursion (IsCommitted p) (past_released p).history × AllByRecursion (IsCommitted p) (batches (past_released p).unreleased)
  both =
      moved (λ h us. AllByRecursion (IsCommitted p) h × AllByRecursion (IsCommitted p) (batches us)) (λ h u us accepted has. ((has.1.0, has.0), has.1.1))
      p.unreleased p.released p.last rises p.history (all_committed p)

  either : IsCommitted (past_released p) b → IsCommitted p b
  either (inl there) = holds_of (IsCommitted p) (past_released p).history b both.0 there
  either (inr there) = holds_of (IsCommitted p) (batches (past_released p).unreleased) b both.1 there

-- ---- an open transaction, and the commit of another

-- it writes nothing of what was read, in pessimistic mode; else it comes after the time of the reads
abbrev IsApart : Mode → Batch → ℤ → List Read → Type 0
IsApart Pessimistic b time rs = some_touched b.writes rs ≡ false
IsApart Optimistic b time rs = time <ℤ b.time

-- one that had made these reads, where another is committed meanwhile, if it is
record StaysApart (mode : Mode) (p : Past) (rs : List Read) (other : ℕ) (v : Txn) : Type 0 where
  kind : is_read_write v.kind ≡ true
  grown : (ws : List Write) → some_touched ws rs ≡ true → some_touched ws v.reads ≡ true
  apart : (b : Batch) → IsCommitted p b → b.id ≡ other → IsApart mode b v.read_time rs

abbrev Keeps : Mode → Past → ℕ → List Read → ℕ → Txn → Type 0
Keeps mode p id rs other v = v.id ≡ id → StaysApart mode p rs other v

apart_on_later : (mode : Mode) (p q : Past) (rs : List Read) (other : ℕ) (v : Txn) → NoMore p q other → StaysApart mode p rs other v → StaysApart mode q rs other v
apart_on_later mode p q rs other v less on = record { kind = on.kind; grown = on.grown; apart = λ b at is. on.apart b (less b at is) is }

keep_later : (mode : Mode) (p q : Past) (id : ℕ) (rs : List Read) (other : ℕ) (ts : List Txn) → NoMore p q other → AllByRecursion (Keeps mode p id rs other) ts → AllByRecursion (Keeps mode q id rs other) ts
keep_later mode p q id rs other ts less all = each (Keeps mode p id rs other) (Keeps mode q id rs other) ts (λ v keeps is. apart_on_later mode p q rs other v less (keeps is)) all

-- it reads more
more_touched : (ws : List Write) (rs : List Read) (r : Read) → some_touched ws rs ≡ true → some_touched ws (rs ++ r ∷ []) ≡ true
more_touched ws rs r is = list_any-append (touched ws) rs (r ∷ []) ∙ or_left (some_touched ws rs) _ is

with_more : (ws : List Write) (r : Read) (now : ℤ) (v : Txn) (b : Bool) → some_touched ws v.reads ≡ true
    → some_touched ws (record (cond b (record v { reads = v.reads ++ r ∷ [] }) v) { used = now }).reads ≡ true
with_more ws r now v true is = more_touched ws v.reads r is
with_more ws r now v false is = is

apart_on_noted : (mode : Mode) (p : Past) (rs : List Read) (other : ℕ) (v : Txn) (r : Read) (now : ℤ) → StaysApart mode p rs other v → StaysApart mode p rs other (with_noted r now v)
apart_on_noted mode p rs other v r now on =
    let same = noted_keeps r now v in
    record {
      kind = ap is_read_write same.0 ∙ on.kind;
      grown = λ ws is. with_more ws r now v (is_read_write v.kind) (on.grown ws is);
      apart = λ b at is. subst (λ (time : ℤ). IsApart mode b time rs) (sym same.1) (on.apart b at is);
    }

module _ (mode : Mode) (p : Past) (id : ℕ) (rs : List Read) (other : ℕ) where
  keep_used : (v : Txn) (now : ℤ) → Keeps mode p id rs other v → Keeps mode p id rs other (record v { used = now })
  keep_used v now keeps is = let on = keeps is in record { kind = on.kind; grown = on.grown; apart = on.apart }

  keep_noted : (v : Txn) (r : Read) (now : ℤ) → Keeps mode p id rs other v → Keeps mode p id rs other (with_noted r now v)
  keep_noted v r now keeps is = apart_on_noted mode p rs other v r now (keeps (sym (noted_keeps r now v).2 ∙ is))

  keep_all_noted : (ts : Transactions) (of : ℕ) (reads : List Read) (now : ℤ) → AllByRecursion (Keeps mode p id rs other) ts.open → AllByRecursion (Keeps mode p id rs other) (all_noted ts of reads now).open
  keep_all_noted ts of [] now all = all_changed (Keeps mode p id rs other) (λ v. record v { used = now }) ts.open of (λ v found keeps. keep_used v now keeps) all
  keep_all_noted ts of (r ∷ reads) now all =
      keep_all_noted (noted ts of r now) of reads now (all_changed (Keeps mode p id rs other) (with_noted r now) ts.open of (λ v found keeps. keep_noted v r now keeps) all)

-- ---- both of them

-- each goes on, if it is open, and not both are committed
record AreApart (mode : Mode) (p : Past) (ts : List Txn) (a : ℕ) (ra : List Read) (b : ℕ) (rb : List Read) : Type 0 where
  first : AllByRecursion (Keeps mode p a ra b) ts
  second : AllByRecursion (Keeps mode p b rb a) ts
  never : (x y : Batch) → IsCommitted p x → IsCommitted p y → x.id ≡ a → y.id ≡ b → some_touched x.writes rb ≡ true → some_touched y.writes ra ≡ true → ⊥

apart_swapped : (mode : Mode) (p : Past) (ts : List Txn) (a : ℕ) (ra : List Read) (b : ℕ) (rb : List Read) → AreApart mode p ts a ra b rb → AreApart mode p ts b rb a ra
apart_swapped mode p ts a ra b rb has = record { first = has.second; second = has.first; never = λ x y at there is of touches touched_by. has.never y x there at of is touched_by touches }

apart_later : (mode : Mode) (p q : Past) (ts : List Txn) (a : ℕ) (ra : List Read) (b : ℕ) (rb : List Read) → NoMore p q a → NoMore p q b → AreApart mode p ts a ra b rb → AreApart mode q ts a ra b rb
apart_later mode p q ts a ra b rb less_a less_b has = record {
  first = keep_later mode p q a ra b ts less_b has.first;
  second = keep_later mode p q b rb a ts less_a has.second;
  never = λ x y at there is of. has.never x y (less_a x at is) (less_b y there of) is of;
}

apart_left : (mode : Mode) (p : Past) (ts : List Txn) (a : ℕ) (ra : List Read) (b : ℕ) (rb : List Read) (test : Txn → Bool) → AreApart mode p ts a ra b rb → AreApart mode p (filter test ts) a ra b rb
apart_left mode p ts a ra b rb test has = record { first = all_left (Keeps mode p a ra b) test ts has.first; second = all_left (Keeps mode p b rb a) test ts has.second; never = has.never }

-- ---- one of them commits

-- what is left of the others, where none is in conflict with it
abbrev IsLeft : Mode → ℤ → List Write → Txn → Type 0
IsLeft Pessimistic last ws w = is_reader ws w ≡ false
IsLeft Optimistic last ws w = w.read_time ≤ℤ last

isnt_touched : (ws : List Write) (w : Txn) (rs : List Read) (b : Bool) → some_touched ws rs ≡ b → is_read_write w.kind ≡ true → (some_touched ws rs ≡ true → some_touched ws w.reads ≡ true) → is_reader ws w ≡ false → b ≡ false
isnt_touched ws w rs true is writes grown none = sym (and_from (is_read_write w.kind) (some_touched ws w.reads) writes (grown is)) ∙ none
isnt_touched ws w rs false is writes grown none = refl

left_apart : (mode : Mode) (p : Past) (u : Unreleased) (rs : List Read) (other : ℕ) (w : Txn) → u.batch.time ≡ next_time p → IsLeft mode p.last u.batch.writes w → StaysApart mode p rs other w → IsApart mode u.batch w.read_time rs
left_apart Pessimistic p u rs other w at left on = isnt_touched u.batch.writes w rs (some_touched u.batch.writes rs) refl on.kind (on.grown u.batch.writes) left
left_apart Optimistic p u rs other w at left on = omega (arith, ints, at, left)

past_apart : (mode : Mode) (p : Past) (u : Unreleased) (rs : List Read) (other : ℕ) (w : Txn) (b : Batch) → u.batch.time ≡ next_time p → IsLeft mode p.last u.batch.writes w → StaysApart mode p rs other w → b.id ≡ other
    → IsCommitted p b ⊎ (u.batch ≡ b) → IsApart mode b w.read_time rs
past_apart mode p u rs other w b at left on is (inl there) = on.apart b there is
past_apart mode p u rs other w b at left on is (inr same) = subst (λ (x : Batch). IsApart mode x w.read_time rs) same (left_apart mode p u rs other w at left on)

apart_on_past : (mode : Mode) (p : Past) (u : Unreleased) (rs : List Read) (other : ℕ) (w : Txn) → u.batch.time ≡ next_time p → IsLeft mode p.last u.batch.writes w → StaysApart mode p rs other w → StaysApart mode (past_prepared p u) rs other w
apart_on_past mode p u rs other w at left on = record { kind = on.kind; grown = on.grown; apart = λ b there is. past_apart mode p u rs other w b at left on is (prepared_is p u b there) }

keep_past : (mode : Mode) (p : Past) (u : Unreleased) (id : ℕ) (rs : List Read) (other : ℕ) (ts : List Txn) → u.batch.time ≡ next_time p → AllByRecursion (IsLeft mode p.last u.batch.writes) ts
    → AllByRecursion (Keeps mode p id rs other) ts → AllByRecursion (Keeps mode (past_prepared p u) id rs other) ts
keep_past mode p u id rs other [] at left all = tt
keep_past mode p u id rs other (w ∷ ts) at left all = (λ is. apart_on_past mode p u rs other w at left.0 (all.0 is), keep_past mode p u id rs other ts at left.1 all.1)

read_by : (mode : Mode) (p : Past) (ts : List Txn) → UnreleasedRise p → TransactionsHold mode p ts → AllByRecursion (λ (w : Txn). w.read_time ≤ℤ p.last) ts
read_by mode p [] rises holds = tt
read_by mode p (w ∷ ts) rises holds =
    let within = rise_within p.unreleased p.released p.last rises in
    let by = holds.0.released in
    (omega (arith, ints, within, by), read_by mode p ts rises holds.1)

all_left_by : (mode : Mode) (p : Past) (ts : List Txn) (v : Txn) (ws : List Write) → conflict mode p ts v ws ≡ None → UnreleasedRise p → TransactionsHold mode p ts → AllByRecursion (IsLeft mode p.last ws) (others v.id ts)
all_left_by Pessimistic p ts v ws free rises holds = none_passes (λ w. w.id) (is_reader ws) (others v.id ts) free
all_left_by Optimistic p ts v ws free rises holds = all_left (λ (w : Txn). w.read_time ≤ℤ p.last) (λ w. not (w.id == v.id)) ts (read_by Optimistic p ts rises holds)

there_too : (p : Past) (b : Batch) → IsCommitted p b → Contains (batches p.unreleased ++ p.history) b
there_too p b (inl at) = Contains-append_right (batches p.unreleased) p.history b at
there_too p b (inr at) = Contains-append_left (batches p.unreleased) p.history b at

later_touched : (time : ℤ) (b : Batch) (x : Bool) → time <ℤ b.time → x ≡ true → (int_lt time b.time && x) ≡ false → ⊥
later_touched time b x later is none = grind (arith, ints)

-- it would have been in conflict with the other's
own_conflict : (mode : Mode) (p : Past) (ts : List Txn) (v : Txn) (ws : List Write) (rs : List Read) (other : ℕ) (b : Batch) → conflict mode p ts v ws ≡ None → StaysApart mode p rs other v → IsCommitted p b → b.id ≡ other
    → some_touched b.writes rs ≡ true → ⊥
own_conflict Pessimistic p ts v ws rs other b free on at is touches = let apart = on.apart b at is in absurd (cc)
own_conflict Optimistic p ts v ws rs other b free on at is touches =
    let none = none_passes (λ (x : Batch). x.id) (λ (x : Batch). int_lt v.read_time x.time && some_touched x.writes v.reads) (batches p.unreleased ++ p.history) free in
    later_touched v.read_time b (some_touched b.writes v.reads) (on.apart b at is) (on.grown b.writes touches)
    (holds_of (λ (x : Batch). (int_lt v.read_time x.time && some_touched x.writes v.reads) ≡ false) (batches p.unreleased ++ p.history) b none (there_too p b at))

module _ (mode : Mode) (p : Past) (ts : List Txn) (v : Txn) (u : Unreleased) (ra : List Read) (b : ℕ) (rb : List Read) (free : conflict mode p ts v u.batch.writes ≡ None) (id : u.batch.id ≡ v.id) (at : u.batch.time ≡ next_time p)
    (rises : UnreleasedRise p) (holds : TransactionsHold mode p ts) (itself : Keeps mode p v.id ra b v) (other : v.id ≡ b → ⊥) where
  none_second : NoMore p (past_prepared p u) b
  none_second = prepared_no_more p u b (λ is. other (sym id ∙ is))

  never_both : AreApart mode p ts v.id ra b rb → (x y : Batch) → IsCommitted p x ⊎ (u.batch ≡ x) → IsCommitted p y → x.id ≡ v.id → y.id ≡ b → some_touched x.writes rb ≡ true → some_touched y.writes ra ≡ true → ⊥
  never_both has x y (inl here) there is of touches touched_by = has.never x y here there is of touches touched_by
  never_both has x y (inr same) there is of touches touched_by = own_conflict mode p ts v u.batch.writes ra b y free (itself refl) there of touched_by

  -- the first commits
  first_commits : AreApart mode p ts v.id ra b rb → AreApart mode (past_prepared p u) (others v.id ts) v.id ra b rb
  first_commits has = record {
    first = keep_later mode p (past_prepared p u) v.id ra b (others v.id ts) none_second (all_left (Keeps mode p v.id ra b) (λ w. not (w.id == v.id)) ts has.first);
    second =
        keep_past mode p u b rb v.id (others v.id ts) at (all_left_by mode p ts v u.batch.writes free rises holds) (all_left (Keeps mode p b rb v.id) (λ w. not (w.id == v.id)) ts has.second);
    never = λ x y here there is of. never_both has x y (prepared_is p u x here) (none_second y there of) is of;
  }

-- whichever of the two commits, or another
module _ (mode : Mode) (p : Past) (ts : List Txn) (v : Txn) (u : Unreleased) (free : conflict mode p ts v u.batch.writes ≡ None) (id : u.batch.id ≡ v.id) (at : u.batch.time ≡ next_time p)
    (rises : UnreleasedRise p) (holds : TransactionsHold mode p ts) (of : ℕ) (found : txn_of of ts ≡ Some v) where
  commits_if : (a : ℕ) (ra : List Read) (b : ℕ) (rb : List Read) → (a ≡ b → ⊥) → AreApart mode p ts a ra b rb → v.id ≡ a → AreApart mode (past_prepared p u) (others v.id ts) a ra b rb
  commits_if a ra b rb other has is =
      subst (λ (n : ℕ). AreApart mode (past_prepared p u) (others v.id ts) n ra b rb) is
      (first_commits mode p ts v u ra b rb free id at rises holds
      (subst (λ (n : ℕ). Keeps mode p n ra b v) (sym is) (all_open (Keeps mode p a ra b) ts of v found has.first)) (λ same. other (sym is ∙ same))
      (subst (λ (n : ℕ). AreApart mode p ts n ra b rb) (sym is) has))

  commits_apart : (a : ℕ) (ra : List Read) (b : ℕ) (rb : List Read) → (a ≡ b → ⊥) → AreApart mode p ts a ra b rb → AreApart mode (past_prepared p u) (others v.id ts) a ra b rb
  commits_apart a ra b rb other has = by_first (v.id == a) refl where
    by_second : (c : Bool) → (v.id == b) ≡ c → (v.id ≡ a → ⊥) → AreApart mode (past_prepared p u) (others v.id ts) a ra b rb
    by_second true is isnt =
        apart_swapped mode (past_prepared p u) (others v.id ts) b rb a ra (commits_if b rb a ra (λ same. other (sym same)) (apart_swapped mode p ts a ra b rb has) (eqb-true v.id b is))
    by_second false is isnt =
        apart_left mode (past_prepared p u) ts a ra b rb (λ w. not (w.id == v.id))
        (apart_later mode p (past_prepared p u) ts a ra b rb (prepared_no_more p u a (λ same. isnt (sym id ∙ same))) (prepared_no_more p u b (λ same. eqb-false v.id b is (sym id ∙ same))) has)

    by_first : (c : Bool) → (v.id == a) ≡ c → AreApart mode (past_prepared p u) (others v.id ts) a ra b rb
    by_first true is = commits_if a ra b rb other has (eqb-true v.id a is)
    by_first false is = by_second (v.id == b) refl (λ same. eqb-false v.id a is same)

-- ---- events

module _ (a : ℕ) (ra : List Read) (b : ℕ) (rb : List Read) (other : a ≡ b → ⊥) where
  abbrev Apart : Machine → Type 0
  Apart m = AreApart m.config.mode m.past m.txns.open a ra b rb

  -- what a request draws is the number of neither
  abbrev DrawsOther : ParkedRequest → Request → Type 0
  DrawsOther r q = (drawn_count a r q ≡ 0) × (drawn_count b r q ≡ 0)

  plain_apart : (m : Machine) (r : ParkedRequest) (ws : List Write) → (r.id ≡ a → ⊥) → (r.id ≡ b → ⊥) → Apart m → Apart (committed m r ws None)
  plain_apart m r ws isnt_a isnt_b has =
      let u = next_commit m.past r.id r ws [] in
      apart_later m.config.mode m.past (past_prepared m.past u) m.txns.open a ra b rb (prepared_no_more m.past u a isnt_a) (prepared_no_more m.past u b isnt_b) has

  ended_apart : (m : Machine) (id : ℕ) → Apart m → Apart (with_ended m id)
  ended_apart m id has = apart_left m.config.mode m.past m.txns.open a ra b rb (λ w. not (w.id == id)) has

  unless_apart : (m : Machine) (r : ParkedRequest) (ws : List Write) (t : Txn) (of : ℕ) (found : Option ℕ) → conflict m.config.mode m.past m.txns.open t ws ≡ found → txn_of of m.txns.open ≡ Some t → Holds m → Apart m
      → Apart (committed_unless m r ws t found)
  unless_apart m r ws t of (Some with_id) is here holds has = ended_apart m t.id has
  unless_apart m r ws t of None is here holds has =
      commits_apart m.config.mode m.past m.txns.open t (next_commit m.past t.id r ws t.reads) is refl refl holds.past.unreleased holds.txns of here a ra b rb other has

  if_apart : (m : Machine) (r : ParkedRequest) (ws : List Write) (t : Txn) (of : ℕ) (c : Bool) → txn_of of m.txns.open ≡ Some t → Holds m → Apart m
      → Apart (cond c (committed_unless m r ws t (conflict m.config.mode m.past m.txns.open t ws)) (with_ended m t.id))
  if_apart m r ws t of true here holds has = unless_apart m r ws t of (conflict m.config.mode m.past m.txns.open t ws) refl here holds has
  if_apart m r ws t of false here holds has = ended_apart m t.id has

  in_apart : (m : Machine) (r : ParkedRequest) (ws : List Write) (of : ℕ) (found : Option Txn) → txn_of of m.txns.open ≡ found → Holds m → Apart m → Apart (committed_in m r ws found)
  in_apart m r ws of None here holds has = has
  in_apart m r ws of (Some t) here holds has = if_apart m r ws t of (is_read_write t.kind) here holds has

  read_apart : (m : Machine) (when : When) (q : Request) → Apart m → Apart (read_in m when q)
  read_apart m Released q has = has
  read_apart m (At time) q has = has
  read_apart m (In id) q has = record {
    first = keep_all_noted m.config.mode m.past a ra b m.txns id (shown_at m (In id) q) m.past.moment has.first;
    second = keep_all_noted m.config.mode m.past b rb a m.txns id (shown_at m (In id) q) m.past.moment has.second;
    never = has.never;
  }

  begun_apart : (m : Machine) (id : ℕ) (o : TransactionOptions) → (id ≡ a → ⊥) → (id ≡ b → ⊥) → Apart m → Apart (with_begun m id o)
  begun_apart m id o isnt_a isnt_b has =
      let t : Txn = record { id = id; kind = kind_of o; read_time = unwrap_or (time_asked o) m.past.released; begun = m.past.moment; used = m.past.moment; reads = [] } in
      record {
        first = all_put (Keeps m.config.mode m.past a ra b) t m.txns.open (λ is. absurd (isnt_a is)) has.first;
        second = all_put (Keeps m.config.mode m.past b rb a) t m.txns.open (λ is. absurd (isnt_b is)) has.second;
        never = has.never;
      }

  carried_apart : (m : Machine) (r : ParkedRequest) (q : Request) → DrawsOther r q → Holds m → Apart m → Apart (carried_by m r q)
  carried_apart m r (Commit database ws None) draw holds has = plain_apart m r ws (not_counted a r.id draw.0) (not_counted b r.id draw.1) has
  carried_apart m r (Commit database ws (Some of)) draw holds has = in_apart m r ws of (txn_of of m.txns.open) refl holds has
  carried_apart m r (GetDocument name mask when) draw holds has = read_apart m when (GetDocument name mask when) has
  carried_apart m r (BatchGetDocuments database names mask when) draw holds has = read_apart m when (BatchGetDocuments database names mask when) has
  carried_apart m r (RunQuery database query when) draw holds has = read_apart m when (RunQuery database query when) has
  carried_apart m r (BeginTransaction database o) draw holds has = begun_apart m r.id o (not_counted a r.id draw.0) (not_counted b r.id draw.1) has
  carried_apart m r (Rollback database transaction) draw holds has = ended_apart m transaction has
  carried_apart m r (AddTarget database target t token) draw holds has = has
  carried_apart m r (RemoveTarget database (pos target)) draw holds has = has
  carried_apart m r (RemoveTarget database (negsuc target)) draw holds has = has
  carried_apart m r (request.Write database asked) draw holds has = subst Apart (sym (streamed_rest m r.session asked)) has

  arrives_apart : (m : Machine) (r : ParkedRequest) (d : Decision) → DrawsOther r r.envelope.request → Holds m → Apart m → Apart (arrives m r d)
  arrives_apart m r (Decision.refused refusal) draw holds has = has
  arrives_apart m r (Decision.held by) draw holds has = has
  arrives_apart m r Decision.goes_on draw holds has = carried_apart m r r.envelope.request draw holds has

  comes_apart : (m : Machine) (r : ParkedRequest) (d : Decision) → DrawsOther r r.envelope.request → Holds m → Apart m → Apart (comes m r d)
  comes_apart m r d draw holds has =
      let n = taken_unless d r.stream m in
      subst (λ (x : Machine). Apart (arrives x r d)) (sym (taken_rest d r.stream m))
      (arrives_apart (record m { streams = n.streams }) r d draw (record { past = holds.past; txns = holds.txns }) has)

  drawn_apart : (m : Machine) (r : ParkedRequest) (d : Decision) (c : Bool) → DrawsOther r r.envelope.request → Holds m → Apart m
      → Apart (comes (cond c (record m { numbers = record m.numbers { ids = m.numbers.ids + 1 } }) m) r d)
  drawn_apart m r d true draw holds has = comes_apart (record m { numbers = record m.numbers { ids = m.numbers.ids + 1 } }) r d draw (record { past = holds.past; txns = holds.txns }) has
  drawn_apart m r d false draw holds has = comes_apart m r d draw holds has

  asked_apart : (m : Machine) (r : ParkedRequest) (refusal : Option Refusal) → DrawsOther r r.envelope.request → Holds m → Apart m → Apart (asked_unless refusal m r)
  asked_apart m r (Some refusal) draw holds has = has
  asked_apart m r None draw holds has = drawn_apart m r (unless_full m (decision m r.session r.envelope.request)) (draws r.envelope.request) draw holds has

  tried_apart : (m : Machine) (place : ℕ) (r : ParkedRequest) (d : Decision) → DrawsOther r r.envelope.request → Holds m → Apart m → Apart (tried m place r d)
  tried_apart m place r (Decision.refused refusal) draw holds has = has
  tried_apart m place r (Decision.held by) draw holds has = has
  tried_apart m place r Decision.goes_on draw holds has = carried_apart (unparked m place) r r.envelope.request draw (record { past = holds.past; txns = holds.txns }) has

  tried_draws : (m : Machine) (place : ℕ) (r : ParkedRequest) (id : ℕ) → slice_get m.parked place ≡ Some r → IsOld id m → drawn_count id r r.envelope.request ≡ 0
  tried_draws m place r id is old =
      let less = parked_less id m.parked place r is in
      let drawn = own_or_drawn id r r.envelope.request in
      let none = old.0 in
      omega (arith, less, drawn, none)

  retried_apart : (m : Machine) (place : ℕ) (found : Option ParkedRequest) → slice_get m.parked place ≡ found → IsOld a m → IsOld b m → Holds m → Apart m → Apart (retried_if m place found)
  retried_apart m place None is old_a old_b holds has = has
  retried_apart m place (Some r) is old_a old_b holds has =
      tried_apart m place r (retry_decision m r.session r.envelope.request) (tried_draws m place r a is old_a, tried_draws m place r b is old_b) holds has

  opened_apart : (m : Machine) (full : Bool) → Apart m → Apart (cond full m (with_session m))
  opened_apart m true has = has
  opened_apart m false has = has

  decided_apart : (m : Machine) (u : Unreleased) (r : Result (Docs × List WriteResult) Refusal) → Apart m → Apart (decided_with m u r)
  decided_apart m u (Ok done) has =
      apart_later m.config.mode m.past (past_decided m.past u (Ok done)) m.txns.open a ra b rb (decided_no_more m.past u (Ok done) a) (decided_no_more m.past u (Ok done) b) has
  decided_apart m u (Err refusal) has =
      apart_later m.config.mode m.past (past_decided m.past u (Err refusal)) m.txns.open a ra b rb (decided_no_more m.past u (Err refusal) a) (decided_no_more m.past u (Err refusal) b) has

  if_decided : (m : Machine) (found : Option Unreleased) → Apart m → Apart (decided_if m found)
  if_decided m None has = has
  if_decided m (Some u) has = decided_apart m u (outcome_of m.past u) has

  apart_on : (m : Machine) (e : Event) → Facts m → IsOld a m → IsOld b m → Apart m → Apart (step m e)
  apart_on m Event.opening facts old_a old_b has = opened_apart m (is_full m) has
  apart_on m (Event.leaving session) facts old_a old_b has = has
  apart_on m (Event.asking session e) facts old_a old_b has =
      let r = arrived m session e in
      let number = arrived_number m session e in
      asked_apart m r (arrival_refusal m session e.request) (drawn_later m r a number old_a.1, drawn_later m r b number old_b.1) (record { past = facts.past; txns = facts.txns }) has
  apart_on m (Event.retrying place) facts old_a old_b has = retried_apart m place (slice_get m.parked place) refl old_a old_b (record { past = facts.past; txns = facts.txns }) has
  apart_on m (Event.deciding id) facts old_a old_b has = if_decided m (pending_of m.past id) has
  apart_on m (Event.advancing now) facts old_a old_b has =
      apart_left m.config.mode (past_advanced m.past now) m.txns.open a ra b rb (λ t. not (is_over now t))
      (apart_later m.config.mode m.past (past_advanced m.past now) m.txns.open a ra b rb (λ x at is. at) (λ x at is. at) has)
  apart_on m Event.releasing facts old_a old_b has =
      apart_later m.config.mode m.past (past_released m.past) m.txns.open a ra b rb (released_no_more m.past a facts.past.unreleased) (released_no_more m.past b facts.past.unreleased) has
  apart_on m (Event.compacting to) facts old_a old_b has =
      apart_later m.config.mode m.past (past_compacted m.past (first_asked m) to) m.txns.open a ra b rb (λ x at is. at) (λ x at is. at) has
  apart_on m (Event.loading session target at) facts old_a old_b has = subst Apart (sym (loaded_rest m session target at)) has
  apart_on m (Event.matching shard to) facts old_a old_b has = has
  apart_on m (Event.raising session) facts old_a old_b has = subst Apart (sym (raised_rest m session)) has
  apart_on m (Event.taking session) facts old_a old_b has = has

  apart_after : (m : Machine) (es : List Event) → Facts m → IsOld a m → IsOld b m → Apart m → Apart (after m es)
  apart_after m [] facts old_a old_b has = has
  apart_after m (e ∷ es) facts old_a old_b has =
      apart_after (step m e) es (keeps m e facts) (stays_old a m old_a e) (stays_old b m old_b e) (apart_on m e facts old_a old_b has)

-- ---- while both are open

none_open : (ts : List Txn) (id : ℕ) (t : Txn) → times_open id ts ≡ 0 → AllByRecursion (λ (v : Txn). v.id ≡ id → v ≡ t) ts
none_open [] id t none = tt
none_open (v ∷ ts) id t none = (λ is. absurd (not_counted id v.id (omega (arith, none)) is), none_open ts id t (omega (arith, none)))

one_next : (v : Txn) (ts : List Txn) (id : ℕ) (t : Txn) (c : Bool) → (v.id == id) ≡ c → cond c (Some v) (txn_of id ts) ≡ Some t → counted id v.id + times_open id ts ≤ 1
    → (txn_of id ts ≡ Some t → times_open id ts ≤ 1 → AllByRecursion (λ (x : Txn). x.id ≡ id → x ≡ t) ts) → (v.id ≡ id → v ≡ t) × AllByRecursion (λ (x : Txn). x.id ≡ id → x ≡ t) ts
one_next v ts id t true is found few more = let one = counted_own id v.id (eqb-true v.id id is) in (λ same. same_Some v t found, none_open ts id t (omega (arith, one, few)))
one_next v ts id t false is found few more = (λ same. absurd (eqb-false v.id id is same), more found (omega (arith, few)))

-- no other open one has its number
one_open : (ts : List Txn) (id : ℕ) (t : Txn) → txn_of id ts ≡ Some t → times_open id ts ≤ 1 → AllByRecursion (λ (v : Txn). v.id ≡ id → v ≡ t) ts
one_open [] id t found few = tt
one_open (v ∷ ts) id t found few = one_next v ts id t (v.id == id) refl found few (one_open ts id t)

some_open : (ts : List Txn) (id : ℕ) (t : Txn) → txn_of id ts ≡ Some t → 1 ≤ times_open id ts
some_open ts id t found =
    let less = open_ended id ts id t found in
    let one = counted_own id t.id (number_open ts id t found) in
    omega (arith, less, one)

no_batch : (bs : List Batch) (id : ℕ) → times_in id bs ≡ 0 → AllByRecursion (λ (x : Batch). x.id ≡ id → ⊥) bs
no_batch [] id none = tt
no_batch (x ∷ bs) id none = (λ is. not_counted id x.id (omega (arith, none)) is, no_batch bs id (omega (arith, none)))

module _ (m : Machine) (facts : Facts m) (id : ℕ) (t : Txn) (found : txn_of id m.txns.open ≡ Some t) where
  there : 1 ≤ times_open id m.txns.open
  there = some_open m.txns.open id t found

  no_commit : (x : Batch) → IsCommitted m.past x → x.id ≡ id → ⊥
  no_commit x (inl at) is =
      let few = (facts.ids id).0 in let some = there in
      holds_of (λ (y : Batch). y.id ≡ id → ⊥) m.past.history x (no_batch m.past.history id (omega (arith, few, some))) at is
  no_commit x (inr at) is =
      let few = (facts.ids id).0 in let some = there in
      holds_of (λ (y : Batch). y.id ≡ id → ⊥) (batches m.past.unreleased) x (no_batch (batches m.past.unreleased) id (omega (arith, few, some))) at is

  pub open_is_old : IsOld id m
  open_is_old =
      let few = (facts.ids id).0 in let some = there in
      (omega (arith, few, some), was_drawn id m.numbers.ids (times id m.past m.txns m.parked) (omega (arith, some)) (facts.ids id).1)

  pub only_open : AllByRecursion (λ (v : Txn). v.id ≡ id → v ≡ t) m.txns.open
  only_open = let few = (facts.ids id).0 in one_open m.txns.open id t found (omega (arith, few))

open_keeps : (m : Machine) (facts : Facts m) (a b : ℕ) (t u : Txn) → IsOpenReadWrite m a t → IsOpenReadWrite m b u → AllByRecursion (Keeps m.config.mode m.past a t.reads b) m.txns.open
open_keeps m facts a b t u first second =
    let on : StaysApart m.config.mode m.past t.reads b t = record { kind = first.kind; grown = λ ws is. is; apart = λ x at is. absurd (no_commit m facts b u second.found x at is) } in
    each (λ (v : Txn). v.id ≡ a → v ≡ t) (Keeps m.config.mode m.past a t.reads b) m.txns.open (λ v same is. subst (StaysApart m.config.mode m.past t.reads b) (sym (same is)) on)
    (only_open m facts a t first.found)

pub not_both_commit : NotBothCommit
not_both_commit m es a b t u x y facts other first second of_a of_b touches touched_by =
    let begins : AreApart m.config.mode m.past m.txns.open a t.reads b u.reads = record {
      first = open_keeps m facts a b t u first second;
      second = open_keeps m facts b a u t second first;
      never = λ v w at there is of touch touched. no_commit m facts a t first.found v at is;
    } in
    let ends = apart_after a t.reads b u.reads other m es facts (open_is_old m facts a t first.found) (open_is_old m facts b u second.found) begins in
    ends.never x y of_a.committed of_b.committed of_a.number of_b.number touches touched_by
