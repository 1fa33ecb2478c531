-- The document of a name stays through each thing that a line is made of, where nothing under way writes it, and no request does.
use Rattle.std.proofs.Common.{◌≡◌, ℕ, ℤ, Bool, true, false, cond, List, [], ◌∷◌, Option, Some, None, Result, Ok, Err, refl, sym, ap, ◌∙◌, subst}
use Rattle.std.specs.Prelude.{not, remove, slice_get}
use Rattle.std.specs.FinMap.{get}
use Rattle.std.specs.List.{AllByRecursion, list_any}
use Rattle.std.proofs.lemmas.Bool.{or_parts}
use Rattle.fs_path.specs.declared.name.DocName.{DocName}
use Rattle.fs_json.specs.declared.bad.Bad.{Bad}
use Rattle.fs_history.specs.History.{whole}
use Rattle.fs_history.specs.declared.batch.Batch.{Batch}
use Rattle.fs_request.specs.declared.request.Envelope.{Envelope}
use Rattle.fs_request.specs.declared.request.Request.{Request}
use Rattle.fs_status.specs.declared.refusal.Refusal.{Refusal}
use Rattle.fs_value.specs.declared.document.Document.{Document}
use Rattle.fs_write.specs.After.{after_batch}
use Rattle.fs_write.specs.Batch.{Docs}
use Rattle.fs_write.specs.WrittenName.{is_written}
use Rattle.fs_write.specs.declared.write.Write.{Write}
use Rattle.fs_write.specs.declared.write_result.WriteResult.{WriteResult}
use Rattle.fs_machine.specs.Commit.{next_commit}
use Rattle.fs_machine.specs.Leave.{is_own}
use Rattle.fs_machine.specs.Past.{Past}
use Rattle.fs_machine.specs.Release.{free_to, freed, is_freed, joined, released}
use Rattle.fs_machine.specs.Request.{Decision, answer_by, answered, arrived, asked, carried, decision, retry_refusal, with_parked}
use Rattle.fs_machine.specs.Retry.{retried, retry_decision, tried, unparked}
use Rattle.fs_machine.specs.Settle.{accepted_in, decided, decided_if, decided_with, dropped_from, is_it, outcome_of, pending_of, settled}
use Rattle.fs_machine.specs.State.{Machine}
use Rattle.fs_machine.specs.Tick.{advanced}
use Rattle.fs_machine.specs.declared.answer.Answer.{Answer}
use Rattle.fs_machine.specs.declared.parked_request.ParkedRequest.{ParkedRequest}
use Rattle.fs_machine.specs.declared.unreleased.Unreleased.{Unreleased}
use Rattle.fs_machine.proofs.Behind.{none_any}
use Rattle.fs_machine.proofs.Carried.{carried_rest}
use Rattle.fs_machine.proofs.Holding.{decision_alike}
use Rattle.fs_replay.specs.Commits.{asked_writes, will_be_written, writes_of, writes_read}
use Rattle.fs_replay.specs.Step.{line_played}
use Rattle.fs_replay.specs.declared.request.Line.{Line}
use Rattle.fs_replay.specs.declared.request.Line.TheVariants as line
use Rattle.fs_replay.specs.declared.state.State.{State}
use Rattle.fs_replay.proofs.Becoming.{Becomes, asked_becomes, taken_beside, taken_on, with_numbers}
use Rattle.fs_replay.proofs.Each.{all_at, all_filtered, all_more, all_removed}
use Rattle.fs_replay.proofs.Falling.{retried_is}
use Rattle.fs_replay.proofs.Going.{Goes, carried_goes, passes}
use Rattle.fs_replay.proofs.Tellers.{arrived_writes}
use Rattle.fs_replay.proofs.Kept.{KeepsAll, MayAsk, MayRead, keeps_beside, line_kept}

-- a law of batches
abbrev pub Unwritten : Type 0
Unwritten = (docs : Docs) (ws : List Write) (t : ℤ) (n : DocName) → is_written n ws ≡ false → get (after_batch docs ws t) n ≡ get docs n

abbrev LeavesIt : DocName → Unreleased → Type 0
LeavesIt name u = is_written name u.batch.writes ≡ false

abbrev WillLeaveIt : DocName → ParkedRequest → Type 0
WillLeaveIt name r = is_written name (writes_of r.envelope.request) ≡ false

pub record Untouched (name : DocName) (found : Option Document) (m : Machine) : Type 0 where
  pub under_way : AllByRecursion (LeavesIt name) m.past.unreleased
  pub waiting : AllByRecursion (WillLeaveIt name) m.parked
  pub stays : get (whole m.past.history) name ≡ found

-- a request that doesn't write it
abbrev pub LeavesName : DocName → Request → Type 0
LeavesName name request = is_written name (writes_of request) ≡ false

module _ (unwritten : Unwritten) (name : DocName) (found : Option Document) where
  -- ---- a commit is settled, and some are released

  joined_leave : (us : List Unreleased) (h : List Batch) → AllByRecursion (LeavesIt name) us → get (whole (joined h us)) name ≡ get (whole h) name
  joined_leave [] h all = refl
  joined_leave (u ∷ us) h all = joined_leave us (u.batch ∷ h) all.1 ∙ unwritten (whole h) u.batch.writes u.batch.time name all.0

  released_leaves : (m : Machine) → Untouched name found m → Untouched name found (released m)
  released_leaves m is =
      let us = m.past.unreleased in
      let to = free_to m.past.last us in
      record {
        under_way = all_filtered (LeavesIt name) (λ u. not (is_freed to u)) us is.under_way;
        waiting = is.waiting;
        stays = joined_leave (freed to us) m.past.history (all_filtered (LeavesIt name) (is_freed to) us is.under_way) ∙ is.stays;
      }

  accepted_next : (u : Unreleased) (us : List Unreleased) (id : ℕ) (results : List WriteResult) (b : Bool) → LeavesIt name u → AllByRecursion (LeavesIt name) us → AllByRecursion (LeavesIt name) (accepted_in id results us)
      → AllByRecursion (LeavesIt name) (cond b (record u { results = Some results } ∷ us) (u ∷ accepted_in id results us))
  accepted_next u us id results true here all more = (here, all)
  accepted_next u us id results false here all more = (here, more)

  accepted_leave : (us : List Unreleased) (id : ℕ) (results : List WriteResult) → AllByRecursion (LeavesIt name) us → AllByRecursion (LeavesIt name) (accepted_in id results us)
  accepted_leave [] id results all = tt
  accepted_leave (u ∷ us) id results all = accepted_next u us id results (is_it id u) all.0 all.1 (accepted_leave us id results all.1)

  dropped_next : (u : Unreleased) (us : List Unreleased) (id : ℕ) (b : Bool) → LeavesIt name u → AllByRecursion (LeavesIt name) us → AllByRecursion (LeavesIt name) (dropped_from id us)
      → AllByRecursion (LeavesIt name) (cond b us (u ∷ dropped_from id us))
  dropped_next u us id true here all more = all
  dropped_next u us id false here all more = (here, more)

  dropped_leave : (us : List Unreleased) (id : ℕ) → AllByRecursion (LeavesIt name) us → AllByRecursion (LeavesIt name) (dropped_from id us)
  dropped_leave [] id all = tt
  dropped_leave (u ∷ us) id all = dropped_next u us id (is_it id u) all.0 all.1 (dropped_leave us id all.1)

  with_leaves : (m : Machine) (u : Unreleased) (r : Result (Docs × List WriteResult) Refusal) → Untouched name found m → Untouched name found (decided_with m u r)
  with_leaves m u (Ok done) is = record { under_way = accepted_leave m.past.unreleased u.batch.id done.1 is.under_way; waiting = is.waiting; stays = is.stays }
  with_leaves m u (Err refusal) is = record { under_way = dropped_leave m.past.unreleased u.batch.id is.under_way; waiting = is.waiting; stays = is.stays }

  if_leaves : (m : Machine) (pending : Option Unreleased) → Untouched name found m → Untouched name found (decided_if m pending)
  if_leaves m None is = is
  if_leaves m (Some u) is = with_leaves m u (outcome_of m.past u) is

  settled_leaves : (m : Machine) (id : ℕ) → Untouched name found m → Untouched name found (settled m id)
  settled_leaves m id is = released_leaves (decided m id) (if_leaves m (pending_of m.past id) is)

  -- ---- a request comes, or is tried again

  same_leaves : (m n : Machine) → n.past ≡ m.past → n.parked ≡ m.parked → Untouched name found m → Untouched name found n
  same_leaves m n same parked is = record {
    under_way = subst (λ (p : Past). AllByRecursion (LeavesIt name) p.unreleased) (sym same) is.under_way;
    waiting = subst (AllByRecursion (WillLeaveIt name)) (sym parked) is.waiting;
    stays = ap (λ (p : Past). get (whole p.history) name) same ∙ is.stays;
  }

  goes_leaves : (m n : Machine) (r : ParkedRequest) (writes : List Write) (a : Answer) → Goes r writes m.past n.past a → n.parked ≡ m.parked → is_written name writes ≡ false → Untouched name found m → Untouched name found n
  goes_leaves m n r writes a (Goes.answers same told) parked leaves is = same_leaves m n same parked is
  goes_leaves m n r writes a (Goes.repeats finished same told) parked leaves is = same_leaves m n same parked is
  goes_leaves m n r writes a (Goes.prepares id reads same told) parked leaves is = record {
    under_way = subst (λ (p : Past). AllByRecursion (LeavesIt name) p.unreleased) (sym same) (all_more (LeavesIt name) m.past.unreleased (next_commit m.past id r writes reads) is.under_way leaves);
    waiting = subst (AllByRecursion (WillLeaveIt name)) (sym parked) is.waiting;
    stays = ap (λ (p : Past). get (whole p.history) name) same ∙ is.stays;
  }

  carried_leaves : (m : Machine) (r : ParkedRequest) → decision m r.session r.envelope.request ≡ Decision.goes_on → WillLeaveIt name r → Untouched name found m → Untouched name found (carried m r)
  carried_leaves m r goes leaves is =
      let q = r.envelope.request in
      goes_leaves m (carried m r) r (writes_of q) (answer_by m r q) (carried_goes m r q goes) (ap (λ (n : Machine). n.parked) (carried_rest m r q)) leaves is

  left_leaves : (m : Machine) (place : ℕ) → Untouched name found m → Untouched name found (unparked m place)
  left_leaves m place is = record { under_way = is.under_way; waiting = all_removed (WillLeaveIt name) m.parked place is.waiting; stays = is.stays }

  tried_leaves : (m : Machine) (place : ℕ) (r : ParkedRequest) (d : Decision) → retry_decision m r.session r.envelope.request ≡ d → WillLeaveIt name r → Untouched name found m → Untouched name found (tried m place r d)
  tried_leaves m place r (Decision.refused refusal) at leaves is = let less = left_leaves m place is in record { under_way = less.under_way; waiting = less.waiting; stays = less.stays }
  tried_leaves m place r (Decision.held id) at leaves is = is
  tried_leaves m place r Decision.goes_on at leaves is =
      let q = r.envelope.request in
      let goes = decision_alike m m.numbers (remove m.parked place) r.session q ∙ (passes (retry_refusal m q) (decision m r.session q) at).1 in
      carried_leaves (unparked m place) r goes leaves (left_leaves m place is)

  retried_leaves : (m : Machine) (place : ℕ) (r : ParkedRequest) → slice_get m.parked place ≡ Some r → Untouched name found m → Untouched name found (retried m place)
  retried_leaves m place r at is =
      subst (Untouched name found) (sym (retried_is m place r at)) (tried_leaves m place r (retry_decision m r.session r.envelope.request) refl (all_at (WillLeaveIt name) m.parked place r at is.waiting) is)

  becomes_leaves : (m n : Machine) (r : ParkedRequest) (a : Answer) → WillLeaveIt name r → Untouched name found m → Becomes m r n a → Untouched name found n
  becomes_leaves m n r a leaves is (Becomes.refused k same told) = subst (Untouched name found) (sym same) (record { under_way = is.under_way; waiting = is.waiting; stays = is.stays })
  becomes_leaves m n r a leaves is (Becomes.held k by same told behind may) =
      let waits = all_more (WillLeaveIt name) m.parked r is.waiting leaves in
      subst (Untouched name found) (sym (same ∙ ap (λ (x : Machine). with_parked x r) (taken_beside (with_numbers m k) r.stream))) (record { under_way = is.under_way; waiting = waits; stays = is.stays })
  becomes_leaves m n r a leaves is (Becomes.goes_on k same told goes) =
      let on = subst (Untouched name found) (sym (taken_beside (with_numbers m k) r.stream)) (record { under_way = is.under_way; waiting = is.waiting; stays = is.stays }) in
      subst (Untouched name found) (sym same) (carried_leaves (taken_on m r k) r goes leaves on)

  asked_leaves : (m : Machine) (session : ℕ) (e : Envelope) → LeavesName name e.request → Untouched name found m → Untouched name found (asked m session e)
  asked_leaves m session e leaves is =
      becomes_leaves m (asked m session e) (arrived m session e) (answered m session e) (subst (λ ws. is_written name ws ≡ false) (sym (arrived_writes m session e)) leaves) is (asked_becomes m session e)

  -- ---- all that a line is made of

  untouched_all : KeepsAll (λ s. Untouched name found s.server) (LeavesName name)
  untouched_all = record {
    closes = record {
      by_settling = λ s id is. settled_leaves s.server id is;
      by_retrying = λ s place r at is. retried_leaves s.server place r at is;
      serving = keeps_beside (λ s. Untouched name found s.server) (λ s n is. record { under_way = is.under_way; waiting = is.waiting; stays = is.stays });
    };
    asking = record {
      by_opening = λ s of is. record { under_way = is.under_way; waiting = is.waiting; stays = is.stays };
      by_asking = λ s number e knows may is. asked_leaves s.server number e may is;
    };
    by_leaving = λ s number of at is. record {
      under_way = is.under_way;
      waiting = all_filtered (WillLeaveIt name) (λ r. not (is_own number r)) s.server.parked is.waiting;
      stays = is.stays;
    };
    by_ticking = λ s now is. released_leaves (advanced s.server now) (record { under_way = is.under_way; waiting = is.waiting; stays = is.stays });
    by_compacting = λ s to is. record { under_way = is.under_way; waiting = is.waiting; stays = is.stays };
    by_hand = λ s on is. is;
  }

-- ---- lines

may_read : (name : DocName) (r : Result Request Bad) → is_written name (writes_read r) ≡ false → MayRead (LeavesName name) r
may_read name (Ok request) leaves = leaves
may_read name (Err bad) leaves = tt

may_ask : (name : DocName) (l : Line) → is_written name (asked_writes l) ≡ false → MayAsk (LeavesName name) l
may_ask name line.Empty leaves = tt
may_ask name line.NotBuilt leaves = tt
may_ask name (line.Refused reason) leaves = tt
may_ask name (line.Asked a) leaves = may_read name a.request leaves
may_ask name (line.Clock time) leaves = tt
may_ask name (line.Compact time) leaves = tt
may_ask name (line.Leave of) leaves = tt
may_ask name (line.Manual on) leaves = tt
may_ask name (line.Settle id) leaves = tt
may_ask name line.Retry leaves = tt
may_ask name (line.Load of target at) leaves = tt
may_ask name (line.Match shard) leaves = tt
may_ask name (line.Raise of) leaves = tt

pub line_leaves : Unwritten → (name : DocName) (found : Option Document) (s : State) (n : ℕ) (l : Line) → is_written name (asked_writes l) ≡ false → Untouched name found s.server
    → Untouched name found (line_played s n l).state.server
line_leaves unwritten name found s n l leaves is = line_kept (λ t. Untouched name found t.server) (LeavesName name) (untouched_all unwritten name found) s n l (may_ask name l leaves) is

-- where nothing will write it
pub untouched : (name : DocName) (m : Machine) → will_be_written name m ≡ false → Untouched name (get (whole m.past.history) name) m
untouched name m will =
    let both = or_parts (list_any (λ u. is_written name u.batch.writes) m.past.unreleased) (list_any (λ r. is_written name (writes_of r.envelope.request)) m.parked) will in
    record { under_way = none_any (λ u. is_written name u.batch.writes) m.past.unreleased both.0; waiting = none_any (λ r. is_written name (writes_of r.envelope.request)) m.parked both.1; stays = refl }
