-- What each event keeps, and so each run.
use Rattle.std.proofs.Common.{◌≡◌, inl, inr, ℕ, ℤ, ◌≤ℤ◌, Bool, true, false, cond, List, [], ◌∷◌, map, Option, Some, None, Result, Ok, Err, refl, sym, ap, ◌∙◌, subst, arith}
use Rattle.std.specs.Prelude.{not, slice_get}
use Rattle.std.specs.Int.Signed.{≤ℤ_refl}
use Rattle.std.proofs.lemmas.Int.{ints}
use Rattle.fs_request.specs.declared.request.Envelope.{Envelope}
use Rattle.fs_txn.specs.Expiry.{expired_at, is_over}
use Rattle.fs_txn.specs.Reading.{oldest}
use Rattle.fs_listen.specs.Cuts.{least_position}
use Rattle.fs_status.specs.declared.refusal.Refusal.{Refusal}
use Rattle.fs_write.specs.Batch.{Docs}
use Rattle.fs_write.specs.declared.write_result.WriteResult.{WriteResult}
use Rattle.fs_history.proofs.Serial.{serial_is}
use Rattle.fs_history.specs.Serial.{IsSerial}
use Rattle.fs_machine.specs.declared.config.Config.{Config}
use Rattle.fs_machine.specs.declared.limits.Limits.{Limits}
use Rattle.fs_machine.specs.declared.parked_request.ParkedRequest.{ParkedRequest}
use Rattle.fs_machine.specs.declared.unreleased.Unreleased.{Unreleased}
use Rattle.fs_machine.specs.Compact.{earlier, first_asked, floor_after, past_compacted}
use Rattle.fs_machine.specs.Event.{Event, after, step}
use Rattle.fs_machine.specs.Facts.{Facts, PastFacts}
use Rattle.fs_machine.specs.Grows.{Grows}
use Rattle.fs_machine.specs.Leave.{of_others}
use Rattle.fs_machine.specs.Listeners.{Listener}
use Rattle.fs_machine.specs.Load.{loaded}
use Rattle.fs_machine.specs.Open.{is_full, with_session}
use Rattle.fs_machine.specs.Past.{Past, past_from}
use Rattle.fs_machine.specs.Raise.{raised}
use Rattle.fs_machine.specs.Release.{committed_out, past_released}
use Rattle.fs_machine.specs.Request.{arrival_refusal, arrived, asked}
use Rattle.fs_machine.specs.Retry.{retried_if}
use Rattle.fs_machine.specs.SessionsNumbered.{SessionsNumbered}
use Rattle.fs_machine.specs.Settle.{decided_if, decided_with, outcome_of, past_decided, pending_of}
use Rattle.fs_machine.specs.State.{Machine, started}
use Rattle.fs_machine.specs.Stream.{desk_of}
use Rattle.fs_machine.specs.StreamsHold.{StreamsHold}
use Rattle.fs_machine.specs.Tick.{past_advanced}
use Rattle.fs_machine.proofs.Asking.{arrived_token, asked_listens, asked_waits, retried_listens, retried_waits, waiters_departed}
use Rattle.fs_machine.proofs.Carried.{AtMostPrepares, LeavesAlone, asked_alone, asked_drawn, asked_follows, retried_alone, retried_drawn, retried_follows, retried_ids}
use Rattle.fs_machine.proofs.Desks.{numbers_answered, numbers_refused}
use Rattle.fs_machine.proofs.FloorIsReleased.{floor_before, floor_compacted, floor_released}
use Rattle.fs_machine.proofs.Grows.{grows_on, grows_released, grows_same}
use Rattle.fs_machine.proofs.HistoryRises.{history_released}
use Rattle.fs_machine.proofs.Holding.{Holds, asked_holds, retried_holds}
use Rattle.fs_machine.proofs.IdsAreDrawn.{fewer_decided, fewer_departed, fewer_expired, fewer_released, ids_fewer}
use Rattle.fs_machine.proofs.Listening.{beside_listening, loaded_listens, loaded_numbers, loaded_rest, raised_listens, raised_numbers, raised_rest}
use Rattle.fs_machine.proofs.ListenersHold.{listeners_compacted, listeners_departed, listeners_later, listeners_matched, listeners_none, listeners_opened, listeners_released, listeners_told}
use Rattle.fs_machine.proofs.NamesApart.{names_decided, names_released}
use Rattle.fs_machine.proofs.ReadsHold.{reads_decided, reads_released}
use Rattle.fs_machine.proofs.ResultsHold.{results_decided, results_released}
use Rattle.fs_machine.proofs.Pending.{number_found}
use Rattle.fs_machine.proofs.SessionsNumbered.{same_numbers, sessions_changed, sessions_departed, sessions_opened, sessions_same}
use Rattle.fs_machine.proofs.Streaming.{arrived_batch, arrived_number}
use Rattle.fs_machine.proofs.StreamsAsked.{asked_streams, retried_streams}
use Rattle.fs_machine.proofs.StreamsHold.{streams_accepted, streams_begun, streams_departed, streams_dropped, streams_released}
use Rattle.fs_machine.proofs.TransactionsHold.{open_advanced, open_compacted, open_decided, open_left, open_released}
use Rattle.fs_machine.proofs.UnreleasedRise.{unreleased_advanced, unreleased_decided, unreleased_released}

-- ---- the start

at_start : (shards : ℕ) (start : ℤ) → PastFacts (past_from shards start)
at_start shards start = record { history = record { rising = tt; ends = tt }; unreleased = omega (arith, ints); floor = omega (arith, ints); names = tt; results = tt; reads = record { serial = tt; shown = tt; spared = tt } }

pub begins : (config : Config) (limits : Limits) (start : ℤ) → Facts (started config limits start)
begins config limits start = record { past = at_start config.shards start; ids = λ id. (omega arith, λ above. refl, λ is. refl); txns = tt; sessions = omega arith; listeners = listeners_none (past_from config.shards start) 0; waiters = tt; streams = streams_begun (past_from config.shards start) limits.streams refl }

-- ---- what was committed

pub past_kept_at_release : (p : Past) → PastFacts p → PastFacts (past_released p)
past_kept_at_release p facts = record {
  history = history_released p facts.history facts.unreleased;
  unreleased = unreleased_released p facts.unreleased;
  floor = floor_released p facts.unreleased facts.floor;
  names = names_released p facts.unreleased facts.names;
  results = results_released p facts.unreleased facts.names facts.results;
  reads = reads_released p facts.unreleased facts.reads;
}

pub past_kept_at_deciding : (p : Past) (id : ℕ) (u : Unreleased) (r : Result (Docs × List WriteResult) Refusal) → pending_of p id ≡ Some u → outcome_of p u ≡ r → PastFacts p → PastFacts (past_decided p u r)
past_kept_at_deciding p id u (Ok done) is comes facts = record {
  history = facts.history;
  unreleased = unreleased_decided p u (Ok done) facts.unreleased;
  floor = facts.floor;
  names = names_decided p u (Ok done) facts.names;
  results = results_decided p id u (Ok done) is comes facts.unreleased facts.names facts.results;
  reads = reads_decided p u (Ok done) facts.reads;
}
past_kept_at_deciding p id u (Err refusal) is comes facts = record {
  history = facts.history;
  unreleased = unreleased_decided p u (Err refusal) facts.unreleased;
  floor = facts.floor;
  names = names_decided p u (Err refusal) facts.names;
  results = results_decided p id u (Err refusal) is comes facts.unreleased facts.names facts.results;
  reads = reads_decided p u (Err refusal) facts.reads;
}

pub past_kept_advanced : (p : Past) (now : ℤ) → PastFacts p → PastFacts (past_advanced p now)
past_kept_advanced p now facts = record {
  history = facts.history;
  unreleased = unreleased_advanced p now facts.unreleased;
  floor = facts.floor;
  names = facts.names;
  results = facts.results;
  reads = facts.reads;
}

pub past_kept_compacted : (p : Past) (first : Option ℤ) (to : ℤ) → PastFacts p → PastFacts (past_compacted p first to)
past_kept_compacted p first to facts = record {
  history = facts.history;
  unreleased = facts.unreleased;
  floor = floor_compacted p first to facts.floor;
  names = facts.names;
  results = facts.results;
  reads = facts.reads;
}

-- ---- a request comes, or is tried again

held_still : (m : Machine) → Facts m → Holds m
held_still m facts = record { past = facts.past; txns = facts.txns }

still_numbered : (m n : Machine) → LeavesAlone m n → SessionsNumbered m.sessions m.numbers.sessions → SessionsNumbered n.sessions n.numbers.sessions
still_numbered m n alone numbered = subst (λ k. SessionsNumbered n.sessions k) (sym alone.given) (sessions_same m.sessions n.sessions m.numbers.sessions alone.sessions numbered)

kept_asked : (m : Machine) (session : ℕ) (e : Envelope) → Facts m → Facts (asked m session e)
kept_asked m session e facts =
    let r = arrived m session e in
    let refusal = arrival_refusal m session e.request in
    let holds = asked_holds m r refusal (held_still m facts) in
    record {
      past = holds.past;
      ids = asked_drawn m r refusal (arrived_number m session e) facts.ids;
      txns = holds.txns;
      sessions = still_numbered m (asked m session e) (asked_alone m r refusal) facts.sessions;
      listeners = asked_listens m r refusal (arrived_token m session e) facts.listeners;
      waiters = asked_waits m r refusal (arrived_batch m session e) facts.waiters;
      streams = asked_streams m session e refusal facts.streams;
    }

kept_retried : (m : Machine) (place : ℕ) (found : Option ParkedRequest) → slice_get m.parked place ≡ found → Facts m → Facts (retried_if m place found)
kept_retried m place found is facts =
    let holds = retried_holds m place found (held_still m facts) in
    let n = retried_if m place found in
    record {
      past = holds.past;
      ids = retried_drawn m place found is facts.ids;
      txns = holds.txns;
      sessions = still_numbered m (retried_if m place found) (retried_alone m place found) facts.sessions;
      listeners = retried_listens m place found is facts.waiters facts.listeners;
      waiters = retried_waits m place found is facts.waiters;
      streams = subst (StreamsHold n.past n.parked n.streams) (sym (retried_ids m place found)) (retried_streams m place found m.numbers.ids is facts.waiters facts.streams);
    }

-- ---- other events

kept_decided : (m : Machine) (id : ℕ) (u : Unreleased) (r : Result (Docs × List WriteResult) Refusal) → pending_of m.past id ≡ Some u → outcome_of m.past u ≡ r → Facts m → Facts (decided_with m u r)
kept_decided m id u (Ok done) is comes facts = record {
  past = past_kept_at_deciding m.past id u (Ok done) is comes facts.past;
  ids = ids_fewer m.past m.txns m.parked (past_decided m.past u (Ok done)) m.txns m.parked m.numbers.ids (fewer_decided m.past m.txns m.parked u (Ok done)) facts.ids;
  txns = open_decided m.config.mode m.past u (Ok done) m.txns.open facts.txns;
  sessions = facts.sessions;
  listeners = listeners_later m.past (past_decided m.past u (Ok done)) m.sessions m.listeners m.numbers.targets (≤ℤ_refl m.past.floor) (≤ℤ_refl m.past.released) facts.listeners;
  waiters = facts.waiters;
  streams = streams_accepted m.past m.parked m.streams m.numbers.ids u.batch.id done.1 facts.streams;
}
kept_decided m id u (Err refusal) is comes facts = record {
  past = past_kept_at_deciding m.past id u (Err refusal) is comes facts.past;
  ids = ids_fewer m.past m.txns m.parked (past_decided m.past u (Err refusal)) m.txns m.parked m.numbers.ids (fewer_decided m.past m.txns m.parked u (Err refusal)) facts.ids;
  txns = open_decided m.config.mode m.past u (Err refusal) m.txns.open facts.txns;
  sessions = sessions_same m.sessions _ m.numbers.sessions (numbers_refused u.asker refusal (desk_of m)) facts.sessions;
  listeners =
      listeners_later m.past (past_decided m.past u (Err refusal)) _ m.listeners m.numbers.targets (≤ℤ_refl m.past.floor) (≤ℤ_refl m.past.released)
      (listeners_told m.past m.sessions _ m.listeners m.numbers.targets (numbers_refused u.asker refusal (desk_of m)) facts.listeners);
  waiters = facts.waiters;
  streams = streams_dropped m.past m.parked (desk_of m) m.numbers.ids u.batch.id u refusal u.asker (ap (pending_of m.past) (number_found m.past.unreleased id u is) ∙ is) refl facts.streams;
}

kept_if : (m : Machine) (id : ℕ) (found : Option Unreleased) → pending_of m.past id ≡ found → Facts m → Facts (decided_if m found)
kept_if m id None is facts = facts
kept_if m id (Some u) is facts = kept_decided m id u (outcome_of m.past u) is refl facts

pub kept_with_session : (m : Machine) → Facts m → Facts (with_session m)
kept_with_session m facts = record {
  past = facts.past;
  ids = facts.ids;
  txns = facts.txns;
  sessions = sessions_opened m.sessions m.numbers.sessions facts.sessions;
  listeners = listeners_opened m.past m.sessions m.listeners m.numbers.targets m.numbers.sessions facts.listeners;
  waiters = facts.waiters;
  streams = facts.streams;
}

kept_opened : (m : Machine) (full : Bool) → Facts m → Facts (cond full m (with_session m))
kept_opened m true facts = facts
kept_opened m false facts = kept_with_session m facts

kept_loaded : (m : Machine) (session target : ℕ) (at : Option ℤ) → Facts m → Facts (loaded m session target at)
kept_loaded m session target at facts =
    subst Facts (sym (loaded_rest m session target at)) (record {
      past = facts.past;
      ids = facts.ids;
      txns = facts.txns;
      sessions = sessions_same m.sessions (loaded m session target at).sessions m.numbers.sessions (loaded_numbers m session target at) facts.sessions;
      listeners = loaded_listens m facts.past.floor facts.listeners session target at;
      waiters = facts.waiters;
      streams = facts.streams;
    })

kept_raised : (m : Machine) (session : ℕ) → Facts m → Facts (raised m session)
kept_raised m session facts =
    subst Facts (sym (raised_rest m session)) (record {
      past = facts.past;
      ids = facts.ids;
      txns = facts.txns;
      sessions = sessions_same m.sessions (raised m session).sessions m.numbers.sessions (raised_numbers m session) facts.sessions;
      listeners = raised_listens m facts.listeners session;
      waiters = facts.waiters;
      streams = facts.streams;
    })

-- a time that isn't later than what is released
pub earlier_released : (p : Past) (to : ℤ) → earlier to p.released ≤ℤ p.released
earlier_released p to = grind (arith, ints)

pub keeps : (m : Machine) (e : Event) → Facts m → Facts (step m e)
keeps m Event.opening facts = kept_opened m (is_full m) facts
keeps m (Event.leaving session) facts = record {
  past = facts.past;
  ids = ids_fewer m.past m.txns m.parked m.past m.txns (of_others session m.parked) m.numbers.ids (fewer_departed m.past m.txns m.parked session) facts.ids;
  txns = facts.txns;
  sessions = sessions_departed m.sessions session m.numbers.sessions facts.sessions;
  listeners = listeners_departed m.past m.sessions m.listeners m.numbers.targets session facts.listeners;
  waiters = waiters_departed m.parked session facts.waiters;
  streams = streams_departed m.past m.parked m.streams m.numbers.ids session facts.streams;
}
keeps m (Event.asking session e) facts = kept_asked m session e facts
keeps m (Event.retrying place) facts = kept_retried m place (slice_get m.parked place) refl facts
keeps m (Event.deciding id) facts = kept_if m id (pending_of m.past id) refl facts
keeps m (Event.advancing now) facts = record {
  past = past_kept_advanced m.past now facts.past;
  ids = ids_fewer m.past m.txns m.parked (past_advanced m.past now) (expired_at now m.txns) m.parked m.numbers.ids (fewer_expired m.past m.txns m.parked now) facts.ids;
  txns = open_left m.config.mode (past_advanced m.past now) (λ t. not (is_over now t)) m.txns.open (open_advanced m.config.mode m.past now m.txns.open facts.txns);
  sessions = facts.sessions;
  listeners = listeners_later m.past (past_advanced m.past now) m.sessions m.listeners m.numbers.targets (≤ℤ_refl m.past.floor) (≤ℤ_refl m.past.released) facts.listeners;
  waiters = facts.waiters;
  streams = facts.streams;
}
keeps m Event.releasing facts = record {
  past = past_kept_at_release m.past facts.past;
  ids = ids_fewer m.past m.txns m.parked (past_released m.past) m.txns m.parked m.numbers.ids (fewer_released m.past m.txns m.parked facts.past.unreleased) facts.ids;
  txns = open_released m.config.mode m.past m.txns.open facts.past.unreleased facts.txns;
  sessions = sessions_same m.sessions _ m.numbers.sessions (numbers_answered (committed_out m.past) (desk_of m)) facts.sessions;
  listeners = listeners_released m.past m.sessions _ m.listeners m.numbers.targets facts.past.unreleased (numbers_answered (committed_out m.past) (desk_of m)) facts.listeners;
  waiters = facts.waiters;
  streams = streams_released m.past m.parked (desk_of m) m.numbers.ids facts.streams;
}
keeps m (Event.compacting to) facts = record {
  past = past_kept_compacted m.past (first_asked m) to facts.past;
  ids = facts.ids;
  txns =
      open_compacted m.config.mode m.past (floor_after m.past (first_asked m) to) m.txns.open
      (floor_before m.config.mode m.past m.txns.open (map (λ (l : Listener). least_position l.listening) m.listeners) to facts.txns) facts.txns;
  sessions = facts.sessions;
  listeners = listeners_compacted m.past m.sessions m.listeners m.numbers.targets (oldest m.txns.open) to facts.listeners;
  waiters = facts.waiters;
  streams = facts.streams;
}
keeps m (Event.loading session target at) facts = kept_loaded m session target at facts
keeps m (Event.matching shard to) facts = record {
  past = facts.past;
  ids = facts.ids;
  txns = facts.txns;
  sessions = facts.sessions;
  listeners = listeners_matched m.past m.sessions m.listeners m.numbers.targets shard (earlier to m.past.released) (earlier_released m.past to) facts.listeners;
  waiters = facts.waiters;
  streams = facts.streams;
}
keeps m (Event.raising session) facts = kept_raised m session facts
keeps m (Event.taking session) facts = record {
  past = facts.past;
  ids = facts.ids;
  txns = facts.txns;
  sessions = sessions_changed m.sessions session m.numbers.sessions (λ ms. []) facts.sessions;
  listeners = listeners_told m.past m.sessions _ m.listeners m.numbers.targets (same_numbers m.sessions session (λ ms. [])) facts.listeners;
  waiters = facts.waiters;
  streams = facts.streams;
}

-- ---- the history grows, by releases alone

-- the history and the released time are left as they are
abbrev pub Stays : Past → Past → Type 0
Stays p q = (q.history ≡ p.history) × (q.released ≡ p.released)

follows_stays : (p q : Past) → AtMostPrepares p q → Stays p q
follows_stays p q (inl same) = (ap (λ (x : Past). x.history) same, ap (λ (x : Past). x.released) same)
follows_stays p q (inr one) = (ap (λ (x : Past). x.history) one.1, ap (λ (x : Past). x.released) one.1)

pub asked_stays : (m : Machine) (session : ℕ) (e : Envelope) → Stays m.past (asked m session e).past
asked_stays m session e = follows_stays m.past (asked m session e).past (asked_follows m (arrived m session e) (arrival_refusal m session e.request))

pub retried_stays : (m : Machine) (place : ℕ) (found : Option ParkedRequest) → Stays m.past (retried_if m place found).past
retried_stays m place found = follows_stays m.past (retried_if m place found).past (retried_follows m place found)

with_stays : (m : Machine) (u : Unreleased) (r : Result (Docs × List WriteResult) Refusal) → Stays m.past (decided_with m u r).past
with_stays m u (Ok done) = (refl, refl)
with_stays m u (Err refusal) = (refl, refl)

pub decided_stays : (m : Machine) (found : Option Unreleased) → Stays m.past (decided_if m found).past
decided_stays m None = (refl, refl)
decided_stays m (Some u) = with_stays m u (outcome_of m.past u)

pub opened_stays : (m : Machine) (full : Bool) → Stays m.past (cond full m (with_session m)).past
opened_stays m true = (refl, refl)
opened_stays m false = (refl, refl)

listening_stays : (m n : Machine) → n ≡ beside_listening m n → Stays m.past n.past
listening_stays m n is = (ap (λ (k : Machine). k.past.history) is, ap (λ (k : Machine). k.past.released) is)

grows_still : (old new : Past) → Stays old new → Grows old new
grows_still old new same = grows_same old new same.0 same.1

pub grows : (m : Machine) (e : Event) → Facts m → Grows m.past (step m e).past
grows m Event.opening facts = grows_still _ _ (opened_stays m (is_full m))
grows m (Event.leaving session) facts = grows_same _ _ refl refl
grows m (Event.asking session e) facts = grows_still _ _ (asked_stays m session e)
grows m (Event.retrying place) facts = grows_still _ _ (retried_stays m place (slice_get m.parked place))
grows m (Event.deciding id) facts = grows_still _ _ (decided_stays m (pending_of m.past id))
grows m (Event.advancing now) facts = grows_same _ _ refl refl
grows m Event.releasing facts = grows_released m.past facts.past.unreleased
grows m (Event.compacting to) facts = grows_same _ _ refl refl
grows m (Event.loading session target at) facts = grows_still _ _ (listening_stays m (loaded m session target at) (loaded_rest m session target at))
grows m (Event.matching shard to) facts = grows_same _ _ refl refl
grows m (Event.raising session) facts = grows_still _ _ (listening_stays m (raised m session) (raised_rest m session))
grows m (Event.taking session) facts = grows_same _ _ refl refl

-- ---- whole runs

pub all_kept : (m : Machine) (es : List Event) → Facts m → Facts (after m es)
all_kept m [] facts = facts
all_kept m (e ∷ es) facts = all_kept (step m e) es (keeps m e facts)

pub all_grow : (m : Machine) (es : List Event) → Facts m → Grows m.past (after m es).past
all_grow m [] facts = grows_same _ _ refl refl
all_grow m (e ∷ es) facts = grows_on m.past (step m e).past (after (step m e) es).past (grows m e facts) (all_grow (step m e) es (keeps m e facts))

-- so what was committed explains every read in it
pub serial_always : (config : Config) (limits : Limits) (start : ℤ) (es : List Event) → IsSerial (after (started config limits start) es).past.history
serial_always config limits start es =
    let facts = all_kept (started config limits start) es (begins config limits start) in
    serial_is (after (started config limits start) es).past.history facts.past.history.rising facts.past.reads.serial
