-- What stands all the time while a script is played stands after each thing that a line is made of, and after each line.
use Rattle.std.proofs.Common.{◌≡◌, ℕ, ℤ, true, List, [], ◌∷◌, ◌++◌, Option, Some, None, Result, Ok, Err, refl, sym, ap, ◌∙◌, subst}
use Rattle.std.specs.Prelude.{⊤, is_some, remove, slice_get}
use Rattle.std.proofs.lemmas.Bool.{or_right}
use Rattle.fs_json.specs.declared.bad.Bad.{Bad}
use Rattle.fs_request.specs.declared.request.Envelope.{Envelope}
use Rattle.fs_request.specs.declared.request.Request.{Request}
use Rattle.fs_status.specs.declared.refusal.Refusal.{Refusal}
use Rattle.fs_write.specs.Batch.{Docs}
use Rattle.fs_stream.specs.Streams.{Streams}
use Rattle.fs_write.specs.declared.write.Write.{Write}
use Rattle.fs_write.specs.declared.write_result.WriteResult.{WriteResult}
use Rattle.fs_machine.specs.Commit.{next_commit}
use Rattle.fs_machine.specs.Compact.{compacted, first_asked}
use Rattle.fs_machine.specs.Event.{Event}
use Rattle.fs_machine.specs.Facts.{Facts}
use Rattle.fs_machine.specs.Leave.{departed}
use Rattle.fs_machine.specs.Limits.{AreAllowed}
use Rattle.fs_machine.specs.Load.{loaded}
use Rattle.fs_machine.specs.Match.{matched}
use Rattle.fs_machine.specs.Open.{with_session}
use Rattle.fs_machine.specs.Outbox.{taken}
use Rattle.fs_machine.specs.Past.{Past}
use Rattle.fs_machine.specs.Raise.{raised}
use Rattle.fs_machine.specs.Release.{committed_out}
use Rattle.fs_machine.specs.Request.{Decision, answer_by, answered, arrived, asked, carried, decision, retry_refusal, with_parked}
use Rattle.fs_machine.specs.Retry.{given_up, retried, retry_decision, tried, unparked}
use Rattle.fs_machine.specs.Settle.{decided, decided_if, decided_with, outcome_of, pending_of, settled}
use Rattle.fs_machine.specs.State.{Machine}
use Rattle.fs_machine.specs.Stream.{Desk, desk_of, with_desk}
use Rattle.fs_machine.specs.Tick.{advanced, ticked}
use Rattle.fs_machine.specs.UnreleasedRise.{UnreleasedRise}
use Rattle.fs_machine.specs.declared.answer.Answer.{Answer}
use Rattle.fs_machine.specs.declared.numbers.Numbers.{Numbers}
use Rattle.fs_machine.specs.declared.parked_request.ParkedRequest.{ParkedRequest}
use Rattle.fs_machine.specs.declared.unreleased.Unreleased.{Unreleased}
use Rattle.fs_machine.proofs.Carried.{carried_numbers, carried_rest}
use Rattle.fs_machine.proofs.Desks.{numbers_answered, numbers_given_up, numbers_refused}
use Rattle.fs_machine.proofs.Holding.{decision_alike}
use Rattle.fs_machine.proofs.Listening.{beside_listening, loaded_numbers, loaded_rest, raised_numbers, raised_rest}
use Rattle.fs_machine.proofs.Runs.{keeps, kept_with_session}
use Rattle.fs_machine.proofs.SessionsNumbered.{numbers_of, same_numbers}
use Rattle.fs_replay.specs.Directory.{number_of, without}
use Rattle.fs_replay.specs.BetweenLines.{IsReleased, is_asked, is_open, numbers_in}
use Rattle.fs_replay.specs.Commits.{writes_of}
use Rattle.fs_replay.specs.declared.directory.Named.{Named}
use Rattle.fs_replay.specs.declared.request.Line.{Line}
use Rattle.fs_replay.specs.declared.request.Line.TheVariants as line
use Rattle.fs_replay.specs.declared.state.State.{State}
use Rattle.fs_replay.proofs.Becoming.{Becomes, arrived_session, asked_becomes, taken_beside, taken_on, with_numbers}
use Rattle.fs_replay.proofs.Each.{all_more, all_removed}
use Rattle.fs_replay.proofs.Falling.{retried_is, settled_is, settled_parked}
use Rattle.fs_replay.proofs.Going.{Goes, carried_goes, passes}
use Rattle.fs_replay.proofs.Kept.{Keeps, KeepsAll, KeepsAsking, KeepsServing, MayAsk, MayRead}
use Rattle.fs_replay.proofs.Known.{OfOpen, known_departed, known_more, known_open, of_open_alike, of_open_departed, of_open_more}
use Rattle.fs_replay.proofs.Released.{compacted_released, prepared_released, owes_nothing}

-- of a server and of the sessions that the script knows
pub record Fits (ns : List Named) (m : Machine) : Type 0 where
  pub released : IsReleased m.past
  pub known : numbers_in ns ≡ numbers_of m.sessions
  pub waiting : OfOpen m.sessions m.parked
  pub limits : AreAllowed m.limits

pub record Stands (s : State) : Type 0 where
  pub facts : Facts s.server
  pub fits : Fits s.directory s.server

-- ---- events of a server

pub settled_stands : (m : Machine) (id : ℕ) → Facts m → Facts (settled m id)
settled_stands m id facts = keeps (decided m id) Event.releasing (keeps m (Event.deciding id) facts)

pub ticked_stands : (m : Machine) (now : ℤ) → Facts m → Facts (ticked m now)
ticked_stands m now facts = keeps (advanced m now) Event.releasing (keeps m (Event.advancing now) facts)

-- the sessions are the same, but for their messages
decided_numbers : (m : Machine) (u : Unreleased) (r : Result (Docs × List WriteResult) Refusal) → numbers_of (decided_with m u r).sessions ≡ numbers_of m.sessions
decided_numbers m u (Ok done) = refl
decided_numbers m u (Err refusal) = numbers_refused u.asker refusal (desk_of m)

if_numbers : (m : Machine) (found : Option Unreleased) → numbers_of (decided_if m found).sessions ≡ numbers_of m.sessions
if_numbers m None = refl
if_numbers m (Some u) = decided_numbers m u (outcome_of m.past u)

settled_numbers : (m : Machine) (id : ℕ) → numbers_of (settled m id).sessions ≡ numbers_of m.sessions
settled_numbers m id = let n = decided m id in numbers_answered (committed_out n.past) (desk_of n) ∙ if_numbers m (pending_of m.past id)

settled_fits : (ns : List Named) (m : Machine) (id : ℕ) → Facts m → Fits ns m → Fits ns (settled m id)
settled_fits ns m id facts fits =
    let n = settled m id in
    record {
      released = owes_nothing (decided m id).past (keeps m (Event.deciding id) facts).past.unreleased;
      known = fits.known ∙ sym (settled_numbers m id);
      waiting = of_open_alike m.sessions n.sessions n.parked (settled_numbers m id) (subst (OfOpen m.sessions) (sym (settled_parked m id)) fits.waiting);
      limits = subst AreAllowed (ap (λ (k : Machine). k.limits) (sym (settled_is m id))) fits.limits;
    }

-- what is carried out owes nothing either
goes_released : (r : ParkedRequest) (writes : List Write) (p q : Past) (a : Answer) → Goes r writes p q a → UnreleasedRise p → IsReleased p → IsReleased q
goes_released r writes p q a (Goes.answers same told) rise released = subst IsReleased (sym same) released
goes_released r writes p q a (Goes.repeats finished same told) rise released = subst IsReleased (sym same) released
goes_released r writes p q a (Goes.prepares id reads same told) rise released = subst IsReleased (sym same) (prepared_released p (next_commit p id r writes reads) refl refl rise released)

carried_fits : (ns : List Named) (m : Machine) (r : ParkedRequest) → UnreleasedRise m.past → decision m r.session r.envelope.request ≡ Decision.goes_on → Fits ns m → Fits ns (carried m r)
carried_fits ns m r rise goes fits =
    let q = r.envelope.request in
    let same = carried_numbers m r q in
    subst (Fits ns) (sym (carried_rest m r q))
    (record {
      released = goes_released r (writes_of q) m.past (carried m r).past (answer_by m r q) (carried_goes m r q goes) rise fits.released;
      known = fits.known ∙ sym same;
      waiting = of_open_alike m.sessions (carried m r).sessions m.parked same fits.waiting;
      limits = fits.limits;
    })

-- without the one at a place
left_fits : (ns : List Named) (m : Machine) (place : ℕ) → Fits ns m → Fits ns (unparked m place)
left_fits ns m place fits = record { released = fits.released; known = fits.known; waiting = all_removed (λ (q : ParkedRequest). is_asked m.sessions q ≡ true) m.parked place fits.waiting; limits = fits.limits }

-- whatever is told of it
told_fits : (ns : List Named) (m : Machine) (d : Desk) → numbers_of d.1 ≡ numbers_of m.sessions → Fits ns m → Fits ns (with_desk m d)
told_fits ns m d same fits = record {
  released = fits.released;
  known = fits.known ∙ sym same;
  waiting = of_open_alike m.sessions d.1 m.parked same fits.waiting;
  limits = fits.limits;
}

tried_fits : (ns : List Named) (m : Machine) (place : ℕ) (r : ParkedRequest) (d : Decision) → retry_decision m r.session r.envelope.request ≡ d → Facts m → Fits ns m → Fits ns (tried m place r d)
tried_fits ns m place r (Decision.refused refusal) is facts fits =
    told_fits ns (unparked m place) (given_up r.stream refusal (desk_of m)) (numbers_given_up r.stream refusal (desk_of m)) (left_fits ns m place fits)
tried_fits ns m place r (Decision.held id) is facts fits = fits
tried_fits ns m place r Decision.goes_on is facts fits =
    let q = r.envelope.request in
    let goes = decision_alike m m.numbers (remove m.parked place) r.session q ∙ (passes (retry_refusal m q) (decision m r.session q) is).1 in
    carried_fits ns (unparked m place) r facts.past.unreleased goes (left_fits ns m place fits)

retried_fits : (ns : List Named) (m : Machine) (place : ℕ) (r : ParkedRequest) → slice_get m.parked place ≡ Some r → Facts m → Fits ns m → Fits ns (retried m place)
retried_fits ns m place r is facts fits =
    subst (Fits ns) (sym (retried_is m place r is)) (tried_fits ns m place r (retry_decision m r.session r.envelope.request) refl facts fits)

-- all but what sessions listen to and their outboxes stays
beside_fits : (ns : List Named) (m n : Machine) → n ≡ beside_listening m n → numbers_of n.sessions ≡ numbers_of m.sessions → Fits ns m → Fits ns n
beside_fits ns m n is same fits =
    subst (Fits ns) (sym is)
    (record {
      released = fits.released;
      known = fits.known ∙ sym same;
      waiting = of_open_alike m.sessions n.sessions m.parked same fits.waiting;
      limits = fits.limits;
    })

taken_fits : (ns : List Named) (m : Machine) (number : ℕ) → Fits ns m → Fits ns (taken m number)
taken_fits ns m number fits = beside_fits ns m (taken m number) refl (same_numbers m.sessions number (λ ms. [])) fits

pub stands_serving : KeepsServing Stands
stands_serving = record {
  by_taking = λ s number stands. record { facts = keeps s.server (Event.taking number) stands.facts; fits = taken_fits s.directory s.server number stands.fits };
  by_loading = λ s number target at stands. record {
    facts = keeps s.server (Event.loading number target at) stands.facts;
    fits = beside_fits s.directory s.server (loaded s.server number target at) (loaded_rest s.server number target at) (loaded_numbers s.server number target at) stands.fits;
  };
  by_matching = λ s shard to stands. record {
    facts = keeps s.server (Event.matching shard to) stands.facts;
    fits = beside_fits s.directory s.server (matched s.server shard to) refl refl stands.fits;
  };
  by_raising = λ s number stands. record {
    facts = keeps s.server (Event.raising number) stands.facts;
    fits = beside_fits s.directory s.server (raised s.server number) (raised_rest s.server number) (raised_numbers s.server number) stands.fits;
  };
}

pub stands_closing : Keeps Stands
stands_closing = record {
  by_settling = λ s id stands. record { facts = settled_stands s.server id stands.facts; fits = settled_fits s.directory s.server id stands.facts stands.fits };
  by_retrying = λ s place r is stands. record { facts = keeps s.server (Event.retrying place) stands.facts; fits = retried_fits s.directory s.server place r is stands.facts stands.fits };
  serving = stands_serving;
}

-- ---- a request

-- with other numbers
numbered_fits : (ns : List Named) (m : Machine) (k : Numbers) → Fits ns m → Fits ns (with_numbers m k)
numbered_fits ns m k fits = record { released = fits.released; known = fits.known; waiting = fits.waiting; limits = fits.limits }

-- with other streams
streams_fits : (ns : List Named) (m : Machine) (ss : Streams) → Fits ns m → Fits ns (record m { streams = ss })
streams_fits ns m ss fits = record { released = fits.released; known = fits.known; waiting = fits.waiting; limits = fits.limits }

becomes_fits : (ns : List Named) (m n : Machine) (r : ParkedRequest) (a : Answer) → Facts m → Fits ns m → is_open r.session m.sessions ≡ true → Becomes m r n a → Fits ns n
becomes_fits ns m n r a facts fits opened (Becomes.refused k is told) = subst (Fits ns) (sym is) (numbered_fits ns m k fits)
becomes_fits ns m n r a facts fits opened (Becomes.held k by is told behind may) =
    let waits = all_more (λ (q : ParkedRequest). is_asked m.sessions q ≡ true) m.parked r fits.waiting (or_right (is_some r.stream) (is_open r.session m.sessions) opened) in
    subst (Fits ns) (sym (is ∙ ap (λ (x : Machine). with_parked x r) (taken_beside (with_numbers m k) r.stream)))
    (record { released = fits.released; known = fits.known; waiting = waits; limits = fits.limits })
becomes_fits ns m n r a facts fits opened (Becomes.goes_on k is told goes) =
    let on = taken_on m r k in
    let same : on.past ≡ m.past = ap (λ (x : Machine). x.past) (taken_beside (with_numbers m k) r.stream) in
    subst (Fits ns) (sym is)
    (carried_fits ns on r (subst UnreleasedRise (sym same) facts.past.unreleased) goes
    (subst (Fits ns) (sym (taken_beside (with_numbers m k) r.stream)) (streams_fits ns (with_numbers m k) on.streams (numbered_fits ns m k fits))))

asked_fits : (ns : List Named) (m : Machine) (number : ℕ) (e : Envelope) → Facts m → Fits ns m → is_open number m.sessions ≡ true → Fits ns (asked m number e)
asked_fits ns m number e facts fits opened =
    becomes_fits ns m (asked m number e) (arrived m number e) (answered m number e) facts fits (subst (λ k. is_open k m.sessions ≡ true) (sym (arrived_session m number e)) opened) (asked_becomes m number e)

-- ---- all that a line is made of

opened_fits : (ns : List Named) (m : Machine) (name : List ℕ) → Fits ns m → Fits (ns ++ record { name = name; number = m.numbers.sessions } ∷ []) (with_session m)
opened_fits ns m name fits = record {
  released = fits.released;
  known = known_more ns m.sessions name m.numbers.sessions fits.known;
  waiting = of_open_more m.sessions m.numbers.sessions m.parked fits.waiting;
  limits = fits.limits;
}

departed_fits : (ns : List Named) (m : Machine) (number : ℕ) (name : List ℕ) → number_of name ns ≡ Some number → Facts m → Fits ns m → Fits (without name ns) (departed m number)
departed_fits ns m number name is facts fits = record {
  released = fits.released;
  known = known_departed ns m.sessions name number 0 m.numbers.sessions fits.known facts.sessions is;
  waiting = of_open_departed m.sessions number m.parked fits.waiting;
  limits = fits.limits;
}

ticked_fits : (ns : List Named) (m : Machine) (now : ℤ) → Facts m → Fits ns m → Fits ns (ticked m now)
ticked_fits ns m now facts fits =
    let n = advanced m now in
    let same = numbers_answered (committed_out n.past) (desk_of m) in
    record {
      released = owes_nothing n.past (keeps m (Event.advancing now) facts).past.unreleased;
      known = fits.known ∙ sym same;
      waiting = of_open_alike m.sessions (ticked m now).sessions m.parked same fits.waiting;
      limits = fits.limits;
    }

compacted_fits : (ns : List Named) (m : Machine) (to : ℤ) → Fits ns m → Fits ns (compacted m to)
compacted_fits ns m to fits = record { released = compacted_released m.past (first_asked m) to fits.released; known = fits.known; waiting = fits.waiting; limits = fits.limits }

-- any request may be asked
abbrev pub Any : Request → Type 0
Any request = ⊤

pub any_read : (r : Result Request Bad) → MayRead Any r
any_read (Ok request) = tt
any_read (Err bad) = tt

pub any_line : (l : Line) → MayAsk Any l
any_line line.Empty = tt
any_line line.NotBuilt = tt
any_line (line.Refused reason) = tt
any_line (line.Asked a) = any_read a.request
any_line (line.Clock time) = tt
any_line (line.Compact time) = tt
any_line (line.Leave name) = tt
any_line (line.Manual on) = tt
any_line (line.Settle id) = tt
any_line line.Retry = tt
any_line (line.Load name target at) = tt
any_line (line.Match shard) = tt
any_line (line.Raise name) = tt

pub stands_asking : KeepsAsking Stands Any
stands_asking = record {
  by_opening = λ s name stands. record { facts = kept_with_session s.server stands.facts; fits = opened_fits s.directory s.server name stands.fits };
  by_asking = λ s number e knows may stands. record {
    facts = keeps s.server (Event.asking number e) stands.facts;
    fits = asked_fits s.directory s.server number e stands.facts stands.fits (known_open s.directory s.server.sessions number stands.fits.known knows);
  };
}

pub stands_all : KeepsAll Stands Any
stands_all = record {
  closes = stands_closing;
  asking = stands_asking;
  by_leaving = λ s number name is stands. record { facts = keeps s.server (Event.leaving number) stands.facts; fits = departed_fits s.directory s.server number name is stands.facts stands.fits };
  by_ticking = λ s now stands. record { facts = ticked_stands s.server now stands.facts; fits = ticked_fits s.directory s.server now stands.facts stands.fits };
  by_compacting = λ s to stands. record { facts = keeps s.server (Event.compacting to) stands.facts; fits = compacted_fits s.directory s.server to stands.fits };
  by_hand = λ s on stands. record { facts = stands.facts; fits = stands.fits };
}
