-- A request that waits is tried again. It is refused where a limit would be passed by now, or its transaction isn't open any more, and
-- then waits no more, and a batch of a stream is finished so; it waits on where something holds it still; else it is carried out, as if it came
-- now, and waits no more.
use Rattle.std.specs.Prelude.{ℕ, Option, Some, None, option_map, slice_get, remove}
use Rattle.fs_request.specs.declared.request.Request.{Request}
use Rattle.fs_status.specs.declared.refusal.Refusal.{Refusal}
use Rattle.fs_machine.specs.Request.{Decision, carried, decided_answer, decision, held_by, retry_refusal, unless_refused}
use Rattle.fs_machine.specs.State.{Machine}
use Rattle.fs_machine.specs.Stream.{Desk, batch_refused, desk_of, with_desk}
use Rattle.fs_machine.specs.declared.answer.Answer.{Answer}
use Rattle.fs_machine.specs.declared.parked.Parked.{Parked}
use Rattle.fs_machine.specs.declared.parked_request.ParkedRequest.{ParkedRequest}

abbrev pub retry_decision : Machine → ℕ → Request → Decision
retry_decision m session r = unless_refused (retry_refusal m r) (decision m session r)

-- without the request at a place
abbrev pub unparked : Machine → ℕ → Machine
unparked m place = record m { parked = remove m.parked place }

-- what its stream knows of a refusal, if it is a batch of one
abbrev pub given_up : Option ℕ → Refusal → Desk → Desk
given_up None refusal d = d
given_up (Some n) refusal d = batch_refused n refusal d

abbrev pub tried : Machine → ℕ → ParkedRequest → Decision → Machine
tried m place r (Decision.refused refusal) = with_desk (unparked m place) (given_up r.stream refusal (desk_of m))
tried m place r (Decision.held id) = m
tried m place r Decision.goes_on = carried (unparked m place) r

-- ---- the event

abbrev pub retried_if : Machine → ℕ → Option ParkedRequest → Machine
retried_if m place None = m
retried_if m place (Some r) = tried m place r (retry_decision m r.session r.envelope.request)

abbrev pub retried : Machine → ℕ → Machine
retried m place = retried_if m place (slice_get m.parked place)

-- what a request is answered that is tried again
abbrev pub tried_answer : Machine → ParkedRequest → Answer
tried_answer m r = decided_answer m r (retry_decision m r.session r.envelope.request)

-- and the one at a place
abbrev pub retry_answer : Machine → ℕ → Option Answer
retry_answer m place = option_map (tried_answer m) (slice_get m.parked place)

-- ---- what is told of it

abbrev pub parked_of : Machine → ParkedRequest → Parked
parked_of m r = record { session = r.session; id = r.envelope.id; stream = r.stream; held = held_by m r.envelope.request }
