-- A commit is answered to the session that asked for it, a batch too, since it is of the stream that the session owns.
use Rattle.std.proofs.Common.{◌≡◌, ℕ, true, refl, sym, ap, ◌∙◌}
use Rattle.std.specs.FinMap.{entries}
use Rattle.fs_pairs.proofs.Laws.{key_is}
use Rattle.fs_pairs.specs.Pairs.{key_of}
use Rattle.fs_request.specs.declared.request.Envelope.{Envelope}
use Rattle.fs_stream.proofs.Standing.{new_owned, owners_with}
use Rattle.fs_stream.specs.Stands.{Stands}
use Rattle.fs_stream.specs.Streams.{stream_of}
use Rattle.fs_machine.specs.Commit.{asker_by}
use Rattle.fs_machine.specs.Request.{arrived, carried_by}
use Rattle.fs_machine.specs.State.{Machine}
use Rattle.fs_machine.specs.declared.numbers.Numbers.{Numbers}
use Rattle.fs_machine.specs.declared.parked_request.ParkedRequest.{ParkedRequest}
use Rattle.fs_replay.specs.Commits.{writes_of}
use Rattle.fs_replay.proofs.Arriving.{arrived_by}
use Rattle.fs_replay.proofs.Becoming.{taken_on}
use Rattle.fs_replay.proofs.Lone.{IsAnswered}

-- a request once it is carried out, of a session
abbrev Answered : Machine → ℕ → ParkedRequest → Type 0
Answered m session r = (k : Numbers) → IsAnswered (carried_by (taken_on m r k) r r.envelope.request) (asker_by r r.stream) session

pub arrived_answered : (m : Machine) (session : ℕ) → Stands m.streams → (e : Envelope) → Answered m session (arrived m session e)
arrived_answered m session stands e =
    arrived_by m session e (Answered m session) (λ k. refl)
    (λ database token writes n is new k.
    ap (λ o. key_of n (entries o)) (owners_with n (record (stream_of n m.streams) { busy = true }) m.streams)
    ∙ key_is m.streams.owners session n stands.distinct (new_owned session token n m.streams new))

-- a batch writes what was asked for
pub arrived_writes : (m : Machine) (session : ℕ) (e : Envelope) → writes_of (arrived m session e).envelope.request ≡ writes_of e.request
arrived_writes m session e = arrived_by m session e (λ r. writes_of r.envelope.request ≡ writes_of e.request) refl (λ database token writes n is new. sym (ap writes_of is))
