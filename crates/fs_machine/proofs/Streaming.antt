-- What the requests of streams leave as it is.
use Rattle.std.proofs.Common.{◌≡◌, ℕ, ◌+◌, true, List, Option, Some, None, refl, sym, ap, ◌∙◌}
use Rattle.std.specs.Prelude.{is_some}
use Rattle.fs_path.specs.declared.name.Root.{Root}
use Rattle.fs_request.specs.declared.request.Envelope.{Envelope}
use Rattle.fs_request.specs.declared.request.Request.{Request}
use Rattle.fs_request.specs.declared.request.Request.TheVariants as request
use Rattle.fs_request.specs.declared.stream_request.StreamRequest.{StreamRequest}
use Rattle.fs_request.specs.declared.stream_request.StreamRequest.TheVariants.{Open, Resume, Batch, Ask, Mixed}
use Rattle.fs_machine.specs.Numbered.{number_of}
use Rattle.fs_machine.specs.Request.{Decision, arrived, numbered, taken_unless}
use Rattle.fs_machine.specs.State.{Machine}
use Rattle.fs_machine.specs.Stream.{batch_commit, desk_of, streamed, taken_as, taker_of, with_desk}
use Rattle.fs_machine.specs.WaitersAsk.{is_plain}
use Rattle.fs_machine.specs.declared.parked_request.ParkedRequest.{ParkedRequest}
use Rattle.fs_machine.proofs.SessionsNumbered.{numbers_of, numbers_owning}

pub streamed_rest : (m : Machine) (session : ℕ) (asked : StreamRequest) → streamed m session asked ≡ with_desk m (desk_of (streamed m session asked))
streamed_rest m session Open = refl
streamed_rest m session (Resume n token) = refl
streamed_rest m session (Batch token writes) = refl
streamed_rest m session (Ask token) = refl
streamed_rest m session (Mixed n token writes) = refl

pub streamed_numbers : (m : Machine) (session : ℕ) (asked : StreamRequest) → numbers_of (streamed m session asked).sessions ≡ numbers_of m.sessions
streamed_numbers m session Open = numbers_owning m.sessions session
streamed_numbers m session (Resume n token) = numbers_owning m.sessions session
streamed_numbers m session (Batch token writes) = refl
streamed_numbers m session (Ask token) = refl
streamed_numbers m session (Mixed n token writes) = refl

pub taken_rest : (d : Decision) (stream : Option ℕ) (m : Machine) → taken_unless d stream m ≡ record m { streams = (taken_unless d stream m).streams }
taken_rest (Decision.refused refusal) stream m = refl
taken_rest (Decision.held id) None m = refl
taken_rest (Decision.held id) (Some n) m = refl
taken_rest Decision.goes_on None m = refl
taken_rest Decision.goes_on (Some n) m = refl

-- ---- the number of one that comes

batch_number : (ids : ℕ) (database : Root) (asked : StreamRequest) → number_of ids (batch_commit (request.Write database asked) asked) ≡ ids + 1
batch_number ids database Open = refl
batch_number ids database (Resume n token) = refl
batch_number ids database (Batch token writes) = refl
batch_number ids database (Ask token) = refl
batch_number ids database (Mixed n token writes) = refl

taken_number : (ids session : ℕ) (of : Option (List ℕ)) (database : Root) (asked : StreamRequest) (stream : Option ℕ)
    → ids + 1 ≡ number_of ids (taken_as stream (record { session = session; id = ids + 1; stream = None; envelope = record { id = of; request = request.Write database asked } })).envelope.request
taken_number ids session of database asked None = refl
taken_number ids session of database asked (Some n) = sym (batch_number ids database asked)

taken_id : (stream : Option ℕ) (r : ParkedRequest) → (taken_as stream r).id ≡ r.id
taken_id None r = refl
taken_id (Some n) r = refl

pub arrived_number : (m : Machine) (session : ℕ) (e : Envelope) → (arrived m session e).id ≡ number_of m.numbers.ids (arrived m session e).envelope.request
arrived_number m session e = by_request e.request where
  by_request : (q : Request) → (arrived m session (record { id = e.id; request = q })).id ≡ number_of m.numbers.ids (arrived m session (record { id = e.id; request = q })).envelope.request
  by_request (request.Commit database writes transaction) = refl
  by_request (request.GetDocument name mask when) = refl
  by_request (request.BatchGetDocuments database names mask when) = refl
  by_request (request.RunQuery database query when) = refl
  by_request (request.BeginTransaction database options) = refl
  by_request (request.Rollback database transaction) = refl
  by_request (request.AddTarget database id t token) = refl
  by_request (request.RemoveTarget database id) = refl
  by_request (request.Write database asked) =
      taken_id (taker_of m session asked) (numbered m session (record { id = e.id; request = request.Write database asked })) ∙ taken_number m.numbers.ids session e.id database asked (taker_of m session asked)

-- ---- a batch is a commit of no transaction

module _ (m : Machine) (session : ℕ) (database : Root) where
  batch_plain : (asked : StreamRequest) → is_some (taker_of m session asked) ≡ true → is_plain (batch_commit (request.Write database asked) asked) ≡ true
  batch_plain Open some = absurd (cc)
  batch_plain (Resume n token) some = absurd (cc)
  batch_plain (Batch token writes) some = refl
  batch_plain (Ask token) some = absurd (cc)
  batch_plain (Mixed n token writes) some = absurd (cc)

  taken_plain : (number : ℕ) (of : Option (List ℕ)) (asked : StreamRequest) (stream : Option ℕ) → taker_of m session asked ≡ stream
      → (let r = taken_as stream (record { session = session; id = number; stream = None; envelope = record { id = of; request = request.Write database asked } }) in is_some r.stream ≡ true → is_plain r.envelope.request ≡ true)
  taken_plain number of asked None is some = absurd (cc)
  taken_plain number of asked (Some n) is some = batch_plain asked (ap is_some is)

pub arrived_batch : (m : Machine) (session : ℕ) (e : Envelope) → is_some (arrived m session e).stream ≡ true → is_plain (arrived m session e).envelope.request ≡ true
arrived_batch m session e = by_request e.request where
  by_request : (q : Request) → (let r = arrived m session (record { id = e.id; request = q }) in is_some r.stream ≡ true → is_plain r.envelope.request ≡ true)
  by_request (request.Commit database writes transaction) some = absurd (cc)
  by_request (request.GetDocument name mask when) some = absurd (cc)
  by_request (request.BatchGetDocuments database names mask when) some = absurd (cc)
  by_request (request.RunQuery database query when) some = absurd (cc)
  by_request (request.BeginTransaction database options) some = absurd (cc)
  by_request (request.Rollback database transaction) some = absurd (cc)
  by_request (request.AddTarget database id t token) some = absurd (cc)
  by_request (request.RemoveTarget database id) some = absurd (cc)
  by_request (request.Write database asked) some = taken_plain m session database (m.numbers.ids + 1) e.id asked (taker_of m session asked) refl some
