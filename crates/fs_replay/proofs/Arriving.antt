-- A request comes as it was asked, of no stream; or it is the next batch of a stream, and comes as the commit that it is.
use Rattle.std.proofs.Common.{◌≡◌, ℕ, ◌+◌, List, Option, Some, None, Result, Ok, Err, refl}
use Rattle.fs_path.specs.declared.name.Root.{Root}
use Rattle.fs_request.specs.declared.request.Envelope.{Envelope}
use Rattle.fs_request.specs.declared.request.Request.{Request}
use Rattle.fs_request.specs.declared.request.Request.TheVariants as request
use Rattle.fs_request.specs.declared.stream_request.StreamRequest.TheVariants.{Open, Resume, Batch, Ask, Mixed}
use Rattle.fs_stream.specs.declared.error.StreamError.{StreamError}
use Rattle.fs_stream.specs.declared.take.Take.{Take}
use Rattle.fs_stream.specs.declared.take.Take.TheVariants as take
use Rattle.fs_write.specs.declared.write.Write.{Write}
use Rattle.fs_machine.specs.Request.{arrived, numbered}
use Rattle.fs_machine.specs.State.{Machine}
use Rattle.fs_machine.specs.Stream.{new_of, take_of, taken_as}
use Rattle.fs_machine.specs.declared.parked_request.ParkedRequest.{ParkedRequest}

module _ (m : Machine) (session : ℕ) (of : Option (List ℕ)) where
  -- a batch that a stream takes
  abbrev pub as_batch : Root → List Write → ℕ → ParkedRequest
  as_batch database writes n = record { session = session; id = m.numbers.ids + 1; stream = Some n; envelope = record { id = of; request = request.Commit database writes None } }

  module _ (P : ParkedRequest → Type 0) where
    -- what holds of each such batch
    abbrev OfBatches : Request → Type 0
    OfBatches q = (database : Root) (token : ℕ) (writes : List Write) (n : ℕ) → q ≡ request.Write database (Batch token writes) → take_of m session token ≡ Ok (take.New n) → P (as_batch database writes n)

    abbrev as_asked : Request → ParkedRequest
    as_asked q = numbered m session (record { id = of; request = q })

    batch_by : (database : Root) (token : ℕ) (writes : List Write) (t : Result Take StreamError) → take_of m session token ≡ t
        → P (as_asked (request.Write database (Batch token writes))) → OfBatches (request.Write database (Batch token writes)) → P (taken_as (new_of t) (as_asked (request.Write database (Batch token writes))))
    batch_by database token writes (Ok (take.New n)) is here there = there database token writes n refl is
    batch_by database token writes (Ok (take.Repeat kept)) is here there = here
    batch_by database token writes (Ok (take.InProgress n)) is here there = here
    batch_by database token writes (Err e) is here there = here

    request_by : (q : Request) → P (as_asked q) → OfBatches q → P (arrived m session (record { id = of; request = q }))
    request_by (request.Commit database writes transaction) here there = here
    request_by (request.GetDocument name mask when) here there = here
    request_by (request.BatchGetDocuments database names mask when) here there = here
    request_by (request.RunQuery database query when) here there = here
    request_by (request.BeginTransaction database options) here there = here
    request_by (request.Rollback database transaction) here there = here
    request_by (request.AddTarget database target t token) here there = here
    request_by (request.RemoveTarget database target) here there = here
    request_by (request.Write database Open) here there = here
    request_by (request.Write database (Resume n token)) here there = here
    request_by (request.Write database (Batch token writes)) here there = batch_by database token writes (take_of m session token) refl here there
    request_by (request.Write database (Ask token)) here there = here
    request_by (request.Write database (Mixed n token writes)) here there = here

pub arrived_by : (m : Machine) (session : ℕ) (e : Envelope) (P : ParkedRequest → Type 0) → P (numbered m session e)
    → ((database : Root) (token : ℕ) (writes : List Write) (n : ℕ) → e.request ≡ request.Write database (Batch token writes) → take_of m session token ≡ Ok (take.New n) → P (as_batch m session e.id database writes n))
    → P (arrived m session e)
arrived_by m session e P here there = request_by m session e.id P e.request here there
