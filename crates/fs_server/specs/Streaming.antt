-- Only private clauses cite this: what becomes of a request of a write stream, and what it is answered.
use Rattle.std.specs.Prelude.{◌≡◌, ℕ, ◌+◌, Bool, List, [], ◌∷◌, ◌++◌, Option, Some, None, Result, Ok, Err}
use Rattle.fs_path.specs.declared.name.Root.{Root}
use Rattle.fs_request.specs.declared.request.Envelope.{Envelope}
use Rattle.fs_request.specs.declared.request.Request.TheVariants as request
use Rattle.fs_request.specs.declared.stream_request.StreamRequest.{StreamRequest}
use Rattle.fs_status.specs.Refusal.{refusal_of}
use Rattle.fs_status.specs.declared.refusal.Refusal.{Refusal}
use Rattle.fs_stream.specs.Streams.{taken}
use Rattle.fs_stream.specs.declared.error.StreamError.{StreamError}
use Rattle.fs_stream.specs.declared.take.Take.{Take}
use Rattle.fs_stream.specs.declared.take.Take.TheVariants.{New}
use Rattle.fs_write.specs.declared.write.Write.{Write}
use Rattle.fs_machine.specs.Commit.{commit_refusal, past_prepared, unless_closed}
use Rattle.fs_machine.specs.Request.{Decision, comes, decided_answer, unless_full, unless_held, writer_behind}
use Rattle.fs_machine.specs.State.{Machine}
use Rattle.fs_machine.specs.Stream.{batch_refusal, is_known, known_answer, new_of, reason_of, stream_check, stream_refusal, streamed, streamed_answer, take_of}
use Rattle.fs_machine.specs.declared.answer.Answer.{Answer}
use Rattle.fs_machine.specs.declared.answer.Answer.TheVariants.{Refused}
use Rattle.fs_machine.specs.declared.asker.Asker.TheVariants.{Stream}
use Rattle.fs_machine.specs.declared.parked_request.ParkedRequest.{ParkedRequest}
use Rattle.fs_server.specs.Changes.{asking, commit_for}

abbrev pub writing : Option (List ℕ) → Root → StreamRequest → Envelope
writing id database asked = record { id = id; request = request.Write database asked }

-- ---- one that is no batch

abbrev pub refusal_of_stream : Machine → ℕ → StreamRequest → Option Refusal
refusal_of_stream m session asked = unless_closed (stream_refusal m session asked) (stream_check m session asked)

abbrev pub streamed_unless : Option Refusal → Machine → ℕ → StreamRequest → Machine
streamed_unless (Some refusal) m session asked = m
streamed_unless None m session asked = streamed m session asked

abbrev pub after_streaming : Machine → ℕ → StreamRequest → Machine
after_streaming m session asked = streamed_unless (refusal_of_stream m session asked) m session asked

abbrev pub streamed_told : Option Refusal → Machine → ℕ → StreamRequest → Answer
streamed_told (Some refusal) m session asked = Refused refusal
streamed_told None m session asked = streamed_answer m session asked

abbrev pub streaming_answer : Machine → ℕ → StreamRequest → Answer
streaming_answer m session asked = streamed_told (refusal_of_stream m session asked) m session asked

-- ---- a batch, which draws a number

abbrev pub number_drawn : Machine → Machine
number_drawn m = record m { numbers = record m.numbers { ids = m.numbers.ids + 1 } }

-- the commit that it is
abbrev pub commit_of : Option (List ℕ) → Root → List Write → Envelope
commit_of id database writes = record { id = id; request = request.Commit database writes None }

abbrev pub batch_of : Machine → ℕ → Option (List ℕ) → Root → ℕ → List Write → ParkedRequest
batch_of m session id database n writes = asking session (m.numbers.ids + 1) (Some n) (commit_of id database writes)

-- what one that isn't new is answered, by whether its session ever owned a stream, and which it owns
abbrev pub told_batch : Bool → ℕ → Result Take StreamError → Answer
told_batch ever n (Ok take) = known_answer n (Ok take)
told_batch ever n (Err e) = Refused (refusal_of (reason_of ever e))

-- one of these writes is the next of a stream, and passes no limit
pub record IsNext (m : Machine) (session n : ℕ) (writes : List Write) : Type 0 where
  pub token : ℕ
  pub take : take_of m session token ≡ Ok (New n)
  pub limits : commit_refusal m session writes None ≡ None

-- one that a session sends passes no limit, and isn't new
pub record IsKnown (m : Machine) (session : ℕ) (take : Result Take StreamError) : Type 0 where
  pub token : ℕ
  pub writes : List Write
  pub is : take ≡ take_of m session token
  pub known : new_of take ≡ None
  pub limits : batch_refusal m session writes (is_known take) ≡ None

-- what becomes of the next one
abbrev pub next_decision : Machine → List Write → Decision
next_decision m writes = unless_full m (unless_held (writer_behind m writes None))

abbrev pub after_next : Machine → ParkedRequest → List Write → Machine
after_next m r writes = comes (number_drawn m) r (next_decision m writes)

abbrev pub told_next : Machine → ParkedRequest → List Write → Answer
told_next m r writes = decided_answer (number_drawn m) r (next_decision m writes)

-- it is pending, or waits
abbrev pub batch_prepared : Machine → ℕ → List Write → Machine
batch_prepared m n writes = record (number_drawn m) {
  past = past_prepared m.past (commit_for m.past (m.numbers.ids + 1) (Stream n) writes []);
  streams = taken (New n) m.streams;
}

abbrev pub batch_parked : Machine → ParkedRequest → ℕ → Machine
batch_parked m r n = record (number_drawn m) { parked = m.parked ++ r ∷ []; streams = taken (New n) m.streams }
