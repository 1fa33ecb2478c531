-- Only private clauses cite this: what commits are answered that are let into the history, before anything is changed. No two of them are
-- batches of one stream, so each is answered by its stream as it is.
use Rattle.std.specs.Prelude.{◌≡◌, ℕ, suc, ◌+◌, ◌≤◌, ◌<◌, ◌^◌, ⊤, true, List, [], ◌∷◌, Option, Some, None}
use Rattle.std.specs.List.{flat_map}
use Rattle.fs_request.specs.declared.message.Message.TheVariants as message
use Rattle.fs_stream.specs.Streams.{Streams, finished_with, stream_of}
use Rattle.fs_machine.specs.Stream.{kept_of, owner_told}
use Rattle.fs_machine.specs.StreamsHold.{answers, one_if, tally}
use Rattle.fs_machine.specs.declared.asker.Asker.{Asker}
use Rattle.fs_machine.specs.declared.asker.Asker.TheVariants.{Session, Stream}
use Rattle.fs_machine.specs.declared.committed.Committed.{Committed}
use Rattle.fs_machine.specs.declared.reply.Reply.{Reply}
use Rattle.fs_server.specs.declared.answering.Response.{Response}

abbrev pub reply_if : Option Reply → List Reply
reply_if None = []
reply_if (Some r) = r ∷ []

-- to the session that asked, or to whoever owns the stream
abbrev pub replies_to : Streams → Committed → Asker → List Reply
replies_to s c (Session session request) = record { session = session; message = message.Commit request c.time c.results } ∷ []
replies_to s c (Stream n) = reply_if (owner_told s n (kept_of s n c))

-- what the stream keeps
abbrev pub responses_to : Streams → Committed → Asker → List Response
responses_to s c (Session session request) = []
responses_to s c (Stream n) = record { stream = n; kept = kept_of s n c } ∷ []

abbrev pub replies_of : Streams → List Committed → List Reply
replies_of s cs = flat_map (λ (c : Committed). replies_to s c c.asker) cs

abbrev pub responses_of : Streams → List Committed → List Response
responses_of s cs = flat_map (λ (c : Committed). responses_to s c c.asker) cs

-- each is kept, the first of them first
abbrev pub all_finished : List Response → Streams → Streams
all_finished [] s = s
all_finished (r ∷ rs) s = all_finished rs (finished_with r.stream r.kept s)

-- ---- what may be finished

-- a stream has a batch in progress, which can be counted
abbrev pub CanFinish : Streams → ℕ → Type 0
CanFinish s n = ((stream_of n s).busy ≡ true) × (suc (stream_of n s).finished < 2 ^ 64)

abbrev pub CanFinishAll : Streams → List Response → Type 0
CanFinishAll s [] = ⊤
CanFinishAll s (r ∷ rs) = CanFinish s r.stream × CanFinishAll (finished_with r.stream r.kept s) rs

abbrev pub CanFinishFor : Streams → Asker → Type 0
CanFinishFor s (Session session request) = ⊤
CanFinishFor s (Stream n) = CanFinish s n

-- those of a stream are the one that it has in progress, or none
abbrev pub AreAnswerable : Streams → List Committed → Type 0
AreAnswerable s cs = (n : ℕ) → (tally (λ (c : Committed). answers n c.asker) cs ≤ one_if (stream_of n s).busy) × ((stream_of n s).finished + tally (λ (c : Committed). answers n c.asker) cs < 2 ^ 64)
