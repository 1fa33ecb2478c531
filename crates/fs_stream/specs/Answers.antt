-- What a session is answered that opens a stream, resumes one, or sends a batch with a stream token. A token is the number of
-- finished batches that its holder knows of.
--
--     two batches are finished, none is in progress
--     token 2      a batch is new, and a resumption is at 2
--     token 1      the response to the second batch was missed: it is given once more
--     token 0      stale: the response to the first batch is kept no longer
--     token 3      ahead: no response had it yet
-- (v1 reference, "WriteRequest": `streamToken`.)
use Rattle.std.specs.Prelude.{ℕ, suc, ◌==◌, ◌&&◌, nat_le, nat_lt, Bool, false, not, Option, Some, None, Result, Ok, Err, is_some, length, if◌then◌else◌}
use Rattle.std.specs.FinMap.{get}
use Rattle.std.specs.Option.{option_map_or}
use Rattle.fs_stream.specs.Streams.{Streams, stream_of}
use Rattle.fs_stream.specs.declared.error.StreamError.{StreamError}
use Rattle.fs_stream.specs.declared.error.StreamError.TheVariants as error
use Rattle.fs_stream.specs.declared.kept.Kept.{Kept}
use Rattle.fs_stream.specs.declared.stream.Stream.{Stream}
use Rattle.fs_stream.specs.declared.take.Resumed.{Resumed}
use Rattle.fs_stream.specs.declared.take.Resumed.TheVariants as resumed
use Rattle.fs_stream.specs.declared.take.Take.{Take}
use Rattle.fs_stream.specs.declared.take.Take.TheVariants as take

-- ---- of one stream

-- what who knows of so many finished batches has missed: nothing, or the response to the last
abbrev pub missed : Stream → ℕ → Result (Option Kept) StreamError
missed s known =
    if known == s.finished then Ok None
    else if suc known == s.finished then Ok s.kept
    else if nat_lt known s.finished then Err (error.Stale known s.finished)
    else Err (error.Ahead known s.finished)

-- a batch of who has missed that, of the stream of a number
abbrev pub batch_of : ℕ → Stream → Result (Option Kept) StreamError → Result Take StreamError
batch_of n s (Err e) = Err e
batch_of n s (Ok (Some kept)) = Ok (take.Repeat kept)
batch_of n s (Ok None) = Ok (if s.busy then take.InProgress s.finished else take.New n)

abbrev pub batch_told : ℕ → Stream → ℕ → Result Take StreamError
batch_told n s known = batch_of n s (missed s known)

-- a resumption of who has missed that
abbrev pub resumed_of : Stream → Result (Option Kept) StreamError → Result Resumed StreamError
resumed_of s (Err e) = Err e
resumed_of s (Ok (Some kept)) = Ok (resumed.Repeat kept)
resumed_of s (Ok None) = Ok (resumed.At s.finished)

abbrev pub resumption_told : Stream → ℕ → Result Resumed StreamError
resumption_told s known = resumed_of s (missed s known)

-- ---- of all streams

-- as many were opened as may be
abbrev pub is_full : Streams → Bool
is_full m = nat_le m.limit (length m.opened)

-- the limit comes before the session's own stream
abbrev pub open_refusal : ℕ → Streams → Option StreamError
open_refusal session m =
    if is_full m then Some (error.TooMany m.limit)
    else if is_some (get m.owners session) then Some error.Second
    else None

abbrev pub by_owned : Option ℕ → ℕ → Streams → Result Take StreamError
by_owned None known m = Err error.NotOwner
by_owned (Some n) known m = batch_told n (stream_of n m) known

-- of a batch of the stream that the session owns
abbrev pub take_answer : ℕ → ℕ → Streams → Result Take StreamError
take_answer session known m = by_owned (get m.owners session) known m

-- a stream was opened with this number
abbrev pub is_opened : ℕ → Streams → Bool
is_opened n m = nat_lt 0 n && nat_le n (length m.opened)

-- the session owns another one
abbrev pub owns_other : ℕ → ℕ → Streams → Bool
owns_other session n m = option_map_or (λ own. not (own == n)) (get m.owners session) false

abbrev pub resume_answer : ℕ → ℕ → ℕ → Streams → Result Resumed StreamError
resume_answer session n known m =
    if not (is_opened n m) then Err (error.Unknown n)
    else if owns_other session n m then Err error.Second
    else resumption_told (stream_of n m) known
