-- Always: a stream has at most one batch in progress, and has noted whether it has one. It is a commit that isn't released, or waits to be one. A
-- stream that has finished a batch keeps the response to its last, and each batch has drawn a number.
--
--     stream 1 has two batches finished, and is busy      a commit of it is pending, and none waits
--     that is released                                    three are finished, and none is in progress
use Rattle.std.specs.Prelude.{◌≡◌, ℕ, ◌+◌, ◌≤◌, ◌==◌, Bool, false, List, [], ◌∷◌, Option, if◌then◌else◌}
use Rattle.std.specs.List.{filter}
use Rattle.std.specs.Option.{option_map_or}
use Rattle.fs_stream.specs.Stands.{Stands}
use Rattle.fs_stream.specs.Streams.{Streams, stream_of}
use Rattle.fs_machine.specs.Past.{Past}
use Rattle.fs_machine.specs.declared.asker.Asker.{Asker}
use Rattle.fs_machine.specs.declared.asker.Asker.TheVariants.{Session, Stream}
use Rattle.fs_machine.specs.declared.parked_request.ParkedRequest.{ParkedRequest}
use Rattle.fs_machine.specs.declared.unreleased.Unreleased.{Unreleased}

abbrev pub answers : ℕ → Asker → Bool
answers n (Session session request) = false
answers n (Stream k) = k == n

-- the commits that are batches of a stream
abbrev pub of_stream : ℕ → List Unreleased → List Unreleased
of_stream n us = filter (λ u. answers n u.asker) us

abbrev pub is_for : ℕ → Option ℕ → Bool
is_for n stream = option_map_or (λ k. k == n) stream false

-- and those that wait to be
abbrev pub waiting_for : ℕ → List ParkedRequest → List ParkedRequest
waiting_for n rs = filter (λ r. is_for n r.stream) rs

abbrev pub one_if : Bool → ℕ
one_if b = if b then 1 else 0

-- how many pass a test
abbrev pub tally : {X : Type 0} → (X → Bool) → List X → ℕ
tally p [] = 0
tally p (x ∷ xs) = one_if (p x) + tally p xs

-- how many of its batches are in progress
abbrev pub under_way : ℕ → Past → List ParkedRequest → ℕ
under_way n p rs = tally (λ u. answers n u.asker) p.unreleased + tally (λ r. is_for n r.stream) rs

-- of streams with so many batches in progress
pub record AreCounted (going : ℕ → ℕ) (s : Streams) (ids : ℕ) : Type 0 where
  pub stands : Stands s
  pub one : (n : ℕ) → going n ≡ one_if (stream_of n s).busy
  pub drawn : (n : ℕ) → (stream_of n s).finished + going n ≤ ids

abbrev pub StreamsHold : Past → List ParkedRequest → Streams → ℕ → Type 0
StreamsHold p rs s ids = AreCounted (λ n. under_way n p rs) s ids
