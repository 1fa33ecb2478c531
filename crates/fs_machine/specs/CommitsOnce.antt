-- What a request asks for is committed once at most: an event adds no more to what was committed, or may be, than it asks for. So a batch that is
-- sent to a stream again adds nothing, whatever it is answered.
--
--     the event                           asks for     committed, or may be
--     session 4 commits                   1            1: it is pending
--     4 sends a batch with token 0        1            2: its stream takes it
--     4 sends it once more                0            2
--     both are settled, and released      0            2: they are in the history
use Rattle.std.specs.Prelude.{ℕ, ◌+◌, ◌≤◌, Bool, true, false, List, [], ◌∷◌, length}
use Rattle.fs_request.specs.declared.request.Request.{Request}
use Rattle.fs_request.specs.declared.request.Request.TheVariants.{Commit}
use Rattle.fs_machine.specs.Event.{Event, after, asking, step}
use Rattle.fs_machine.specs.State.{Machine}
use Rattle.fs_machine.specs.Stream.{own_stream}
use Rattle.fs_machine.specs.StreamLaws.{takes}
use Rattle.fs_machine.specs.StreamsHold.{one_if, tally}

abbrev pub is_commit : Request → Bool
is_commit (Commit database writes transaction) = true
is_commit _ = false

-- what was committed, or may be: the history, the commits that aren't released, and those that wait
abbrev pub commits_in : Machine → ℕ
commits_in m = (length m.past.history + length m.past.unreleased) + tally (λ r. is_commit r.envelope.request) m.parked

-- what an event asks for: a commit, or a batch that the stream takes which the session owns
abbrev pub asks_for : Machine → Event → ℕ
asks_for m (asking session e) = one_if (is_commit e.request) + length (takes m (asking session e) (own_stream m session))
asks_for m _ = 0

-- over a run
abbrev pub asked_in : Machine → List Event → ℕ
asked_in m [] = 0
asked_in m (e ∷ es) = asks_for m e + asked_in (step m e) es

abbrev pub RequestsCommitOnce : Type 0
RequestsCommitOnce = (m : Machine) (events : List Event) → commits_in (after m events) ≤ commits_in m + asked_in m events
