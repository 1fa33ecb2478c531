-- All messages that a session is given in its outbox, event by event, whether they are taken meanwhile or not. What it is told of its targets
-- there, and the responses of its stream, are among them. None is lost, and none comes twice or in another order, as long as it is open.
--
--     the event           session 0 is given                 its outbox
--     8 is released       the response to its commit at 8    that
--     raising 0           CURRENT 1 and NO_CHANGE            all three
--     taking 0            -                                  -
--     9 is released       the response to its commit at 9    that, which is lost if 0 leaves now
use Rattle.std.specs.Prelude.{◌≡◌, ℕ, ◌==◌, true, List, [], ◌∷◌, ◌++◌, drop, length, if◌then◌else◌}
use Rattle.fs_request.specs.declared.message.Message.{Message}
use Rattle.fs_machine.specs.Event.{Event, after, deciding, leaving, loading, raising, releasing, retrying, step, taking}
use Rattle.fs_machine.specs.Facts.{Facts}
use Rattle.fs_machine.specs.Outbox.{outbox_of}
use Rattle.fs_machine.specs.State.{Machine}
use Rattle.fs_machine.specs.Told.{all_said, is_open, outbox_said}

-- ---- what an event does

-- the messages behind those that stood in the outbox
abbrev pub more_in : Machine → Machine → ℕ → List Message
more_in before now session = drop (length (outbox_of before session)) (outbox_of now session)

-- those that it gives a session: other events give none
abbrev pub given_by : Machine → Event → ℕ → List Message
given_by m (retrying place) session = more_in m (step m (retrying place)) session
given_by m (deciding id) session = more_in m (step m (deciding id)) session
given_by m releasing session = more_in m (step m releasing) session
given_by m (loading other target at) session = more_in m (step m (loading other target at)) session
given_by m (raising other) session = more_in m (step m (raising other)) session
given_by m _ session = []

-- those that are taken from it
abbrev pub taken_by : Machine → Event → ℕ → List Message
taken_by m (taking other) session = if other == session then outbox_of m session else []
taken_by m _ session = []

-- those that are lost, since it leaves
abbrev pub lost_by : Machine → Event → ℕ → List Message
lost_by m (leaving other) session = if other == session then outbox_of m session else []
lost_by m _ session = []

-- ---- over a run, the first of the events first

abbrev pub given_in : Machine → List Event → ℕ → List Message
given_in m [] session = []
given_in m (e ∷ es) session = given_by m e session ++ given_in (step m e) es session

abbrev pub taken_in : Machine → List Event → ℕ → List Message
taken_in m [] session = []
taken_in m (e ∷ es) session = taken_by m e session ++ taken_in (step m e) es session

abbrev pub lost_in : Machine → List Event → ℕ → List Message
lost_in m [] session = []
lost_in m (e ∷ es) session = lost_by m e session ++ lost_in (step m e) es session

-- ---- the laws

-- what waited for a session and what it is given then is what is taken from it, and then what is lost as it leaves, or waits for it still; and
-- of one that is open nothing was lost
pub record AreTaken (m : Machine) (events : List Event) (session : ℕ) : Type 0 where
  pub all : outbox_of m session ++ given_in m events session ≡ taken_in m events session ++ (lost_in m events session ++ outbox_of (after m events) session)
  pub lost : is_open session (after m events).sessions ≡ true → lost_in m events session ≡ []

abbrev pub MessagesAreTaken : Type 0
MessagesAreTaken = (m : Machine) (events : List Event) (session : ℕ) → Facts m → AreTaken m events session

-- and what it is told of its targets in its outbox is what these messages say of them
abbrev pub SaidIsGiven : Type 0
SaidIsGiven = (m : Machine) (e : Event) (session : ℕ) → Facts m → outbox_said m e session ≡ all_said (given_by m e session)
