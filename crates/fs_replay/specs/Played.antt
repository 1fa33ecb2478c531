-- What was played: the state then, what was written on the way, and the events of the server that it was, the first of them first.
use Rattle.std.specs.Prelude.{◌≡◌, ℕ, List, [], ◌∷◌, ◌++◌}
use Rattle.fs_machine.specs.Event.{Event, step}
use Rattle.fs_replay.specs.declared.state.State.{State}

pub record Played : Type 0 where
  pub state : State
  pub output : List ℕ
  pub events : List Event

abbrev pub nothing : State → Played
nothing s = record { state = s; output = []; events = [] }

abbrev pub prints : State → List ℕ → Played
prints s bytes = record { state = s; output = bytes; events = [] }

-- an event of the server, and what is written for it at once
abbrev pub happens : State → Event → List ℕ → Played
happens s e bytes = record { state = record s { server = step s.server e }; output = bytes; events = e ∷ [] }

abbrev pub followed_by : Played → (State → Played) → Played
followed_by p next =
    record { state = (next p.state).state; output = p.output ++ (next p.state).output; events = p.events ++ (next p.state).events }

-- that this was played: the state afterwards, and the output with what it adds
pub record Plays (p : Played) (s : State) (before after : List ℕ) : Type 0 where
  pub state : s ≡ p.state
  pub output : after ≡ before ++ p.output
