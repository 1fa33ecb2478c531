-- The events of a server, and where they lead.
use Rattle.std.specs.Prelude.{ℕ, ℤ, List, [], ◌∷◌, Option}
use Rattle.fs_request.specs.declared.request.Envelope.{Envelope}
use Rattle.fs_machine.specs.Compact.{compacted}
use Rattle.fs_machine.specs.Leave.{departed}
use Rattle.fs_machine.specs.Load.{loaded}
use Rattle.fs_machine.specs.Match.{matched}
use Rattle.fs_machine.specs.Open.{opened}
use Rattle.fs_machine.specs.Outbox.{taken}
use Rattle.fs_machine.specs.Raise.{raised}
use Rattle.fs_machine.specs.Release.{released}
use Rattle.fs_machine.specs.Request.{asked}
use Rattle.fs_machine.specs.Retry.{retried}
use Rattle.fs_machine.specs.Settle.{decided}
use Rattle.fs_machine.specs.State.{Machine}
use Rattle.fs_machine.specs.Tick.{advanced}

-- a tick is an advancing and then a releasing, and a settling a deciding and then a releasing
pub data Event : Type 0 where
  opening : Event
  leaving : (session : ℕ) → Event
  asking : (session : ℕ) → (e : Envelope) → Event
  -- the request that waits at this place is tried again
  retrying : (place : ℕ) → Event
  deciding : (id : ℕ) → Event
  advancing : (now : ℤ) → Event
  releasing : Event
  compacting : (to : ℤ) → Event
  -- a session's target is loaded, at a time or at what is released
  loading : (session target : ℕ) → (at : Option ℤ) → Event
  matching : (shard : ℕ) → (to : ℤ) → Event
  raising : (session : ℕ) → Event
  -- a session's messages are taken, which is no event of the database
  taking : (session : ℕ) → Event

abbrev pub step : Machine → Event → Machine
step m opening = opened m
step m (leaving session) = departed m session
step m (asking session e) = asked m session e
step m (retrying place) = retried m place
step m (deciding id) = decided m id
step m (advancing now) = advanced m now
step m releasing = released m
step m (compacting to) = compacted m to
step m (loading session target at) = loaded m session target at
step m (matching shard to) = matched m shard to
step m (raising session) = raised m session
step m (taking session) = taken m session

-- the first of them first
abbrev pub after : Machine → List Event → Machine
after m [] = m
after m (e ∷ es) = after (step m e) es
