-- Times before a floor are given up: the floor rises to a time, but not above what is released, the times at which open transactions read,
-- and the positions of targets that are loaded; and it never falls.
-- (Cloud Firestore documentation, "Point-in-time recovery": how far back can be read.)
use Rattle.std.specs.Prelude.{ℤ, ◌∷◌, Option, int_lt, if◌then◌else◌, map}
use Rattle.fs_txn.specs.Reading.{earlier as earlier_of, oldest}
use Rattle.fs_listen.specs.Cuts.{least, least_position}
use Rattle.fs_machine.specs.Listeners.{Listener}
use Rattle.fs_machine.specs.Past.{Past}
use Rattle.fs_machine.specs.State.{Machine}
use Rattle.fs_machine.specs.Tick.{later}

abbrev pub earlier : ℤ → ℤ → ℤ
earlier a b = if int_lt a b then a else b

-- where the least time that is still asked for is this, if there is one
abbrev pub floor_after : Past → Option ℤ → ℤ → ℤ
floor_after p first to = later p.floor (earlier_of first (earlier to p.released))

abbrev pub past_compacted : Past → Option ℤ → ℤ → Past
past_compacted p first to = record p { floor = floor_after p first to }

-- that of the transactions that are open, and of the targets
abbrev pub first_asked : Machine → Option ℤ
first_asked m = least (oldest m.txns.open ∷ map (λ (l : Listener). least_position l.listening) m.listeners)

abbrev pub compacted : Machine → ℤ → Machine
compacted m to = record m { past = past_compacted m.past (first_asked m) to }
