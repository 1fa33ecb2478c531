-- A shard is matched up to a time: each target that is loaded was told then what was changed there up to that time. It is no time that
-- isn't released yet.
use Rattle.std.specs.Prelude.{ℕ, ℤ, map}
use Rattle.fs_listen.specs.Listening.{matched as matched_in}
use Rattle.fs_machine.specs.Compact.{earlier}
use Rattle.fs_machine.specs.Listeners.{Listener}
use Rattle.fs_machine.specs.State.{Machine}

abbrev pub matched_to : ℕ → ℤ → Listener → Listener
matched_to shard to l = record l { listening = matched_in shard to l.listening }

abbrev pub matched : Machine → ℕ → ℤ → Machine
matched m shard to = record m { listeners = map (matched_to shard (earlier to m.past.released)) m.listeners }
