-- The clock goes on to a moment: no later commit has that moment as its time or an earlier one. Transactions
-- whose time has run out by then expire. Then what can be is released.
use Rattle.std.specs.Prelude.{ℤ, int_lt, if◌then◌else◌}
use Rattle.fs_txn.specs.Expiry.{expired_at}
use Rattle.fs_machine.specs.Past.{Past}
use Rattle.fs_machine.specs.Release.{released}
use Rattle.fs_machine.specs.State.{Machine}

abbrev pub later : ℤ → ℤ → ℤ
later a b = if int_lt a b then b else a

abbrev pub past_advanced : Past → ℤ → Past
past_advanced p now = record p { last = later p.last now; moment = now }

abbrev pub advanced : Machine → ℤ → Machine
advanced m now = record m { past = past_advanced m.past now; txns = expired_at now m.txns }

abbrev pub ticked : Machine → ℤ → Machine
ticked m now = released (advanced m now)
