-- What stands at every moment.
use Rattle.fs_machine.specs.FloorIsReleased.{FloorIsReleased}
use Rattle.fs_machine.specs.HistoryRises.{HistoryRises}
use Rattle.fs_machine.specs.IdsAreDrawn.{IdsAreDrawn}
use Rattle.fs_machine.specs.ListenersHold.{ListenersHold}
use Rattle.fs_machine.specs.NamesApart.{NamesApart}
use Rattle.fs_machine.specs.Past.{Past}
use Rattle.fs_machine.specs.ReadsHold.{ReadsHold}
use Rattle.fs_machine.specs.ResultsHold.{ResultsHold}
use Rattle.fs_machine.specs.SessionsNumbered.{SessionsNumbered}
use Rattle.fs_machine.specs.State.{Machine}
use Rattle.fs_machine.specs.StreamsHold.{StreamsHold}
use Rattle.fs_machine.specs.TransactionsHold.{TransactionsHold}
use Rattle.fs_machine.specs.UnreleasedRise.{UnreleasedRise}
use Rattle.fs_machine.specs.WaitersAsk.{WaitersAsk}

-- of what was committed
pub record PastFacts (p : Past) : Type 0 where
  pub history : HistoryRises p
  pub unreleased : UnreleasedRise p
  pub floor : FloorIsReleased p
  pub names : NamesApart p
  pub results : ResultsHold p
  pub reads : ReadsHold p

-- of a server
pub record Facts (m : Machine) : Type 0 where
  pub past : PastFacts m.past
  pub ids : IdsAreDrawn m.past m.txns m.parked m.numbers.ids
  pub txns : TransactionsHold m.config.mode m.past m.txns.open
  pub sessions : SessionsNumbered m.sessions m.numbers.sessions
  pub listeners : ListenersHold m.past m.sessions m.listeners m.numbers.targets
  pub waiters : WaitersAsk m.parked
  pub streams : StreamsHold m.past m.parked m.streams m.numbers.ids
