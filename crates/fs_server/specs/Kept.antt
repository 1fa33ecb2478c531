-- Only the model of a server cites this: what it is made of. What was committed keeps its own promises.
use Rattle.std.specs.Prelude.{◌≡◌, List}
use Rattle.fs_txn.specs.Transactions.{Transactions}
use Rattle.fs_machine.specs.Config.{IsAllowed}
use Rattle.fs_machine.specs.IdsAreDrawn.{IdsAreDrawn}
use Rattle.fs_machine.specs.Limits.{AreAllowed}
use Rattle.fs_machine.specs.ListenersHold.{ListenersHold}
use Rattle.fs_machine.specs.Past.{Past}
use Rattle.fs_machine.specs.SessionsNumbered.{SessionsNumbered}
use Rattle.fs_machine.specs.StreamsHold.{StreamsHold}
use Rattle.fs_machine.specs.TransactionsHold.{TransactionsHold}
use Rattle.fs_machine.specs.WaitersAsk.{WaitersAsk}
use Rattle.fs_machine.specs.declared.config.Config.{Config}
use Rattle.fs_machine.specs.declared.limits.Limits.{Limits}
use Rattle.fs_machine.specs.declared.numbers.Numbers.{Numbers}
use Rattle.fs_machine.specs.declared.parked_request.ParkedRequest.{ParkedRequest}
use Rattle.fs_machine.specs.declared.session.Session.{Session}
use Rattle.fs_sessions.specs.Heard.{AreHeard, Heard, listeners_of}
use Rattle.fs_stream.specs.Streams.{Streams}

pub record IsKept (config : Config) (limits : Limits) (past : Past) (txns : Transactions) (sessions : List Session) (listeners : List Heard) (parked : List ParkedRequest) (streams : Streams) (numbers : Numbers) : Type 0 where
  pub configured : IsAllowed config
  pub allowed : AreAllowed limits
  pub drawn : IdsAreDrawn past txns parked numbers.ids
  pub held : TransactionsHold config.mode past txns.open
  pub numbered : SessionsNumbered sessions numbers.sessions
  pub listened : ListenersHold past sessions (listeners_of listeners) numbers.targets
  pub waiting : WaitersAsk parked
  pub streaming : StreamsHold past parked streams numbers.ids
  -- by so many shards changes are told
  pub shards : past.shards ≡ config.shards
  -- what is kept of targets is what the history has
  pub heard : AreHeard config limits past listeners
