-- What a server is at a moment. It is cut into groups by what its promises speak of, so that an event that leaves a group
-- alone keeps what is promised of it.
use Rattle.std.specs.Prelude.{ℤ, List, [], refl}
use Rattle.std.specs.Coded.{Coded, code_by, coded×, coded_list}
use Rattle.fs_stream.specs.Streams.{Streams, none_opened, streams_code}
use Rattle.fs_txn.specs.Transactions.{Transactions, transactions_code}
use Rattle.fs_machine.specs.contracts.config.Config as config
use Rattle.fs_machine.specs.contracts.limits.Limits as limits
use Rattle.fs_machine.specs.contracts.numbers.Numbers as numbers
use Rattle.fs_machine.specs.contracts.parked_request.ParkedRequest as parked_request
use Rattle.fs_machine.specs.contracts.session.Session as session
use Rattle.fs_machine.specs.declared.config.Config.{Config}
use Rattle.fs_machine.specs.declared.limits.Limits.{Limits}
use Rattle.fs_machine.specs.declared.numbers.Numbers.{Numbers}
use Rattle.fs_machine.specs.declared.parked_request.ParkedRequest.{ParkedRequest}
use Rattle.fs_machine.specs.declared.session.Session.{Session}
use Rattle.fs_machine.specs.Listeners.{Listener, listener_code}
use Rattle.fs_machine.specs.Past.{Past, past_code, past_from}

pub record Machine : Type 0 where
  -- no event changes these two
  pub config : Config
  pub limits : Limits
  pub past : Past
  -- those that are open, and those that expired last
  pub txns : Transactions
  -- those that are open, in the order of opening
  pub sessions : List Session
  -- what they listen to, in the same order
  pub listeners : List Listener
  -- the requests that wait, in the order of their arrival
  pub parked : List ParkedRequest
  -- the write streams that were opened, and who owns which
  pub streams : Streams
  pub numbers : Numbers

-- it is stored as the tuple of its parts
abbrev pub machine_code : Coded Machine
machine_code =
    code_by (Config × (Limits × (Past × (Transactions × (List Session × (List Listener × (List ParkedRequest × (Streams × Numbers))))))))
    (coded× config.the_row.coded (coded× limits.the_row.coded (coded× past_code (coded× transactions_code (coded× (coded_list session.the_row.coded) (coded× (coded_list listener_code) (coded× (coded_list parked_request.the_row.coded) (coded× streams_code numbers.the_row.coded))))))))
    (λ m. (m.config, (m.limits, (m.past, (m.txns, (m.sessions, (m.listeners, (m.parked, (m.streams, m.numbers)))))))))
    (λ t. record { config = t.0; limits = t.1.0; past = t.1.1.0; txns = t.1.1.1.0; sessions = t.1.1.1.1.0; listeners = t.1.1.1.1.1.0; parked = t.1.1.1.1.1.1.0; streams = t.1.1.1.1.1.1.1.0; numbers = t.1.1.1.1.1.1.1.1 })
    (λ _. refl)

-- where it begins, at a moment
abbrev pub started : Config → Limits → ℤ → Machine
started config limits start = record {
  config = config;
  limits = limits;
  past = past_from config.shards start;
  txns = record { «open» = []; expired = [] };
  sessions = [];
  listeners = [];
  parked = [];
  streams = none_opened limits.streams;
  numbers = record { ids = 0; sessions = 0; targets = 0 };
}
