-- The numbers that requests may not pass. (This project's own.)
use Rattle.std.specs.Prelude.{ℕ, ◌≤◌, unsigned_abs}
use Rattle.fs_time.specs.Moment.{last_moment}
use Rattle.fs_write.specs.Limits.{most_writes}
use Rattle.fs_machine.specs.declared.limits.Limits.{Limits}

abbrev pub greatest : Limits
greatest = record {
  writes = most_writes;
  outbox = 1000;
  sessions = 64;
  targets = 100;
  transactions = 1000;
  streams = 100000;
  parked = 1000;
  batches = 1000000;
  journal = 134217728;
  reads = 134217728;
  ids = 18446744073709551615;
  time = unsigned_abs last_moment;
  queue = 1000;
  clients = 64;
}

-- no session has a number so high
abbrev pub session_numbers : ℕ
session_numbers = 4294967296

-- limits that a server may have
pub record AreAllowed (limits : Limits) : Type 0 where
  pub writes : limits.writes ≤ greatest.writes
  pub outbox : limits.outbox ≤ greatest.outbox
  pub sessions : limits.sessions ≤ greatest.sessions
  pub targets : limits.targets ≤ greatest.targets
  pub transactions : limits.transactions ≤ greatest.transactions
  pub streams : limits.streams ≤ greatest.streams
  pub parked : limits.parked ≤ greatest.parked
  pub batches : limits.batches ≤ greatest.batches
  pub journal : limits.journal ≤ greatest.journal
  pub reads : limits.reads ≤ greatest.reads
  pub ids : limits.ids ≤ greatest.ids
  pub time : limits.time ≤ greatest.time
  pub queue : limits.queue ≤ greatest.queue
  pub clients : limits.clients ≤ greatest.clients
