-- What transactions keep from being committed, or wait for. In pessimistic mode what an open read-write transaction has read is held:
-- a plain commit that touches it waits, and a transaction's commit that touches what another has read is in conflict with that one. In
-- optimistic mode nobody waits for a transaction, and one is in conflict with each commit since its begin that touches what it has read.
--
--     1 and 2 are open, 1 has read c/a       a plain commit of c/a waits for 1; 2, which writes c/a, is in conflict with 1
--     in optimistic mode, once 3 wrote c/a   1 is in conflict with 3; 2 isn't in conflict
-- (Cloud Firestore documentation, "Transaction serializability and isolation".)
use Rattle.std.specs.Prelude.{ℕ, ℤ, int_lt, Bool, ◌&&◌, ◌==◌, not, List, ◌++◌, Option, None, map}
use Rattle.std.specs.List.{filter}
use Rattle.fs_history.specs.Touches.{some_touched}
use Rattle.fs_history.specs.declared.read.Read.{Read}
use Rattle.fs_txn.specs.Transactions.{is_read_write}
use Rattle.fs_txn.specs.declared.txn.Txn.{Txn}
use Rattle.fs_write.specs.declared.write.Write.{Write}
use Rattle.fs_machine.specs.Behind.{least, writing_same}
use Rattle.fs_machine.specs.Past.{Past, batches}
use Rattle.fs_machine.specs.declared.config.Mode.{Mode}
use Rattle.fs_machine.specs.declared.config.Mode.TheVariants.{Pessimistic, Optimistic}
use Rattle.fs_machine.specs.declared.unreleased.Unreleased.{Unreleased}

-- one reads and writes, and has a read that one of these writes touches
abbrev pub is_reader : List Write → Txn → Bool
is_reader ws t = is_read_write t.kind && some_touched ws t.reads

-- the numbers of those
abbrev pub readers_of : List Txn → List Write → List ℕ
readers_of ts ws = map (λ t. t.id) (filter (is_reader ws) ts)

-- the others than the one of a number
abbrev pub others : ℕ → List Txn → List Txn
others id ts = filter (λ t. not (t.id == id)) ts

-- the numbers of the commits that aren't released and touch one of these reads
abbrev pub touching : List Unreleased → List Read → List ℕ
touching us rs = map (λ u. u.batch.id) (filter (λ u. some_touched u.batch.writes rs) us)

-- and those of the commits later than a time, released or not
abbrev pub touching_since : ℤ → Past → List Read → List ℕ
touching_since time p rs = map (λ b. b.id) (filter (λ b. int_lt time b.time && some_touched b.writes rs) (batches p.unreleased ++ p.history))

-- ---- what waits for whom

-- a plain commit of these writes; that of a transaction waits as `behind` says
abbrev pub plain_behind : Mode → Past → List Txn → List Write → Option ℕ
plain_behind Pessimistic p ts ws = least (writing_same p.unreleased ws ++ readers_of ts ws)
plain_behind Optimistic p ts ws = least (writing_same p.unreleased ws)

-- reads in a read-write transaction
abbrev pub read_behind : Mode → Past → List Read → Option ℕ
read_behind Pessimistic p rs = least (touching p.unreleased rs)
read_behind Optimistic p rs = None

-- ---- what is in conflict with whom

-- the commit of these writes of a transaction among those that are open
abbrev pub conflict : Mode → Past → List Txn → Txn → List Write → Option ℕ
conflict Pessimistic p ts t ws = least (readers_of (others t.id ts) ws)
conflict Optimistic p ts t ws = least (touching_since t.read_time p t.reads)
