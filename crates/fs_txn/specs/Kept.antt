-- Only the models and private clauses cite this: what the transactions are kept in.
use Rattle.std.specs.Prelude.{◌≡◌, ℕ, zero, suc, ◌+◌, ◌≤◌, ℤ, ◌+ℤ◌, ◌≤ℤ◌, Bool, false, not, ◌&&◌, ◌==◌, List, map, length}
use Rattle.std.specs.Int.{int_min}
use Rattle.std.specs.List.{AllByRecursion, list_any}
use Rattle.std.specs.Option.{option_map_or}
use Rattle.fs_locks.specs.Shares.{Shares, is_shared, without_last_share}
use Rattle.fs_path.specs.declared.name.DocName.{DocName}
use Rattle.fs_txn.specs.declared.txn.Txn.{Txn}
use Rattle.fs_txn.specs.Expiry.{idle, is_over, longest, remembered}
use Rattle.fs_txn.specs.Reading.{reads_name, shown_to_all}
use Rattle.fs_txn.specs.Rising.{Rise}
use Rattle.fs_txn.specs.Transactions.{is_read_write, txn_of}

-- the transactions of these entries by ids
abbrev pub txns : List (ℕ × Txn) → List Txn
txns es = map (λ e. e.1) es

-- each stands at its id, and the ids rise
pub record AreById (es : List (ℕ × Txn)) : Type 0 where
  pub keys : AllByRecursion (λ e. e.0 ≡ e.1.id) es
  pub rise : Rise (txns es)

-- the number of those that are remembered and the room for them, the bytes that all were shown
pub record IsKept (ts : List Txn) (len capacity bytes : ℕ) : Type 0 where
  -- so that one that expires can be remembered without memory
  pub room : length ts + len ≤ capacity
  pub few : len ≤ remembered
  pub counted : bytes ≡ shown_to_all ts

-- each id holds shared what its transaction has read
abbrev pub AreReads : Shares → List Txn → Type 0
AreReads shares ts = (i : ℕ) (n : DocName) → is_shared shares i n ≡ reads_name ts n i

-- all of that
abbrev pub Holds : List Txn → ℕ → ℕ → ℕ → Shares → Type 0
Holds ts len capacity bytes shares = IsKept ts len capacity bytes × AreReads shares ts

-- the first moment at a tick of which one expires
abbrev pub ends : Txn → ℤ
ends t = int_min (t.used +ℤ idle) (t.begun +ℤ longest)

-- none expires before a moment
abbrev pub IsQuiet : ℤ → List Txn → Type 0
IsQuiet due ts = AllByRecursion (λ t. due ≤ℤ ends t) ts

-- the one of an id expires at a tick
abbrev pub is_one_over : ℤ → List Txn → ℕ → Bool
is_one_over now ts i = list_any (λ t. t.id == i && is_over now t) ts

-- ids hold shared what they held, but for those whose transactions expire at a tick
abbrev pub Releases : Shares → Shares → ℤ → List Txn → Type 0
Releases old new now ts = (i : ℕ) (n : DocName) → is_shared new i n ≡ (not (is_one_over now ts i) && is_shared old i n)

-- the open one of an id reads and writes
abbrev pub read_writes : ℕ → List Txn → Bool
read_writes id ts = option_map_or (λ t. is_read_write t.kind) (txn_of id ts) false

-- so many of the things that an id came to hold last are taken back
abbrev pub without_lasts : ℕ → Shares → ℕ → Shares
without_lasts zero shares id = shares
without_lasts (suc k) shares id = without_last_share (without_lasts k shares id) id
