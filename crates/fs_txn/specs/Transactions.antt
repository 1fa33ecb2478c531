-- The open transactions of a database, and those that expired and are remembered.
--
--     begin 1, begin 2             open: 1, 2                 2 is open
--     1 reads c/a                  open: 1 (c/a), 2           a write of c/a touches what 1 has read
--     60 s later, a tick           no one is open             expired: 1, 2
-- (v1 reference, "BeginTransaction".)
use Rattle.std.specs.Prelude.{◌≡◌, ℕ, ℤ, Bool, true, false, not, ◌==◌, nat_lt, List, [], ◌∷◌, ◌++◌, Option, None, refl, if◌then◌else◌}
use Rattle.std.specs.List.{find, filter}
use Rattle.std.specs.Coded.{Coded, code_by, coded×, coded_list}
use Rattle.fs_history.specs.declared.read.Read.{Read}
use Rattle.fs_txn.specs.contracts.expired.Expired as expired
use Rattle.fs_txn.specs.contracts.txn.Txn as txn
use Rattle.fs_txn.specs.declared.expired.Expired.{Expired}
use Rattle.fs_txn.specs.declared.kind.Kind.{Kind}
use Rattle.fs_txn.specs.declared.kind.Kind.TheVariants.{ReadWrite, ReadOnly}
use Rattle.fs_txn.specs.declared.txn.Txn.{Txn}

pub record Transactions : Type 0 where
  -- by rising id
  pub «open» : List Txn
  -- the one that expired last is the last
  pub expired : List Expired

-- they are stored as the tuple of their parts
abbrev pub transactions_code : Coded Transactions
transactions_code =
    code_by (List Txn × List Expired)
    (coded× (coded_list txn.the_row.coded) (coded_list expired.the_row.coded))
    (λ ts. (ts.open, ts.expired))
    (λ p. record { «open» = p.0; expired = p.1 })
    (λ _. refl)

abbrev pub is_read_write : Kind → Bool
is_read_write ReadWrite = true
is_read_write ReadOnly = false

-- ---- by its id

-- the open one
abbrev pub txn_of : ℕ → List Txn → Option Txn
txn_of id ts = find (λ t. t.id == id) ts

-- the one that expired
abbrev pub expired_of : ℕ → List Expired → Option Expired
expired_of id es = find (λ e. e.id == id) es

-- none is open, and none is remembered
pub record IsNew (id : ℕ) (ts : Transactions) : Type 0 where
  pub «open» : txn_of id ts.open ≡ None
  pub expired : expired_of id ts.expired ≡ None

-- ---- what becomes of them

-- one more, by its id
abbrev pub put_in : Txn → List Txn → List Txn
put_in t [] = t ∷ []
put_in t (u ∷ us) = if nat_lt t.id u.id then t ∷ u ∷ us else u ∷ put_in t us

abbrev pub begun : Transactions → ℕ → Kind → ℤ → ℤ → Transactions
begun ts id kind read_time now =
    record ts { «open» = put_in (record { id = id; kind = kind; read_time = read_time; begun = now; used = now; reads = [] }) ts.open }

-- the one of an id, changed
abbrev pub changed_at : ℕ → (Txn → Txn) → List Txn → List Txn
changed_at id f [] = []
changed_at id f (t ∷ ts) = if t.id == id then f t ∷ ts else t ∷ changed_at id f ts

abbrev pub used_at : Transactions → ℕ → ℤ → Transactions
used_at ts id now = record ts { «open» = changed_at id (λ t. record t { used = now }) ts.open }

-- a read-write one has a read behind its others, a read-only one notes none
abbrev pub with_read : Read → Txn → Txn
with_read r t = if is_read_write t.kind then record t { reads = t.reads ++ r ∷ [] } else t

abbrev pub noted : Transactions → ℕ → Read → ℤ → Transactions
noted ts id r now = record ts { «open» = changed_at id (λ t. record (with_read r t) { used = now }) ts.open }

-- it makes several reads, one after another; where there are none, it is used all the same
abbrev pub all_noted : Transactions → ℕ → List Read → ℤ → Transactions
all_noted ts id [] now = used_at ts id now
all_noted ts id (r ∷ rs) now = all_noted (noted ts id r now) id rs now

abbrev pub ended : Transactions → ℕ → Transactions
ended ts id = record ts { «open» = filter (λ t. not (t.id == id)) ts.open }
