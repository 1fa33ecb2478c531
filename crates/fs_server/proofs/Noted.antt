-- What is noted of a request is what it shows, where it is noted at all.
use Rattle.std.proofs.Common.{◌≡◌, ℕ, ℤ, ◌≤ℤ◌, Bool, true, false, cond, List, [], Option, Some, None, refl, sym, ap, ◌∙◌, subst, arith}
use Rattle.std.specs.Prelude.{is_some}
use Rattle.std.specs.Option.{option_map_or}
use Rattle.std.proofs.lemmas.Int.{ints}
use Rattle.fs_history.specs.declared.read.Read.{Read}
use Rattle.fs_request.specs.declared.request.Request.{Request}
use Rattle.fs_request.specs.declared.when.When.{When}
use Rattle.fs_request.specs.declared.when.When.TheVariants.{Released, At, In}
use Rattle.fs_txn.specs.Transactions.{Transactions, expired_of, is_read_write, txn_of}
use Rattle.fs_txn.specs.declared.expired.Expired.{Expired}
use Rattle.fs_txn.specs.declared.kind.Kind.{Kind}
use Rattle.fs_txn.specs.declared.kind.Kind.TheVariants as kind
use Rattle.fs_txn.specs.declared.txn.Txn.{Txn}
use Rattle.fs_txn.proofs.Several.{noted_none}
use Rattle.fs_machine.specs.Conflict.{read_behind}
use Rattle.fs_machine.specs.Facts.{Facts}
use Rattle.fs_machine.specs.Past.{Past}
use Rattle.fs_machine.specs.Read.{is_noted, read_in, read_limit_refusal, read_time, shown_at, when_refusal}
use Rattle.fs_machine.specs.Refusing.{reads_refusal}
use Rattle.fs_machine.specs.State.{Machine}
use Rattle.fs_machine.specs.Transact.{closed_refusal, refusal_unless, time_in, time_of_kind, with_reads}
use Rattle.fs_machine.specs.TransactionsHold.{IsOpen}
use Rattle.fs_machine.specs.declared.config.Mode.{Mode}
use Rattle.fs_machine.specs.declared.config.Mode.TheVariants.{Pessimistic, Optimistic}
use Rattle.fs_machine.proofs.Holding.{may_be_read_at}
use Rattle.fs_machine.proofs.TransactionsHold.{all_open}
use Rattle.fs_machine.specs.declared.answer.Answer.{Answer}
use Rattle.fs_server.specs.Changes.{Does}
use Rattle.fs_server.specs.declared.changes.Change.{Change}
use Rattle.fs_server.specs.Noted.{noted_by, noted_in, noted_refusal}

-- ---- an open transaction

open_by : (id : ℕ) (gone : Option Expired) (found : Option Txn) → refusal_unless id gone found ≡ None → (t : Txn) × (found ≡ Some t)
open_by id gone None none = absurd (cc)
open_by id gone (Some t) none = (t, refl)

pub opened : (ts : Transactions) (id : ℕ) → closed_refusal ts id ≡ None → (t : Txn) × (txn_of id ts.open ≡ Some t)
opened ts id none = open_by id (expired_of id ts.expired) (txn_of id ts.open) none

pub is_there : (found : Option Txn) (t : Txn) → found ≡ Some t → is_some found ≡ true
is_there None t is = absurd (cc)
is_there (Some u) t is = refl

-- ---- what is noted

module _ (m : Machine) (when : When) (q : Request) (reads : List Read) (are : reads ≡ noted_by m when q) where
  limit_by : (b : Bool) → reads ≡ cond b (shown_at m when q) [] → cond b (reads_refusal m reads) None ≡ cond b (reads_refusal m (shown_at m when q)) None
  limit_by true is = ap (reads_refusal m) is
  limit_by false is = refl

  pub limit_is : noted_refusal m when reads ≡ read_limit_refusal m when q
  limit_is = limit_by (is_noted m when) are

  behind_by : (b : Bool) → reads ≡ cond b (shown_at m when q) [] → cond b (read_behind m.config.mode m.past reads) None ≡ cond b (read_behind m.config.mode m.past (shown_at m when q)) None
  behind_by true is = ap (read_behind m.config.mode m.past) is
  behind_by false is = refl

read_by : (m : Machine) (id : ℕ) (q : Request) (reads : List Read) (b : Bool) → is_noted m (In id) ≡ b → closed_refusal m.txns id ≡ None → reads ≡ cond b (shown_at m (In id) q) []
    → with_reads m id reads ≡ with_reads m id (shown_at m (In id) q)
read_by m id q reads true is none are = ap (with_reads m id) are
read_by m id q reads false is none are =
    let t = opened m.txns id none in
    ap (with_reads m id) are
    ∙ ap (λ ts. record m { txns = ts }) (noted_none (shown_at m (In id) q) m.txns id m.past.moment (is_there (txn_of id m.txns.open) t.0 t.1) is)

-- a read-only transaction notes none, however many it makes
pub noted_is : (m : Machine) (when : When) (q : Request) (reads : List Read) → when_refusal m when ≡ None → reads ≡ noted_by m when q → noted_in m when reads ≡ read_in m when q
noted_is m Released q reads none are = refl
noted_is m (At time) q reads none are = refl
noted_is m (In id) q reads none are = read_by m id q reads (is_noted m (In id)) refl none are

-- ---- there is room for what is noted

-- ---- the time of a read can be read

abbrev pub IsReadable : Past → ℤ → Type 0
IsReadable p t = (p.floor ≤ℤ t) × (t ≤ℤ p.released)

kind_readable : (mode : Mode) (p : Past) (k : Kind) (own : ℤ) → p.floor ≤ℤ p.released → IsReadable p own → IsReadable p (time_of_kind mode p k own)
kind_readable Pessimistic p kind.ReadWrite own within may = (within, omega (arith, ints))
kind_readable Pessimistic p kind.ReadOnly own within may = may
kind_readable Optimistic p k own within may = may

in_readable : (m : Machine) (id : ℕ) (t : Txn) → Facts m → txn_of id m.txns.open ≡ Some t → IsReadable m.past (time_in m.config.mode m.past t)
in_readable m id t facts is =
    let held = all_open (IsOpen m.config.mode m.past) m.txns.open id t is facts.txns in
    kind_readable m.config.mode m.past t.kind t.read_time facts.past.floor (held.floor, held.released)

pub readable : (m : Machine) (when : When) → Facts m → when_refusal m when ≡ None → IsReadable m.past (read_time m when)
readable m Released facts none = (facts.past.floor, omega (arith, ints))
readable m (At time) facts none = may_be_read_at m.past time none
readable m (In id) facts none =
    let t = opened m.txns id none in
    subst (λ o. IsReadable m.past (option_map_or (time_in m.config.mode m.past) o m.past.released)) (sym t.1) (in_readable m id t.0 facts t.1)

noted_open : (found : Option Txn) → option_map_or (λ t. is_read_write t.kind) found false ≡ true → (t : Txn) × (found ≡ Some t)
noted_open None is = absurd (cc)
noted_open (Some t) is = (t, refl)

pub readable_noted : (m : Machine) (when : When) → Facts m → is_noted m when ≡ true → IsReadable m.past (read_time m when)
readable_noted m Released facts is = absurd (cc)
readable_noted m (At time) facts is = absurd (cc)
readable_noted m (In id) facts is =
    let t = noted_open (txn_of id m.txns.open) is in
    subst (λ o. IsReadable m.past (option_map_or (time_in m.config.mode m.past) o m.past.released)) (sym t.1) (in_readable m id t.0 facts t.1)

-- so what is left is what is to be
pub read_does : (m : Machine) (when : When) (q : Request) (reads : List Read) (a : Answer) (d : Answer × Change) → when_refusal m when ≡ None → reads ≡ noted_by m when q → Does m a (noted_in m when reads) d → Does m a (read_in m when q) d
read_does m when q reads a d none are does = subst (λ n. Does m a n d) (noted_is m when q reads none are) does
