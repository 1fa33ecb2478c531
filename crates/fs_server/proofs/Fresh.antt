-- The numbers of those that come, and of those that wait, are nobody's.
use Rattle.std.proofs.Common.{◌≡◌, ℕ, ◌+◌, ◌≤◌, Bool, true, false, cond, List, [], ◌∷◌, Some, None, refl, ap, arith}
use Rattle.std.specs.Prelude.{◌==◌, not, slice_get, remove}
use Rattle.std.proofs.lemmas.Bool.Decides.{nat_tests}
use Rattle.fs_request.specs.declared.request.Request.{Request}
use Rattle.fs_request.specs.declared.request.Request.TheVariants.{Commit, GetDocument, BatchGetDocuments, RunQuery, BeginTransaction, Rollback, AddTarget, RemoveTarget, Write}
use Rattle.fs_txn.specs.Transactions.{IsNew, Transactions, expired_of, txn_of}
use Rattle.fs_txn.specs.declared.expired.Expired.{Expired}
use Rattle.fs_txn.specs.declared.txn.Txn.{Txn}
use Rattle.fs_machine.specs.Conflict.{others}
use Rattle.fs_machine.specs.IdsAreDrawn.{IdsAreDrawn, counted, own_count, times, times_expired, times_in, times_open, times_parked}
use Rattle.fs_machine.specs.Numbered.{transaction_in}
use Rattle.fs_machine.specs.Past.{Past, batches}
use Rattle.fs_machine.specs.State.{Machine}
use Rattle.fs_machine.specs.declared.parked_request.ParkedRequest.{ParkedRequest}
use Rattle.fs_machine.proofs.IdsAreDrawn.{parked_less}
use Rattle.fs_server.specs.Changes.{IsFresh}
use Rattle.fs_server.specs.Noted.{own_number}

-- ---- no transaction has a number that none has

open_next : (id : ℕ) (t : Txn) (ts : List Txn) (b : Bool) → cond b 1 0 + times_open id ts ≡ 0 → (times_open id ts ≡ 0 → txn_of id ts ≡ None) → cond b (Some t) (txn_of id ts) ≡ None
open_next id t ts true none more = absurd (omega arith)
open_next id t ts false none more = more (omega arith)

none_open : (id : ℕ) (ts : List Txn) → times_open id ts ≡ 0 → txn_of id ts ≡ None
none_open id [] none = refl
none_open id (t ∷ ts) none = open_next id t ts (t.id == id) none (none_open id ts)

expired_next : (id : ℕ) (e : Expired) (es : List Expired) (b : Bool) → cond b 1 0 + times_expired id es ≡ 0 → (times_expired id es ≡ 0 → expired_of id es ≡ None) → cond b (Some e) (expired_of id es) ≡ None
expired_next id e es true none more = absurd (omega arith)
expired_next id e es false none more = more (omega arith)

none_expired : (id : ℕ) (es : List Expired) → times_expired id es ≡ 0 → expired_of id es ≡ None
none_expired id [] none = refl
none_expired id (e ∷ es) none = expired_next id e es (e.id == id) none (none_expired id es)

others_next : (id : ℕ) (t : Txn) (ts : List Txn) (b : Bool) → cond b 1 0 + times_open id ts ≡ 0 → (times_open id ts ≡ 0 → others id ts ≡ ts) → cond (not b) (t ∷ others id ts) (others id ts) ≡ t ∷ ts
others_next id t ts true none more = absurd (omega arith)
others_next id t ts false none more = ap (λ us. t ∷ us) (more (omega arith))

-- so all are others than that
pub all_others : (id : ℕ) (ts : List Txn) → times_open id ts ≡ 0 → others id ts ≡ ts
all_others id [] none = refl
all_others id (t ∷ ts) none = others_next id t ts (t.id == id) none (all_others id ts)

there_next : (id : ℕ) (t u : Txn) (ts : List Txn) (b : Bool) → cond b (Some t) (txn_of id ts) ≡ Some u → (txn_of id ts ≡ Some u → 1 ≤ times_open id ts) → 1 ≤ cond b 1 0 + times_open id ts
there_next id t u ts true is more = omega arith
there_next id t u ts false is more = let rest = more is in omega arith

one_open : (id : ℕ) (ts : List Txn) (u : Txn) → txn_of id ts ≡ Some u → 1 ≤ times_open id ts
one_open id [] u is = absurd (cc)
one_open id (t ∷ ts) u is = there_next id t u ts (t.id == id) is (one_open id ts u)

-- ---- whose number nobody has

-- that of an open transaction is no commit's
pub own_fresh : (p : Past) (ts : Transactions) (rs : List ParkedRequest) (ids id : ℕ) (t : Txn) → IdsAreDrawn p ts rs ids → txn_of id ts.open ≡ Some t → times_in id (batches p.unreleased) ≡ 0
own_fresh p ts rs ids id t drawn is = let few = (drawn id).0 in let one = one_open id ts.open t is in omega (arith, few, one)

-- 0
pub nobodys : (p : Past) (ts : Transactions) (rs : List ParkedRequest) (ids id : ℕ) → IdsAreDrawn p ts rs ids → id ≡ 0 → (times_in id (batches p.unreleased) ≡ 0) × (times_open id ts.open ≡ 0)
nobodys p ts rs ids id drawn is = let none = (drawn id).2 is in (omega (arith, none), omega (arith, none))

new_by : (p : Past) (ts : Transactions) (rs : List ParkedRequest) (id : ℕ) → times id p ts rs ≡ 0 → IsNew id ts
new_by p ts rs id none = record { «open» = none_open id ts.open (omega (arith, none)); expired = none_expired id ts.expired (omega (arith, none)) }

-- that which a request draws
pub fresh_asked : (m : Machine) (q : Request) → IdsAreDrawn m.past m.txns m.parked m.numbers.ids → IsFresh m (own_number m.numbers.ids q) q
fresh_asked m (Commit database writes None) drawn = let none = (drawn (m.numbers.ids + 1)).1 (omega arith) in omega (arith, none)
fresh_asked m (Commit database writes (Some id)) drawn = tt
fresh_asked m (GetDocument name mask when) drawn = tt
fresh_asked m (BatchGetDocuments database names mask when) drawn = tt
fresh_asked m (RunQuery database query when) drawn = tt
fresh_asked m (BeginTransaction database options) drawn = new_by m.past m.txns m.parked (m.numbers.ids + 1) ((drawn (m.numbers.ids + 1)).1 (omega arith))
fresh_asked m (Rollback database transaction) drawn = tt
fresh_asked m (AddTarget database id t token) drawn = tt
fresh_asked m (RemoveTarget database id) drawn = tt
fresh_asked m (Write database asked) drawn = tt

itself : (n : ℕ) → counted n n ≡ 1
itself n = grind (arith, nat_tests)

-- of what one that waits has drawn, the rest has none
fresh_by : (m : Machine) (r : ParkedRequest) (rest : ℕ) (q : Request) → IdsAreDrawn m.past m.txns m.parked m.numbers.ids → times_parked r.id m.parked ≡ rest + own_count r.id r (transaction_in q) → IsFresh m r.id q
fresh_by m r rest (Commit database writes None) drawn counts = let few = (drawn r.id).0 in let one = itself r.id in omega (arith, few, one, counts)
fresh_by m r rest (Commit database writes (Some id)) drawn counts = tt
fresh_by m r rest (GetDocument name mask when) drawn counts = tt
fresh_by m r rest (BatchGetDocuments database names mask when) drawn counts = tt
fresh_by m r rest (RunQuery database query when) drawn counts = tt
fresh_by m r rest (BeginTransaction database options) drawn counts =
    let few = (drawn r.id).0 in
    let one = itself r.id in
    record { «open» = none_open r.id m.txns.open (omega (arith, few, one, counts)); expired = none_expired r.id m.txns.expired (omega (arith, few, one, counts)) }
fresh_by m r rest (Rollback database transaction) drawn counts = tt
fresh_by m r rest (AddTarget database id t token) drawn counts = tt
fresh_by m r rest (RemoveTarget database id) drawn counts = tt
fresh_by m r rest (Write database asked) drawn counts = tt

pub fresh_parked : (m : Machine) (place : ℕ) (r : ParkedRequest) → slice_get m.parked place ≡ Some r → IdsAreDrawn m.past m.txns m.parked m.numbers.ids → IsFresh m r.id r.envelope.request
fresh_parked m place r is drawn = fresh_by m r (times_parked r.id (remove m.parked place)) r.envelope.request drawn (parked_less r.id m.parked place r is)
