-- No two commits and transactions have one number, and each has one that was drawn, still, after each event.
use Rattle.std.proofs.Common.{◌≡◌, ℕ, ℤ, ◌+◌, ◌<◌, ◌≤◌, Bool, true, false, cond, List, [], ◌∷◌, ◌++◌, map, Some, Result, Ok, Err, zero, suc, refl, ap, arith}
use Rattle.std.specs.Prelude.{◌-◌, ◌==◌, not, drop, length, nat_lt, remove, slice_get}
use Rattle.std.specs.List.{filter}
use Rattle.std.proofs.lemmas.Bool.Decides.{nat_tests}
use Rattle.std.proofs.lemmas.Option.{same_Some}
use Rattle.fs_status.specs.declared.refusal.Refusal.{Refusal}
use Rattle.fs_txn.specs.Expiry.{expired_at, gone, is_over, over, remembered}
use Rattle.fs_txn.specs.Transactions.{Transactions, changed_at, ended, put_in, txn_of}
use Rattle.fs_txn.specs.declared.expired.Expired.{Expired}
use Rattle.fs_txn.specs.declared.txn.Txn.{Txn}
use Rattle.fs_write.specs.Batch.{Docs}
use Rattle.fs_write.specs.declared.write_result.WriteResult.{WriteResult}
use Rattle.fs_machine.specs.Past.{Past, batches}
use Rattle.fs_machine.specs.declared.parked_request.ParkedRequest.{ParkedRequest}
use Rattle.fs_machine.specs.declared.unreleased.Unreleased.{Unreleased}
use Rattle.fs_machine.specs.Conflict.{others}
use Rattle.fs_machine.specs.Leave.{is_own, of_others}
use Rattle.fs_machine.specs.Numbered.{transaction_in}
use Rattle.fs_machine.specs.Release.{past_released}
use Rattle.fs_machine.specs.Settle.{dropped_from, is_it, past_decided}
use Rattle.fs_machine.specs.Tick.{past_advanced}
use Rattle.fs_machine.specs.UnreleasedRise.{UnreleasedRise}
use Rattle.fs_machine.specs.IdsAreDrawn.{counted, own_count, times_expired, times_in, times_open, times_parked, times, IdsAreDrawn}
use Rattle.fs_machine.proofs.Moved.{moved}
use Rattle.fs_machine.proofs.Pending.{same_batches}

-- ---- as many have each number, or fewer

abbrev pub AreFewer : Past → Transactions → List ParkedRequest → Past → Transactions → List ParkedRequest → Type 0
AreFewer p ts rs q us ss = (id : ℕ) → times id q us ss ≤ times id p ts rs

pub ids_fewer : (p : Past) (ts : Transactions) (rs : List ParkedRequest) (q : Past) (us : Transactions) (ss : List ParkedRequest) (ids : ℕ) → AreFewer p ts rs q us ss → IdsAreDrawn p ts rs ids → IdsAreDrawn q us ss ids
ids_fewer p ts rs q us ss ids fewer drawn id =
    let less = fewer id in let was = drawn id in
    (omega (arith, less, was.0), λ above. let none = was.1 above in omega (arith, less, none), λ is. let none = was.2 is in omega (arith, less, none))

-- ---- a number may be drawn, for a commit, a transaction or a request that waits

drawn_next : (id ids n k : ℕ) → n ≤ 1 → (ids < id → n ≡ 0) → (id ≡ 0 → n ≡ 0) → k ≤ n + counted id (ids + 1) → (k ≤ 1) × (ids + 1 < id → k ≡ 0) × (id ≡ 0 → k ≡ 0)
drawn_next id ids n k few above zeroth more = grind (arith, nat_tests, few, above, zeroth, more)

-- the number that was drawn last by then
abbrev pub ids_then : ℕ → Bool → ℕ
ids_then ids b = cond b (ids + 1) ids

-- and as many as have it more
abbrev pub more_by : ℕ → ℕ → Bool → ℕ
more_by id n b = cond b (counted id n) 0

pub ids_drawn : (p : Past) (ts : Transactions) (rs : List ParkedRequest) (q : Past) (us : Transactions) (ss : List ParkedRequest) (ids : ℕ) (b : Bool)
    → ((id : ℕ) → times id q us ss ≤ times id p ts rs + more_by id (ids + 1) b) → IdsAreDrawn p ts rs ids → IdsAreDrawn q us ss (ids_then ids b)
ids_drawn p ts rs q us ss ids true more drawn id = let was = drawn id in drawn_next id ids (times id p ts rs) (times id q us ss) was.0 was.1 was.2 (more id)
ids_drawn p ts rs q us ss ids false more drawn id = ids_fewer p ts rs q us ss ids (λ i. let less = more i in omega (arith, less)) drawn id

-- ---- what comes

pub in_more : (id : ℕ) (us : List Unreleased) (u : Unreleased) → times_in id (batches (us ++ u ∷ [])) ≡ times_in id (batches us) + counted id u.batch.id
in_more id [] u = omega arith
in_more id (v ∷ us) u = let more = in_more id us u in omega arith

pub parked_more : (id : ℕ) (rs : List ParkedRequest) (r : ParkedRequest) → times_parked id (rs ++ r ∷ []) ≡ times_parked id rs + own_count id r (transaction_in r.envelope.request)
parked_more id [] r = omega arith
parked_more id (s ∷ rs) r = let more = parked_more id rs r in omega arith

put_next : (id : ℕ) (t u : Txn) (us : List Txn) (b : Bool) → times_open id (put_in t us) ≡ times_open id us + counted id t.id
    → times_open id (cond b (t ∷ u ∷ us) (u ∷ put_in t us)) ≡ times_open id (u ∷ us) + counted id t.id
put_next id t u us true more = omega arith
put_next id t u us false more = omega (arith, more)

pub open_more : (id : ℕ) (t : Txn) (ts : List Txn) → times_open id (put_in t ts) ≡ times_open id ts + counted id t.id
open_more id t [] = omega arith
open_more id t (u ∷ us) = put_next id t u us (nat_lt t.id u.id) (open_more id t us)

-- ---- requests that wait no more

-- one that is taken out
removed_here : (id : ℕ) (s : ParkedRequest) (rs : List ParkedRequest) (r : ParkedRequest) → s ≡ r
    → own_count id s (transaction_in s.envelope.request) + times_parked id rs ≡ times_parked id rs + own_count id r (transaction_in r.envelope.request)
removed_here id s rs r is =
    let same : own_count id s (transaction_in s.envelope.request) ≡ own_count id r (transaction_in r.envelope.request) = ap (λ (x : ParkedRequest). own_count id x (transaction_in x.envelope.request)) is in
    omega (arith, same)

pub parked_less : (id : ℕ) (rs : List ParkedRequest) (place : ℕ) (r : ParkedRequest) → slice_get rs place ≡ Some r
    → times_parked id rs ≡ times_parked id (remove rs place) + own_count id r (transaction_in r.envelope.request)
parked_less id [] place r is = absurd (cc)
parked_less id (s ∷ rs) zero r is = removed_here id s rs r (same_Some s r is)
parked_less id (s ∷ rs) (suc place) r is = let less = parked_less id rs place r is in omega (arith, less)

pub fewer_unparked : (p : Past) (ts : Transactions) (rs : List ParkedRequest) (place : ℕ) (r : ParkedRequest) → slice_get rs place ≡ Some r → AreFewer p ts rs p ts (remove rs place)
fewer_unparked p ts rs place r is id = let less = parked_less id rs place r is in omega (arith, less)

-- those of a session
others_next : (id : ℕ) (r : ParkedRequest) (rs : List ParkedRequest) (session : ℕ) (b : Bool) → times_parked id (of_others session rs) ≤ times_parked id rs
    → times_parked id (cond b (r ∷ of_others session rs) (of_others session rs)) ≤ own_count id r (transaction_in r.envelope.request) + times_parked id rs
others_next id r rs session true more = omega (arith, more)
others_next id r rs session false more = omega (arith, more)

parked_others : (id : ℕ) (rs : List ParkedRequest) (session : ℕ) → times_parked id (of_others session rs) ≤ times_parked id rs
parked_others id [] session = omega arith
parked_others id (r ∷ rs) session = others_next id r rs session (not (is_own session r)) (parked_others id rs session)

pub fewer_departed : (p : Past) (ts : Transactions) (rs : List ParkedRequest) (session : ℕ) → AreFewer p ts rs p ts (of_others session rs)
fewer_departed p ts rs session id = let less = parked_others id rs session in omega (arith, less)

-- ---- transactions that change, and that are open no more

changed_next : (id : ℕ) (f : Txn → Txn) (t : Txn) (ts : List Txn) (at : ℕ) (b : Bool) → (f t).id ≡ t.id → times_open id (changed_at at f ts) ≡ times_open id ts
    → times_open id (cond b (f t ∷ ts) (t ∷ changed_at at f ts)) ≡ counted id t.id + times_open id ts
changed_next id f t ts at true same more = ap (λ n. counted id n + times_open id ts) same
changed_next id f t ts at false same more = omega (arith, more)

pub open_changed : (id : ℕ) (f : Txn → Txn) (ts : List Txn) (at : ℕ) → ((t : Txn) → (f t).id ≡ t.id) → times_open id (changed_at at f ts) ≡ times_open id ts
open_changed id f [] at same = refl
open_changed id f (t ∷ ts) at same = changed_next id f t ts at (t.id == at) (same t) (open_changed id f ts at same)

left_next : (id : ℕ) (test : Txn → Bool) (t : Txn) (ts : List Txn) (b : Bool) → times_open id (filter test ts) ≤ times_open id ts
    → times_open id (cond b (t ∷ filter test ts) (filter test ts)) ≤ counted id t.id + times_open id ts
left_next id test t ts true more = omega (arith, more)
left_next id test t ts false more = omega (arith, more)

pub open_left : (id : ℕ) (test : Txn → Bool) (ts : List Txn) → times_open id (filter test ts) ≤ times_open id ts
open_left id test [] = omega arith
open_left id test (t ∷ ts) = left_next id test t ts (test t) (open_left id test ts)

-- the one of a number is left out
ended_next : (id : ℕ) (t : Txn) (ts : List Txn) (of : ℕ) (u : Txn) (b : Bool) → b ≡ (t.id == of) → cond b (Some t) (txn_of of ts) ≡ Some u
    → (txn_of of ts ≡ Some u → times_open id (others of ts) + counted id u.id ≤ times_open id ts)
    → times_open id (others of ts) ≤ times_open id ts
    → times_open id (cond (not b) (t ∷ others of ts) (others of ts)) + counted id u.id ≤ counted id t.id + times_open id ts
ended_next id t ts of u true is found more less = let same : counted id t.id ≡ counted id u.id = ap (λ (x : Txn). counted id x.id) (same_Some t u found) in omega (arith, same, less)
ended_next id t ts of u false is found more less = let rest = more found in omega (arith, rest)

pub open_ended : (id : ℕ) (ts : List Txn) (of : ℕ) (u : Txn) → txn_of of ts ≡ Some u → times_open id (others of ts) + counted id u.id ≤ times_open id ts
open_ended id [] of u found = absurd (cc)
open_ended id (t ∷ ts) of u found = ended_next id t ts of u (t.id == of) refl found (open_ended id ts of u) (open_left id (λ v. not (v.id == of)) ts)

pub fewer_ended : (p : Past) (ts : Transactions) (rs : List ParkedRequest) (of : ℕ) → AreFewer p ts rs p (ended ts of) rs
fewer_ended p ts rs of id = let less = open_left id (λ v. not (v.id == of)) ts.open in omega (arith, less)

-- ---- some expire

expired_both : (id : ℕ) (xs ys : List Expired) → times_expired id (xs ++ ys) ≡ times_expired id xs + times_expired id ys
expired_both id [] ys = omega arith
expired_both id (x ∷ xs) ys = let more = expired_both id xs ys in omega (arith, more)

expired_dropped : (id n : ℕ) (xs : List Expired) → times_expired id (drop n xs) ≤ times_expired id xs
expired_dropped id zero xs = omega arith
expired_dropped id (suc n) [] = omega arith
expired_dropped id (suc n) (x ∷ xs) = let less = expired_dropped id n xs in omega (arith, less)

over_next : (id : ℕ) (now : ℤ) (t : Txn) (ts : List Txn) (b : Bool)
    → times_open id (filter (λ u. not (is_over now u)) ts) + times_expired id (map (gone now) (over now ts)) ≡ times_open id ts
    → times_open id (cond (not b) (t ∷ filter (λ u. not (is_over now u)) ts) (filter (λ u. not (is_over now u)) ts)) + times_expired id (map (gone now) (cond b (t ∷ over now ts) (over now ts)))
    ≡ counted id t.id + times_open id ts
over_next id now t ts true more = omega (arith, more)
over_next id now t ts false more = omega (arith, more)

-- each is open still, or has expired
open_or_over : (id : ℕ) (now : ℤ) (ts : List Txn) → times_open id (filter (λ u. not (is_over now u)) ts) + times_expired id (map (gone now) (over now ts)) ≡ times_open id ts
open_or_over id now [] = refl
open_or_over id now (t ∷ ts) = over_next id now t ts (is_over now t) (open_or_over id now ts)

pub fewer_expired : (p : Past) (ts : Transactions) (rs : List ParkedRequest) (now : ℤ) → AreFewer p ts rs (past_advanced p now) (expired_at now ts) rs
fewer_expired p ts rs now id =
    let all = ts.expired ++ map (gone now) (over now ts.open) in
    let forgets = expired_dropped id (length all - remembered) all in
    let both = expired_both id ts.expired (map (gone now) (over now ts.open)) in
    let each = open_or_over id now ts.open in
    omega (arith, forgets, both, each)

-- ---- a commit is decided, and some are released

dropped_next : (id : ℕ) (u : Unreleased) (us : List Unreleased) (of : ℕ) (b : Bool) → times_in id (batches (dropped_from of us)) ≤ times_in id (batches us)
    → times_in id (batches (cond b us (u ∷ dropped_from of us))) ≤ counted id u.batch.id + times_in id (batches us)
dropped_next id u us of true more = omega arith
dropped_next id u us of false more = omega (arith, more)

less_dropped : (id : ℕ) (us : List Unreleased) (of : ℕ) → times_in id (batches (dropped_from of us)) ≤ times_in id (batches us)
less_dropped id [] of = omega arith
less_dropped id (u ∷ us) of = dropped_next id u us of (is_it of u) (less_dropped id us of)

pub fewer_decided : (p : Past) (ts : Transactions) (rs : List ParkedRequest) (u : Unreleased) (r : Result (Docs × List WriteResult) Refusal) → AreFewer p ts rs (past_decided p u r) ts rs
fewer_decided p ts rs u (Ok done) id = let same : times_in id (batches (past_decided p u (Ok done)).unreleased) ≡ times_in id (batches p.unreleased) = ap (times_in id) (same_batches p.unreleased u.batch.id done.1) in omega (arith, same)
fewer_decided p ts rs u (Err refusal) id = let less = less_dropped id p.unreleased u.batch.id in omega (arith, less)

-- as many are in the two lists
same_released : (id : ℕ) (p : Past) → UnreleasedRise p
    → times_in id (past_released p).history + times_in id (batches (past_released p).unreleased) ≡ times_in id p.history + times_in id (batches p.unreleased)
same_released id p above =
    let all = times_in id p.history + times_in id (batches p.unreleased) in
    moved (λ h us. times_in id h + times_in id (batches us) ≡ all) (λ h u us is has. omega (arith, has)) p.unreleased p.released p.last above p.history refl

pub fewer_released : (p : Past) (ts : Transactions) (rs : List ParkedRequest) → UnreleasedRise p → AreFewer p ts rs (past_released p) ts rs
fewer_released p ts rs above id = let same = same_released id p above in omega (arith, same)
