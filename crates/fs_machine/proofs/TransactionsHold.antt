-- What open transactions have read still holds, after each event, and what their commits had read stands before them.
use Rattle.std.specs.Prelude.{⊤}
use Rattle.std.proofs.Common.{◌≡◌, ℕ, ℤ, ◌≤ℤ◌, ◌<ℤ◌, Bool, true, false, cond, List, [], ◌∷◌, ◌++◌, map, Some, None, Result, Ok, Err, refl, sym, ap, ◌∙◌, subst, arith}
use Rattle.std.specs.Prelude.{◌&&◌, ◌||◌, ◌==◌, int_le, int_lt, nat_lt, not}
use Rattle.std.specs.List.{AllByRecursion, filter}
use Rattle.std.proofs.lemmas.Int.{ints}
use Rattle.std.proofs.lemmas.Bool.{or_parts}
use Rattle.std.proofs.lemmas.List.Folds.{list_any-append}
use Rattle.std.proofs.lemmas.Option.{same_Some}
use Rattle.fs_history.specs.History.{IsRising, at, whole}
use Rattle.fs_history.specs.Serial.{AreShown, IsShown}
use Rattle.fs_history.specs.Touches.{some_touched, touched}
use Rattle.fs_history.specs.declared.batch.Batch.{Batch}
use Rattle.fs_history.specs.declared.read.Read.{Read}
use Rattle.fs_history.proofs.HistoryLaws.{at_whole, later_unseen}
use Rattle.fs_status.specs.declared.refusal.Refusal.{Refusal}
use Rattle.fs_time.proofs.Tests.{above, at_most}
use Rattle.fs_txn.specs.Transactions.{Transactions, all_noted, changed_at, is_read_write, noted, put_in, txn_of, with_read}
use Rattle.fs_txn.specs.declared.txn.Txn.{Txn}
use Rattle.fs_write.specs.Batch.{Docs}
use Rattle.fs_write.specs.declared.write.Write.{Write}
use Rattle.fs_write.specs.declared.write_result.WriteResult.{WriteResult}
use Rattle.fs_machine.specs.Behind.{least, writing_same}
use Rattle.fs_machine.specs.Commit.{past_prepared}
use Rattle.fs_machine.specs.Conflict.{conflict, is_reader, others, plain_behind, read_behind, readers_of}
use Rattle.fs_machine.specs.HistoryRises.{HistoryRises}
use Rattle.fs_machine.specs.Past.{Past, batches}
use Rattle.fs_machine.specs.ReadsHold.{Spares}
use Rattle.fs_machine.specs.Release.{free_to, past_released}
use Rattle.fs_machine.specs.Settle.{dropped_from, past_decided}
use Rattle.fs_machine.specs.Tick.{past_advanced}
use Rattle.fs_machine.specs.TransactionsHold.{AreReadStill, AreSparedIn, IsOpen, TransactionsHold, docs_read}
use Rattle.fs_machine.specs.UnreleasedRise.{RiseFrom, UnreleasedRise}
use Rattle.fs_machine.specs.declared.config.Mode.{Mode}
use Rattle.fs_machine.specs.declared.config.Mode.TheVariants.{Pessimistic, Optimistic}
use Rattle.fs_machine.specs.declared.unreleased.Unreleased.{Unreleased}
use Rattle.fs_machine.proofs.Batches.{all_dropped, all_more}
use Rattle.fs_machine.proofs.Moved.{moved}
use Rattle.fs_machine.proofs.Pending.{same_batches}
use Rattle.fs_machine.proofs.ReadsHold.{all_spare_none, shown_behind}
use Rattle.fs_machine.proofs.UnreleasedRise.{free_above}

-- ---- all of some, once one is put in, changed, or some are left out

put_next : (P : Txn → Type 0) (t u : Txn) (us : List Txn) (b : Bool) → P t → P u → AllByRecursion P us → AllByRecursion P (put_in t us) → AllByRecursion P (cond b (t ∷ u ∷ us) (u ∷ put_in t us))
put_next P t u us true here first all more = (here, (first, all))
put_next P t u us false here first all more = (first, more)

pub all_put : (P : Txn → Type 0) (t : Txn) (ts : List Txn) → P t → AllByRecursion P ts → AllByRecursion P (put_in t ts)
all_put P t [] here all = (here, tt)
all_put P t (u ∷ us) here all = put_next P t u us (nat_lt t.id u.id) here all.0 all.1 (all_put P t us here all.1)

changed_next : (P : Txn → Type 0) (f : Txn → Txn) (t : Txn) (ts : List Txn) (id : ℕ) (b : Bool) → (cond b (Some t) (txn_of id ts) ≡ Some t → P t → P (f t)) → b ≡ (t.id == id) → P t → AllByRecursion P ts
    → (((u : Txn) → txn_of id ts ≡ Some u → P u → P (f u)) → AllByRecursion P (changed_at id f ts)) → ((u : Txn) → cond b (Some t) (txn_of id ts) ≡ Some u → P u → P (f u))
    → AllByRecursion P (cond b (f t ∷ ts) (t ∷ changed_at id f ts))
changed_next P f t ts id true here is first all more keeps = (here refl first, all)
changed_next P f t ts id false here is first all more keeps = (first, more keeps)

-- where the one of an id keeps it
pub all_changed : (P : Txn → Type 0) (f : Txn → Txn) (ts : List Txn) (id : ℕ) → ((u : Txn) → txn_of id ts ≡ Some u → P u → P (f u)) → AllByRecursion P ts → AllByRecursion P (changed_at id f ts)
all_changed P f [] id keeps all = tt
all_changed P f (t ∷ ts) id keeps all = changed_next P f t ts id (t.id == id) (keeps t) refl all.0 all.1 (λ k. all_changed P f ts id k all.1) keeps

left_next : (P : Txn → Type 0) (test : Txn → Bool) (t : Txn) (ts : List Txn) (b : Bool) → P t → AllByRecursion P (filter test ts) → AllByRecursion P (cond b (t ∷ filter test ts) (filter test ts))
left_next P test t ts true first more = (first, more)
left_next P test t ts false first more = more

pub all_left : (P : Txn → Type 0) (test : Txn → Bool) (ts : List Txn) → AllByRecursion P ts → AllByRecursion P (filter test ts)
all_left P test [] all = tt
all_left P test (t ∷ ts) all = left_next P test t ts (test t) all.0 (all_left P test ts all.1)

pub each : (P Q : Txn → Type 0) (ts : List Txn) → ((t : Txn) → P t → Q t) → AllByRecursion P ts → AllByRecursion Q ts
each P Q [] f all = tt
each P Q (t ∷ ts) f all = (f t all.0, each P Q ts f all.1)

open_next : (P : Txn → Type 0) (t u : Txn) (ts : List Txn) (id : ℕ) (b : Bool) → cond b (Some t) (txn_of id ts) ≡ Some u → P t → (txn_of id ts ≡ Some u → P u) → P u
open_next P t u ts id true is here more = subst P (same_Some t u is) here
open_next P t u ts id false is here more = more is

-- what holds of all holds of the one of a number
pub all_open : (P : Txn → Type 0) (ts : List Txn) (id : ℕ) (u : Txn) → txn_of id ts ≡ Some u → AllByRecursion P ts → P u
all_open P [] id u is all = absurd (cc)
all_open P (t ∷ ts) id u is all = open_next P t u ts id (t.id == id) is all.0 (λ rest. all_open P ts id u rest all.1)

-- what passes a test has none, where the least of their numbers is none
least_none : {A : Type 0} (number : A → ℕ) (test : A → Bool) (x : A) (xs : List A) (b : Bool) → test x ≡ b → least (map number (cond b (x ∷ filter test xs) (filter test xs))) ≡ None
    → (least (map number (filter test xs)) ≡ None → AllByRecursion (λ y. test y ≡ false) xs) → AllByRecursion (λ y. test y ≡ false) (x ∷ xs)
least_none number test x xs true is none more = absurd (cc)
least_none number test x xs false is none more = (is, more none)

pub none_passes : {A : Type 0} (number : A → ℕ) (test : A → Bool) (xs : List A) → least (map number (filter test xs)) ≡ None → AllByRecursion (λ x. test x ≡ false) xs
none_passes number test [] none = tt
none_passes number test (x ∷ xs) none = least_none number test x xs (test x) refl none (none_passes number test xs)

none_behind : (xs ys : List ℕ) → least (xs ++ ys) ≡ None → least ys ≡ None
none_behind [] ys none = none
none_behind (x ∷ xs) ys none = absurd (cc)

spare_all : (us : List Unreleased) (rs : List Read) → AllByRecursion (λ u. some_touched u.batch.writes rs ≡ false) us → AllByRecursion (Spares rs) (batches us)
spare_all [] rs all = tt
spare_all (u ∷ us) rs all = (all.0, spare_all us rs all.1)

-- ---- one begins, at a time that can be read

no_reads_shown : (docs : Docs) (rs : List Read) → rs ≡ [] → AreShown docs rs
no_reads_shown docs rs none = subst (AreShown docs) (sym none) tt

spared_in : (mode : Mode) (p : Past) (t : Txn) → AllByRecursion (Spares t.reads) (batches p.unreleased) → AreSparedIn mode p t
spared_in Pessimistic p t all = all
spared_in Optimistic p t all = tt

no_reads : (mode : Mode) (p : Past) (t : Txn) → t.reads ≡ [] → AreReadStill mode p t
no_reads mode p t none = (no_reads_shown (docs_read mode p t) t.reads none, spared_in mode p t (all_spare_none (batches p.unreleased) t.reads none))

pub open_begun : (mode : Mode) (p : Past) (t : Txn) (ts : List Txn) → t.reads ≡ [] → p.floor ≤ℤ t.read_time → t.read_time ≤ℤ p.released → TransactionsHold mode p ts → TransactionsHold mode p (put_in t ts)
open_begun mode p t ts none floor released holds =
    all_put (IsOpen mode p) t ts (record { floor = floor; released = released; reads = λ is. no_reads mode p t none }) holds

-- ---- one reads

shown_more : (docs : Docs) (rs : List Read) (r : Read) → AreShown docs rs → IsShown docs r → AreShown docs (rs ++ r ∷ [])
shown_more docs [] r all is = (is, tt)
shown_more docs (s ∷ rs) r all is = (all.0, shown_more docs rs r all.1 is)

spares_more : (b : Batch) (rs : List Read) (r : Read) → Spares rs b → touched b.writes r ≡ false → Spares (rs ++ r ∷ []) b
spares_more b rs r spares apart = list_any-append (touched b.writes) rs (r ∷ []) ∙ ap (λ x. x || (touched b.writes r || false)) spares ∙ ap (λ x. x || false) apart

all_spare_more : (bs : List Batch) (rs : List Read) (r : Read) → AllByRecursion (Spares rs) bs → AllByRecursion (λ b. touched b.writes r ≡ false) bs → AllByRecursion (Spares (rs ++ r ∷ [])) bs
all_spare_more [] rs r all apart = tt
all_spare_more (b ∷ bs) rs r all apart = (spares_more b rs r all.0 apart.0, all_spare_more bs rs r all.1 apart.1)

-- none of those that aren't released touches them, where that counts
abbrev pub AreFree : Mode → Past → List Read → Type 0
AreFree Pessimistic p rs = AllByRecursion (Spares rs) (batches p.unreleased)
AreFree Optimistic p rs = ⊤

pub free_behind : (mode : Mode) (p : Past) (rs : List Read) → read_behind mode p rs ≡ None → AreFree mode p rs
free_behind Pessimistic p rs free = spare_all p.unreleased rs (none_passes (λ u. u.batch.id) (λ u. some_touched u.batch.writes rs) p.unreleased free)
free_behind Optimistic p rs free = tt

-- reads that one may make
abbrev pub MayBeMade : Mode → Past → Txn → List Read → Type 0
MayBeMade mode p t rs = AreShown (docs_read mode p t) rs × AreFree mode p rs

spare_each : (bs : List Batch) (r : Read) (rs : List Read) → AllByRecursion (Spares (r ∷ rs)) bs → AllByRecursion (λ b. touched b.writes r ≡ false) bs × AllByRecursion (Spares rs) bs
spare_each [] r rs all = (tt, tt)
spare_each (b ∷ bs) r rs all =
    let both = or_parts (touched b.writes r) (some_touched b.writes rs) all.0 in
    let rest = spare_each bs r rs all.1 in
    ((both.0, rest.0), (both.1, rest.1))

free_after : (mode : Mode) (p : Past) (r : Read) (rs : List Read) → AreFree mode p (r ∷ rs) → AreFree mode p rs
free_after Pessimistic p r rs free = (spare_each (batches p.unreleased) r rs free).1
free_after Optimistic p r rs free = tt

still_more : (mode : Mode) (p : Past) (t : Txn) (r : Read) (rs : List Read) → MayBeMade mode p t (r ∷ rs) → AreReadStill mode p t → AreReadStill mode p (record t { reads = t.reads ++ r ∷ [] })
still_more Pessimistic p t r rs made still =
    (shown_more (whole p.history) t.reads r still.0 made.0.0, all_spare_more (batches p.unreleased) t.reads r still.1 (spare_each (batches p.unreleased) r rs made.1).0)
still_more Optimistic p t r rs made still = (shown_more (at p.history t.read_time) t.reads r still.0 made.0.0, tt)

still_used : (mode : Mode) (p : Past) (t : Txn) (now : ℤ) → AreReadStill mode p t → AreReadStill mode p (record t { used = now })
still_used Pessimistic p t now still = still
still_used Optimistic p t now still = still

abbrev pub with_noted : Read → ℤ → Txn → Txn
with_noted r now t = record (with_read r t) { used = now }

noted_by : (mode : Mode) (p : Past) (t : Txn) (r : Read) (rs : List Read) (now : ℤ) (b : Bool) → is_read_write t.kind ≡ b → (b ≡ true → MayBeMade mode p t (r ∷ rs)) → IsOpen mode p t
    → IsOpen mode p (record (cond b (record t { reads = t.reads ++ r ∷ [] }) t) { used = now })
noted_by mode p t r rs now true is made holds = record {
  floor = holds.floor;
  released = holds.released;
  reads = λ rw. still_used mode p (record t { reads = t.reads ++ r ∷ [] }) now (still_more mode p t r rs (made refl) (holds.reads rw));
}
noted_by mode p t r rs now false is made holds = record { floor = holds.floor; released = holds.released; reads = λ rw. still_used mode p t now (holds.reads rw) }

-- it keeps its kind and its time
kept_by : (r : Read) (now : ℤ) (t : Txn) (b : Bool) → is_read_write t.kind ≡ b
    → ((record (cond b (record t { reads = t.reads ++ r ∷ [] }) t) { used = now }).kind ≡ t.kind) × ((record (cond b (record t { reads = t.reads ++ r ∷ [] }) t) { used = now }).read_time ≡ t.read_time)
    × ((record (cond b (record t { reads = t.reads ++ r ∷ [] }) t) { used = now }).id ≡ t.id)
kept_by r now t true is = (refl, refl, refl)
kept_by r now t false is = (refl, refl, refl)

pub noted_keeps : (r : Read) (now : ℤ) (t : Txn) → ((with_noted r now t).kind ≡ t.kind) × ((with_noted r now t).read_time ≡ t.read_time) × ((with_noted r now t).id ≡ t.id)
noted_keeps r now t = kept_by r now t (is_read_write t.kind) refl

-- the one of a number, once it is changed
found_next : (f : Txn → Txn) (t : Txn) (ts : List Txn) (id : ℕ) (u : Txn) (b : Bool) → (t.id == id) ≡ b → (f t).id ≡ t.id → txn_of id (cond b (f t ∷ ts) (t ∷ changed_at id f ts)) ≡ Some u
    → (txn_of id (changed_at id f ts) ≡ Some u → (v : Txn) × (txn_of id ts ≡ Some v) × (u ≡ f v)) → (v : Txn) × (cond b (Some t) (txn_of id ts) ≡ Some v) × (u ≡ f v)
found_next f t ts id u true is same found more =
    let here : ((f t).id == id) ≡ true = ap (λ n. n == id) same ∙ is in
    let it : Some (f t) ≡ Some u = sym (ap (λ b. cond b (Some (f t)) (txn_of id ts)) here) ∙ found in
    (t, refl, sym (same_Some (f t) u it))
found_next f t ts id u false is same found more = more (sym (ap (λ b. cond b (Some t) (txn_of id (changed_at id f ts))) is) ∙ found)

pub found_changed : (f : Txn → Txn) (ts : List Txn) (id : ℕ) (u : Txn) → ((t : Txn) → (f t).id ≡ t.id) → txn_of id (changed_at id f ts) ≡ Some u → (v : Txn) × (txn_of id ts ≡ Some v) × (u ≡ f v)
found_changed f [] id u same found = absurd (cc)
found_changed f (t ∷ ts) id u same found = found_next f t ts id u (t.id == id) refl (same t) found (found_changed f ts id u same)

-- what the one of a number may make, if it reads and writes
abbrev pub MayMake : Mode → Past → List Txn → ℕ → List Read → Type 0
MayMake mode p ts id rs = (t : Txn) → txn_of id ts ≡ Some t → is_read_write t.kind ≡ true → MayBeMade mode p t rs

open_noted : (mode : Mode) (p : Past) (ts : List Txn) (id : ℕ) (r : Read) (rs : List Read) (now : ℤ) → MayMake mode p ts id (r ∷ rs) → TransactionsHold mode p ts → TransactionsHold mode p (changed_at id (with_noted r now) ts)
open_noted mode p ts id r rs now made holds =
    all_changed (IsOpen mode p) (with_noted r now) ts id (λ t is here. noted_by mode p t r rs now (is_read_write t.kind) refl (made t is) here) holds

docs_same : (mode : Mode) (p : Past) (t u : Txn) → u.read_time ≡ t.read_time → docs_read mode p u ≡ docs_read mode p t
docs_same Pessimistic p t u same = refl
docs_same Optimistic p t u same = ap (at p.history) same

make_rest : (mode : Mode) (p : Past) (ts : List Txn) (id : ℕ) (r : Read) (rs : List Read) (now : ℤ) → MayMake mode p ts id (r ∷ rs) → MayMake mode p (changed_at id (with_noted r now) ts) id rs
make_rest mode p ts id r rs now made u found rw =
    let was = found_changed (with_noted r now) ts id u (λ t. (noted_keeps r now t).2) found in
    let t = was.0 in
    let keeps = noted_keeps r now t in
    let kind : u.kind ≡ t.kind = ap (λ (x : Txn). x.kind) was.2 ∙ keeps.0 in
    let time : u.read_time ≡ t.read_time = ap (λ (x : Txn). x.read_time) was.2 ∙ keeps.1 in
    let all = made t was.1 (sym (ap is_read_write kind) ∙ rw) in
    (subst (λ docs. AreShown docs rs) (sym (docs_same mode p t u time)) all.0.1, free_after mode p r rs all.1)

pub open_used : (mode : Mode) (p : Past) (ts : List Txn) (id : ℕ) (now : ℤ) → TransactionsHold mode p ts → TransactionsHold mode p (changed_at id (λ t. record t { used = now }) ts)
open_used mode p ts id now holds =
    all_changed (IsOpen mode p) (λ t. record t { used = now }) ts id
    (λ t is here. record { floor = here.floor; released = here.released; reads = λ rw. still_used mode p t now (here.reads rw) }) holds

-- one makes reads that it may make
pub open_all_noted : (mode : Mode) (p : Past) (ts : Transactions) (id : ℕ) (rs : List Read) (now : ℤ) → MayMake mode p ts.open id rs → TransactionsHold mode p ts.open → TransactionsHold mode p (all_noted ts id rs now).open
open_all_noted mode p ts id [] now made holds = open_used mode p ts.open id now holds
open_all_noted mode p ts id (r ∷ rs) now made holds =
    open_all_noted mode p (noted ts id r now) id rs now (make_rest mode p ts.open id r rs now made) (open_noted mode p ts.open id r rs now made holds)

-- ---- some end: they commit, are rolled back, are aborted or expire

pub open_left : (mode : Mode) (p : Past) (test : Txn → Bool) (ts : List Txn) → TransactionsHold mode p ts → TransactionsHold mode p (filter test ts)
open_left mode p test ts holds = all_left (IsOpen mode p) test ts holds

-- ---- a commit is prepared that touches nothing that they hold

one_touched : (ws : List Write) (t : Txn) → is_reader ws t ≡ false → is_read_write t.kind ≡ true → some_touched ws t.reads ≡ false
one_touched ws t none is = sym (ap (λ b. b && some_touched ws t.reads) is) ∙ none

still_prepared : (mode : Mode) (p : Past) (u : Unreleased) (t : Txn) → (mode ≡ Pessimistic → some_touched u.batch.writes t.reads ≡ false) → AreReadStill mode p t → AreReadStill mode (past_prepared p u) t
still_prepared Pessimistic p u t spares still = (still.0, all_more (Spares t.reads) p.unreleased u still.1 (spares refl))
still_prepared Optimistic p u t spares still = (still.0, tt)

all_prepared : (mode : Mode) (p : Past) (u : Unreleased) (ts : List Txn) → (mode ≡ Pessimistic → AllByRecursion (λ t. is_reader u.batch.writes t ≡ false) ts) → TransactionsHold mode p ts → TransactionsHold mode (past_prepared p u) ts
all_prepared mode p u [] apart holds = tt
all_prepared mode p u (t ∷ ts) apart holds = (
  record {
    floor = holds.0.floor;
    released = holds.0.released;
    reads = λ rw. still_prepared mode p u t (λ is. one_touched u.batch.writes t (apart is).0 rw) (holds.0.reads rw);
  },
  all_prepared mode p u ts (λ is. (apart is).1) holds.1,
)

-- a plain one
plain_apart : (mode : Mode) (p : Past) (ts : List Txn) (ws : List Write) → plain_behind mode p ts ws ≡ None → mode ≡ Pessimistic → AllByRecursion (λ t. is_reader ws t ≡ false) ts
plain_apart Pessimistic p ts ws free is = none_passes (λ t. t.id) (is_reader ws) ts (none_behind (writing_same p.unreleased ws) (readers_of ts ws) free)
plain_apart Optimistic p ts ws free is = absurd (cc)

pub open_prepared : (mode : Mode) (p : Past) (u : Unreleased) (ts : List Txn) → plain_behind mode p ts u.batch.writes ≡ None → TransactionsHold mode p ts → TransactionsHold mode (past_prepared p u) ts
open_prepared mode p u ts free holds = all_prepared mode p u ts (plain_apart mode p ts u.batch.writes free) holds

-- that of a transaction, which is open no more
own_apart : (mode : Mode) (p : Past) (ts : List Txn) (t : Txn) (ws : List Write) → conflict mode p ts t ws ≡ None → mode ≡ Pessimistic → AllByRecursion (λ v. is_reader ws v ≡ false) (others t.id ts)
own_apart Pessimistic p ts t ws free is = none_passes (λ v. v.id) (is_reader ws) (others t.id ts) free
own_apart Optimistic p ts t ws free is = absurd (cc)

pub open_committed : (mode : Mode) (p : Past) (u : Unreleased) (ts : List Txn) (t : Txn) → conflict mode p ts t u.batch.writes ≡ None → TransactionsHold mode p ts → TransactionsHold mode (past_prepared p u) (others t.id ts)
open_committed mode p u ts t free holds =
    all_prepared mode p u (others t.id ts) (own_apart mode p ts t u.batch.writes free) (open_left mode p (λ v. not (v.id == t.id)) ts holds)

-- ---- what it had read stands before it

later_test : (time : ℤ) (b : Batch) (rs : List Read) → time <ℤ b.time → (int_lt time b.time && some_touched b.writes rs) ≡ false → some_touched b.writes rs ≡ false
later_test time b rs later none = let test : int_lt time b.time ≡ true = grind (arith, ints) in sym (ap (λ x. x && some_touched b.writes rs) test) ∙ none

all_later : (time from last : ℤ) (us : List Unreleased) (rs : List Read) → time ≤ℤ from → RiseFrom from last us → AllByRecursion (λ b. (int_lt time b.time && some_touched b.writes rs) ≡ false) (batches us) → AllByRecursion (Spares rs) (batches us)
all_later time from last [] rs before rise none = tt
all_later time from last (u ∷ us) rs before rise none =
    let here : time <ℤ u.batch.time = let first = rise.0 in omega (arith, ints) in
    let next : time ≤ℤ u.batch.time = omega (arith, ints) in
    (later_test time u.batch rs here none.0, all_later time u.batch.time last us rs next rise.1 none.1)

since_next : (b : Batch) (h : List Batch) (time : ℤ) (rs : List Read) (x : Bool) → int_le b.time time ≡ x → IsRising (b ∷ h) → (int_lt time b.time && some_touched b.writes rs) ≡ false
    → AreShown (at (b ∷ h) time) rs → (AreShown (at h time) rs → AreShown (whole h) rs) → AreShown (whole (b ∷ h)) rs
since_next b h time rs true is rise none shown more =
    let within = at_most b.time time is in
    subst (λ docs. AreShown docs rs) (at_whole (b ∷ h) time rise within) shown
since_next b h time rs false is rise none shown more =
    let after = above b.time time is in
    shown_behind b h rs (later_test time b rs after none) (more (subst (λ docs. AreShown docs rs) (later_unseen b h time after) shown))

-- what stood at a time stands still, where no batch since then touches it
since_whole : (h : List Batch) (time : ℤ) (rs : List Read) → IsRising h → AllByRecursion (λ b. (int_lt time b.time && some_touched b.writes rs) ≡ false) h → AreShown (at h time) rs → AreShown (whole h) rs
since_whole [] time rs rise none shown = shown
since_whole (b ∷ h) time rs rise none shown =
    since_next b h time rs (int_le b.time time) refl rise none.0 shown (since_whole h time rs rise.1 none.1)

both_parts : (P : Batch → Type 0) (xs ys : List Batch) → AllByRecursion P (xs ++ ys) → AllByRecursion P xs × AllByRecursion P ys
both_parts P [] ys all = (tt, all)
both_parts P (x ∷ xs) ys all = let rest = both_parts P xs ys all.1 in ((all.0, rest.0), rest.1)

-- a transaction without a conflict may commit: it read what is released, and those that aren't released spare it
pub may_commit : (mode : Mode) (p : Past) (ts : List Txn) (t : Txn) (ws : List Write) → conflict mode p ts t ws ≡ None → is_read_write t.kind ≡ true → IsOpen mode p t → HistoryRises p → UnreleasedRise p
    → AreShown (whole p.history) t.reads × AllByRecursion (Spares t.reads) (batches p.unreleased)
may_commit Pessimistic p ts t ws free rw holds history rise = holds.reads rw
may_commit Optimistic p ts t ws free rw holds history rise =
    let none = none_passes (λ b. b.id) (λ b. int_lt t.read_time b.time && some_touched b.writes t.reads) (batches p.unreleased ++ p.history) free in
    let parts = both_parts (λ b. (int_lt t.read_time b.time && some_touched b.writes t.reads) ≡ false) (batches p.unreleased) p.history none in
    (since_whole p.history t.read_time t.reads history.rising parts.1 (holds.reads rw).0, all_later t.read_time p.released p.last p.unreleased t.reads holds.released rise parts.0)

-- ---- some are released

released_on : (p : Past) → UnreleasedRise p → p.released ≤ℤ free_to p.last p.unreleased
released_on p rise = free_above p.unreleased p.released p.last rise

held_on : (p : Past) (rs : List Read) → UnreleasedRise p → AreShown (whole p.history) rs → AllByRecursion (Spares rs) (batches p.unreleased)
    → AreShown (whole (past_released p).history) rs × AllByRecursion (Spares rs) (batches (past_released p).unreleased)
held_on p rs rise shown spared =
    moved (λ h us. AreShown (whole h) rs × AllByRecursion (Spares rs) (batches us))
    (λ h u us is has. (shown_behind u.batch h rs has.1.0 has.0, has.1.1))
    p.unreleased p.released p.last rise p.history (shown, spared)

are_later : (time from last : ℤ) (us : List Unreleased) → time ≤ℤ from → RiseFrom from last us → AllByRecursion (λ u. time <ℤ u.batch.time) us
are_later time from last [] before rise = tt
are_later time from last (u ∷ us) before rise =
    let here : time <ℤ u.batch.time = let first = rise.0 in omega (arith, ints) in
    (here, are_later time u.batch.time last us (omega (arith, ints)) rise.1)

seen_on : (p : Past) (time : ℤ) (rs : List Read) → UnreleasedRise p → time ≤ℤ p.released → AreShown (at p.history time) rs → AreShown (at (past_released p).history time) rs
seen_on p time rs rise before shown =
    let moves = moved (λ h us. AreShown (at h time) rs × AllByRecursion (λ u. time <ℤ u.batch.time) us)
    (λ h u us is has. (subst (λ docs. AreShown docs rs) (sym (later_unseen u.batch h time has.1.0)) has.0, has.1.1))
    p.unreleased p.released p.last rise p.history (shown, are_later time p.released p.last p.unreleased before rise) in
    moves.0

still_released : (mode : Mode) (p : Past) (t : Txn) → UnreleasedRise p → t.read_time ≤ℤ p.released → AreReadStill mode p t → AreReadStill mode (past_released p) t
still_released Pessimistic p t rise before still = held_on p t.reads rise still.0 still.1
still_released Optimistic p t rise before still = (seen_on p t.read_time t.reads rise before still.0, tt)

pub open_released : (mode : Mode) (p : Past) (ts : List Txn) → UnreleasedRise p → TransactionsHold mode p ts → TransactionsHold mode (past_released p) ts
open_released mode p ts rise holds =
    each (IsOpen mode p) (IsOpen mode (past_released p)) ts
    (λ t here. record {
      floor = here.floor;
      released = let on = released_on p rise in let before = here.released in omega (arith, ints);
      reads = λ rw. still_released mode p t rise here.released (here.reads rw);
    }) holds

-- ---- the rest

still_alike : (mode : Mode) (p q : Past) (t : Txn) → q.history ≡ p.history → batches q.unreleased ≡ batches p.unreleased → AreReadStill mode p t → AreReadStill mode q t
still_alike Pessimistic p q t history unreleased still =
    (subst (λ h. AreShown (whole h) t.reads) (sym history) still.0, subst (AllByRecursion (Spares t.reads)) (sym unreleased) still.1)
still_alike Optimistic p q t history unreleased still = (subst (λ h. AreShown (at h t.read_time) t.reads) (sym history) still.0, tt)

still_dropped : (mode : Mode) (p : Past) (id : ℕ) (t : Txn) → AreReadStill mode p t → AreReadStill mode (record p { unreleased = dropped_from id p.unreleased }) t
still_dropped Pessimistic p id t still = (still.0, all_dropped (Spares t.reads) p.unreleased id still.1)
still_dropped Optimistic p id t still = (still.0, tt)

pub open_decided : (mode : Mode) (p : Past) (u : Unreleased) (r : Result (Docs × List WriteResult) Refusal) (ts : List Txn) → TransactionsHold mode p ts → TransactionsHold mode (past_decided p u r) ts
open_decided mode p u (Ok done) ts holds =
    each (IsOpen mode p) (IsOpen mode (past_decided p u (Ok done))) ts
    (λ t here. record {
      floor = here.floor;
      released = here.released;
      reads = λ rw. still_alike mode p (past_decided p u (Ok done)) t refl (same_batches p.unreleased u.batch.id done.1) (here.reads rw);
    }) holds
open_decided mode p u (Err refusal) ts holds =
    each (IsOpen mode p) (IsOpen mode (past_decided p u (Err refusal))) ts
    (λ t here. record { floor = here.floor; released = here.released; reads = λ rw. still_dropped mode p u.batch.id t (here.reads rw) }) holds

-- the clock goes on
pub open_advanced : (mode : Mode) (p : Past) (now : ℤ) (ts : List Txn) → TransactionsHold mode p ts → TransactionsHold mode (past_advanced p now) ts
open_advanced mode p now ts holds =
    each (IsOpen mode p) (IsOpen mode (past_advanced p now)) ts
    (λ t here. record { floor = here.floor; released = here.released; reads = λ rw. still_alike mode p (past_advanced p now) t refl refl (here.reads rw) }) holds

-- the floor rises, to no later than one reads
pub open_compacted : (mode : Mode) (p : Past) (floor : ℤ) (ts : List Txn) → AllByRecursion (λ t. floor ≤ℤ t.read_time) ts → TransactionsHold mode p ts → TransactionsHold mode (record p { floor = floor }) ts
open_compacted mode p floor [] within holds = tt
open_compacted mode p floor (t ∷ ts) within holds = (
  record { floor = within.0; released = holds.0.released; reads = λ rw. still_alike mode p (record p { floor = floor }) t refl refl (holds.0.reads rw) },
  open_compacted mode p floor ts within.1 holds.1,
)
