-- What always holds of the transactions holds after each call.
use Rattle.std.proofs.Common.{◌≡◌, ℕ, ℤ, ◌+◌, ◌-◌, ◌≤◌, ◌<◌, ◌^◌, Bool, true, false, cond, List, [], ◌∷◌, ◌++◌, length, min, Option, Some, None, sum_by, refl, sym, ap, ◌∙◌, subst, add-zero, arith}
use Rattle.std.specs.Prelude.{◌==◌, ◌&&◌, is_some, not}
use Rattle.std.specs.List.{filter, list_any}
use Rattle.std.specs.Option.{option_map_or}
use Rattle.std.proofs.Math.Bool.{and-false}
use Rattle.fs_history.specs.Bytes.{shown_size}
use Rattle.fs_history.specs.Touches.{touches}
use Rattle.fs_history.specs.declared.read.Read.{Read}
use Rattle.fs_locks.specs.Shares.{Shares, is_shared}
use Rattle.fs_path.specs.declared.name.DocName.{DocName}
use Rattle.fs_txn.specs.declared.txn.Txn.{Txn}
use Rattle.fs_txn.specs.Expiry.{is_over, over, remembered}
use Rattle.fs_txn.specs.Kept.{IsKept, Holds, Releases, is_one_over, read_writes}
use Rattle.fs_txn.specs.Reading.{shown_to_all, shown_to}
use Rattle.fs_txn.specs.Rising.{Rise}
use Rattle.fs_txn.specs.Transactions.{changed_at, is_read_write, put_in, txn_of, with_read}
use Rattle.fs_txn.proofs.Readers.{reads_ended, reads_kept, reads_put, reads_used}
use Rattle.fs_txn.proofs.Shown.{length_put, length_changed, length_kept, length_over, shown_put, shown_changed, shown_ended, shown_parts}

pub kept_put : (ts : List Txn) (len capacity more bytes : ℕ) (t : Txn) → IsKept ts len capacity bytes → len + (length ts + 1) ≤ more → shown_to t ≡ 0 → IsKept (put_in t ts) len more bytes
kept_put ts len capacity more bytes t kept room none = record {
  room = omega (arith, length_put t ts);
  few = kept.few;
  counted = kept.counted ∙ sym (shown_put t ts none);
}

pub kept_changed : (ts : List Txn) (len capacity bytes more : ℕ) (id : ℕ) (f : Txn → Txn) (o : Txn) → IsKept ts len capacity bytes → ((t : Txn) → shown_to (f t) ≡ shown_to t + more) → txn_of id ts ≡ Some o
    → IsKept (changed_at id f ts) len capacity (bytes + more)
kept_changed ts len capacity bytes more id f o kept is found =
    let count = length_changed id f ts in
    let room = kept.room in
    record {
      room = omega arith;
      few = kept.few;
      counted = ap (λ n. n + more) kept.counted ∙ sym (shown_changed id more f o ts is found);
    }

pub kept_ended : (ts : List Txn) (len capacity bytes left : ℕ) (id : ℕ) (o : Txn) → IsKept ts len capacity bytes → Rise ts → txn_of id ts ≡ Some o → left ≡ bytes - shown_to o → IsKept (filter (λ t. not (t.id == id)) ts) len capacity left
kept_ended ts len capacity bytes left id o kept rise found is =
    let count = length_kept (λ t. not (t.id == id)) ts in
    let room = kept.room in
    let counted = kept.counted in
    let parts = shown_ended id o ts rise found in
    record { room = omega arith; few = kept.few; counted = omega arith }

pub kept_over : (now : ℤ) (ts : List Txn) (len capacity bytes left last : ℕ) → IsKept ts len capacity bytes → left ≡ bytes - shown_to_all (over now ts) → last ≤ len + length (over now ts) → last ≤ remembered
    → IsKept (filter (λ t. not (is_over now t)) ts) last capacity left
kept_over now ts len capacity bytes left last kept is fewer few =
    let count = length_over now ts in
    let room = kept.room in
    let counted = kept.counted in
    let parts = shown_parts now ts in
    record { room = omega arith; few = few; counted = omega arith }

-- what is counted of one that ends
pub counted_of : (ts : List Txn) (id size bytes : ℕ) (o : Txn) → Rise ts → txn_of id ts ≡ Some o → bytes ≡ shown_to_all ts → bytes < 2 ^ 128 → size ≡ min (shown_to o) (2 ^ 128 - 1) → size ≡ shown_to o
counted_of ts id size bytes o rise found counted fits is = let parts = shown_ended id o ts rise found in omega arith

pub counted_within : (ts : List Txn) (id bytes : ℕ) (o : Txn) → Rise ts → txn_of id ts ≡ Some o → bytes ≡ shown_to_all ts → shown_to o ≤ bytes
counted_within ts id bytes o rise found counted = let parts = shown_ended id o ts rise found in omega arith

-- ---- the one that is changed

pub changed_as : (id : ℕ) (f g : Txn → Txn) (o : Txn) (ts : List Txn) → txn_of id ts ≡ Some o → f o ≡ g o → changed_at id f ts ≡ changed_at id g ts
changed_as id f g o [] found same = refl
changed_as id f g o (t ∷ ts) found same = at (λ there. changed_as id f g o ts there same) (t.id == id) found
  where
    at : (txn_of id ts ≡ Some o → changed_at id f ts ≡ changed_at id g ts) → (b : Bool) → cond b (Some t) (txn_of id ts) ≡ Some o → cond b (f t ∷ ts) (t ∷ changed_at id f ts) ≡ cond b (g t ∷ ts) (t ∷ changed_at id g ts)
    at more true found = let is : t ≡ o = cc in ap (λ u. u ∷ ts) (ap f is ∙ same ∙ ap g (sym is))
    at more false found = ap (λ us. t ∷ us) (more found)

-- one change after another
pub changed_twice : (id : ℕ) (f g : Txn → Txn) (ts : List Txn) → ((t : Txn) → (f t).id ≡ t.id) → changed_at id g (changed_at id f ts) ≡ changed_at id (λ t. g (f t)) ts
changed_twice id f g [] same = refl
changed_twice id f g (t ∷ ts) same = at (changed_twice id f g ts same) (t.id == id) refl
  where
    at : changed_at id g (changed_at id f ts) ≡ changed_at id (λ u. g (f u)) ts → (b : Bool) → (t.id == id) ≡ b → changed_at id g (cond b (f t ∷ ts) (t ∷ changed_at id f ts)) ≡ cond b (g (f t) ∷ ts) (t ∷ changed_at id (λ u. g (f u)) ts)
    at more true is = ap (λ b. cond b (g (f t) ∷ ts) (f t ∷ changed_at id g ts)) (ap (λ (n : ℕ). n == id) (same t) ∙ is)
    at more false is = ap (λ b. cond b (g t ∷ changed_at id f ts) (t ∷ changed_at id g (changed_at id f ts))) is ∙ ap (λ us. t ∷ us) more

pub found_changed : (id : ℕ) (f : Txn → Txn) (ts : List Txn) → ((t : Txn) → (f t).id ≡ t.id) → is_some (txn_of id ts) ≡ true → is_some (txn_of id (changed_at id f ts)) ≡ true
found_changed id f [] same there = there
found_changed id f (t ∷ ts) same there = at (found_changed id f ts same) (t.id == id) refl there
  where
    at : (is_some (txn_of id ts) ≡ true → is_some (txn_of id (changed_at id f ts)) ≡ true) → (b : Bool) → (t.id == id) ≡ b → is_some (cond b (Some t) (txn_of id ts)) ≡ true
        → is_some (txn_of id (cond b (f t ∷ ts) (t ∷ changed_at id f ts))) ≡ true
    at more true is there = ap (λ b. is_some (cond b (Some (f t)) (txn_of id ts))) (ap (λ (n : ℕ). n == id) (same t) ∙ is)
    at more false is there = ap (λ b. is_some (cond b (Some t) (txn_of id (changed_at id f ts)))) is ∙ more there

-- ---- with what is held

pub holds_put : (ts : List Txn) (len capacity more bytes : ℕ) (shares : Shares) (t : Txn) → Holds ts len capacity bytes shares → len + (length ts + 1) ≤ more → t.reads ≡ [] → Holds (put_in t ts) len more bytes shares
holds_put ts len capacity more bytes shares t holds room none = (
  kept_put ts len capacity more bytes t holds.0 room (ap (sum_by shown_size) none),
  λ i n. holds.1 i n ∙ sym (reads_put t ts n i (ap (λ rs. is_read_write t.kind && list_any (touches n) rs) none ∙ and-false (is_read_write t.kind))),
)

pub holds_used : (ts : List Txn) (len capacity bytes : ℕ) (shares : Shares) (id : ℕ) (now : ℤ) → is_some (txn_of id ts) ≡ true → Holds ts len capacity bytes shares → Holds (changed_at id (λ t. record t { used = now }) ts) len capacity bytes shares
holds_used ts len capacity bytes shares id now there holds = at (txn_of id ts) refl there
  where
    at : (o : Option Txn) → txn_of id ts ≡ o → is_some o ≡ true → Holds (changed_at id (λ t. record t { used = now }) ts) len capacity bytes shares
    at None is there = absurd (cc)
    at (Some o) is there = (
      subst (λ n. IsKept (changed_at id (λ t. record t { used = now }) ts) len capacity n) (add-zero bytes)
          (kept_changed ts len capacity bytes 0 id (λ t. record t { used = now }) o holds.0 (λ t. sym (add-zero (shown_to t))) is),
      λ i n. holds.1 i n ∙ sym (reads_used id now ts n i),
    )

-- a read-write one is used, and has a read behind its others
abbrev pub reading : Read → ℤ → Txn → Txn
reading r now t = record t { used = now; reads = t.reads ++ r ∷ [] }

pub holds_ended : (ts : List Txn) (len capacity bytes left : ℕ) (old new : Shares) (id : ℕ) (o : Txn) → Rise ts → txn_of id ts ≡ Some o → left ≡ bytes - shown_to o
    → ((i : ℕ) (n : DocName) → is_shared new i n ≡ (not (i == id) && is_shared old i n)) → Holds ts len capacity bytes old → Holds (filter (λ t. not (t.id == id)) ts) len capacity left new
holds_ended ts len capacity bytes left old new id o rise is counted less holds = (
  kept_ended ts len capacity bytes left id o holds.0 rise is counted,
  λ i n. less i n ∙ ap (λ b. not (i == id) && b) (holds.1 i n) ∙ sym (reads_ended id ts n i),
)

pub holds_over : (now : ℤ) (ts : List Txn) (len capacity bytes left last : ℕ) (old new : Shares) → Rise ts → left ≡ bytes - shown_to_all (over now ts) → last ≤ len + length (over now ts) → last ≤ remembered
    → Releases old new now ts → Holds ts len capacity bytes old → Holds (filter (λ t. not (is_over now t)) ts) last capacity left new
holds_over now ts len capacity bytes left last old new rise counted fewer few less holds = (
  kept_over now ts len capacity bytes left last holds.0 counted fewer few,
  λ i n. less i n ∙ ap (λ b. not (is_one_over now ts i) && b) (holds.1 i n) ∙ sym (reads_kept now ts rise n i),
)

-- ---- a read that is noted

-- the read-write one of an id
pub found_writing : (ts : List Txn) (id : ℕ) → read_writes id ts ≡ true → (o : Txn) × (txn_of id ts ≡ Some o) × (is_read_write o.kind ≡ true)
found_writing ts id there = at (txn_of id ts) refl there
  where
    at : (o : Option Txn) → txn_of id ts ≡ o → option_map_or (λ t. is_read_write t.kind) o false ≡ true → (o : Txn) × (txn_of id ts ≡ Some o) × (is_read_write o.kind ≡ true)
    at None is there = absurd (cc)
    at (Some o) is there = (o, is, there)

note_as : (r : Read) (now : ℤ) (o : Txn) (b : Bool) → is_read_write o.kind ≡ b → record (with_read r o) { used = now } ≡ cond b (reading r now o) (record o { used = now })
note_as r now o b is = at b is
  where
    put : Bool → Txn
    put w = let t : Txn = cond w (record o { reads = o.reads ++ r ∷ [] }) o in record t { used = now }

    at : (b : Bool) → is_read_write o.kind ≡ b → put (is_read_write o.kind) ≡ cond b (reading r now o) (record o { used = now })
    at true is = ap put is
    at false is = ap put is

pub noted_writing : (ts : List Txn) (id : ℕ) (r : Read) (now : ℤ) (o : Txn) → txn_of id ts ≡ Some o → is_read_write o.kind ≡ true → changed_at id (reading r now) ts ≡ changed_at id (λ t. record (with_read r t) { used = now }) ts
noted_writing ts id r now o is kind = changed_as id (reading r now) (λ t. record (with_read r t) { used = now }) o ts is (sym (note_as r now o true kind))

pub noted_reading : (ts : List Txn) (id : ℕ) (r : Read) (now : ℤ) → is_some (txn_of id ts) ≡ true → read_writes id ts ≡ false → changed_at id (λ t. record t { used = now }) ts ≡ changed_at id (λ t. record (with_read r t) { used = now }) ts
noted_reading ts id r now there kind = at (txn_of id ts) refl there kind
  where
    at : (o : Option Txn) → txn_of id ts ≡ o → is_some o ≡ true → option_map_or (λ t. is_read_write t.kind) o false ≡ false → changed_at id (λ t. record t { used = now }) ts ≡ changed_at id (λ t. record (with_read r t) { used = now }) ts
    at None is there kind = absurd (cc)
    at (Some o) is there kind = changed_as id (λ t. record t { used = now }) (λ t. record (with_read r t) { used = now }) o ts is (sym (note_as r now o false kind))
