-- A transaction makes several reads.
use Rattle.std.proofs.Common.{◌≡◌, ℕ, zero, suc, ℤ, ◌+◌, ◌<◌, Bool, true, false, cond, List, [], ◌∷◌, ◌++◌, length, take, get_or, Some, sum_by, refl, sym, ap, ◌∙◌, append_assoc, arith}
use Rattle.std.specs.Prelude.{◌==◌, ◌&&◌, ◌||◌, is_some}
use Rattle.std.specs.List.{list_any}
use Rattle.std.specs.Option.{option_map_or}
use Rattle.std.proofs.lemmas.List.{append-nil}
use Rattle.std.proofs.lemmas.List.Folds.{list_any-append, list_any_more}
use Rattle.std.proofs.lemmas.List.Sums.{sum_by-append}
use Rattle.fs_history.specs.Bytes.{shown_size}
use Rattle.fs_history.specs.Touches.{touches}
use Rattle.fs_history.specs.declared.read.Read.{Read}
use Rattle.fs_locks.specs.Shares.{Shares, is_shared, without_last_share}
use Rattle.fs_path.specs.declared.name.DocName.{DocName}
use Rattle.fs_txn.specs.declared.expired.Expired.{Expired}
use Rattle.fs_txn.specs.declared.txn.Txn.{Txn}
use Rattle.fs_txn.specs.Kept.{Holds, read_writes, without_lasts}
use Rattle.fs_txn.specs.Transactions.{Transactions, all_noted, changed_at, is_read_write, noted, txn_of, used_at, with_read}
use Rattle.fs_txn.proofs.Keeping.{changed_as, changed_twice, found_changed, kept_changed, noted_reading, noted_writing, reading}
use Rattle.fs_txn.proofs.Readers.{Adds, reads_changed}

-- ---- what was held for them is taken back

-- whether the first or the last of so many is taken back first
pub lasts_first : (k : ℕ) (shares : Shares) (id : ℕ) → without_lasts k (without_last_share shares id) id ≡ without_lasts (suc k) shares id
lasts_first zero shares id = refl
lasts_first (suc k) shares id = ap (λ (all : Shares). without_last_share all id) (lasts_first k shares id)

-- one more is held, and all so far are taken back
pub back_more : (k : ℕ) (old mid new : Shares) (id : ℕ) → without_lasts k mid id ≡ old → without_last_share new id ≡ mid → without_lasts (k + 1) new id ≡ old
back_more k old mid new id before one =
    let next : k + 1 ≡ suc k = omega arith in
    ap (λ (n : ℕ). without_lasts n new id) next ∙ sym (lasts_first k new id) ∙ ap (λ (all : Shares). without_lasts k all id) one ∙ before

pub lasts_more : (k : ℕ) (old mid new : Shares) (id : ℕ) → mid ≡ without_lasts k old id → new ≡ without_last_share mid id → new ≡ without_lasts (k + 1) old id
lasts_more k old mid new id before one =
    let next : k + 1 ≡ suc k = omega arith in
    one ∙ ap (λ (all : Shares). without_last_share all id) before ∙ ap (λ (n : ℕ). without_lasts n old id) (sym next)

-- ---- what is held for them

-- of reads that a transaction makes one after another
abbrev pub HoldsMore : Shares → Shares → ℕ → List Read → Type 0
HoldsMore old new id rs = (i : ℕ) (n : DocName) → is_shared new i n ≡ (is_shared old i n || (i == id && list_any (touches n) rs))

pub holds_none : (shares : Shares) (id : ℕ) → HoldsMore shares shares id []
holds_none shares id i n = at (is_shared shares i n) (i == id)
  where
    at : (a b : Bool) → a ≡ (a || (b && false))
    at true b = refl
    at false true = refl
    at false false = refl

pub holds_next : (old mid new : Shares) (id k : ℕ) (r : Read) (rs : List Read) → k < length rs → r ≡ get_or rs k r → HoldsMore old mid id (take k rs)
    → ((i : ℕ) (n : DocName) → is_shared new i n ≡ (is_shared mid i n || (i == id && touches n r))) → HoldsMore old new id (take (k + 1) rs)
holds_next old mid new id k r rs within is before one i n =
    one i n ∙ ap (λ b. b || (i == id && touches n r)) (before i n)
    ∙ joined (is_shared old i n) (i == id) (list_any (touches n) (take k rs)) (touches n r)
    ∙ ap (λ b. is_shared old i n || (i == id && b)) (sym (list_any_more (touches n) rs k r within ∙ ap (λ (x : Read). list_any (touches n) (take k rs) || touches n x) (sym is)))
  where
    joined : (a b c d : Bool) → ((a || (b && c)) || (b && d)) ≡ (a || (b && (c || d)))
    joined true b c d = refl
    joined false true c d = refl
    joined false false c d = refl

-- ---- what is noted of them

-- a read-write one is used, and has these reads behind its others
abbrev pub readings : List Read → ℤ → Txn → Txn
readings rs now t = record t { used = now; reads = t.reads ++ rs }

-- or has them, and is used then
abbrev pub mores : List Read → Txn → Txn
mores rs t = record t { reads = t.reads ++ rs }

shown_withs : (rs : List Read) (now : ℤ) (t : Txn) → sum_by shown_size (t.reads ++ rs) ≡ sum_by shown_size t.reads + sum_by shown_size rs
shown_withs rs now t = sum_by-append shown_size t.reads rs

readings_add : (rs : List Read) (now : ℤ) (o : Txn) → is_read_write o.kind ≡ true → Adds (readings rs now) (λ n. list_any (touches n) rs) o
readings_add rs now o is n =
    ap (λ b. b && list_any (touches n) (o.reads ++ rs)) is
    ∙ list_any-append (touches n) o.reads rs
    ∙ ap (λ b. (b && list_any (touches n) o.reads) || list_any (touches n) rs) (sym is)

pub holds_readings : (ts : List Txn) (len capacity bytes : ℕ) (old new : Shares) (id : ℕ) (rs : List Read) (now : ℤ) (o : Txn) → txn_of id ts ≡ Some o → is_read_write o.kind ≡ true
    → HoldsMore old new id rs → Holds ts len capacity bytes old → Holds (changed_at id (readings rs now) ts) len capacity (bytes + sum_by shown_size rs) new
holds_readings ts len capacity bytes old new id rs now o is kind more holds = (
  kept_changed ts len capacity bytes (sum_by shown_size rs) id (readings rs now) o holds.0 (shown_withs rs now) is,
  λ i n. more i n ∙ ap (λ b. b || (i == id && list_any (touches n) rs)) (holds.1 i n)
      ∙ sym (reads_changed id (readings rs now) (λ m. list_any (touches m) rs) o ts (λ t. refl) (readings_add rs now o kind) is n i),
)

found_as : (id : ℕ) (f : Txn → Txn) (o : Txn) (ts : List Txn) → ((t : Txn) → (f t).id ≡ t.id) → txn_of id ts ≡ Some o → txn_of id (changed_at id f ts) ≡ Some (f o)
found_as id f o [] same found = absurd (cc)
found_as id f o (t ∷ ts) same found = at (found_as id f o ts same) (t.id == id) refl found
  where
    at : (txn_of id ts ≡ Some o → txn_of id (changed_at id f ts) ≡ Some (f o)) → (b : Bool) → (t.id == id) ≡ b → cond b (Some t) (txn_of id ts) ≡ Some o
        → txn_of id (cond b (f t ∷ ts) (t ∷ changed_at id f ts)) ≡ Some (f o)
    at more true is found =
        let it : t ≡ o = cc in
        ap (λ b. cond b (Some (f t)) (txn_of id ts)) (ap (λ (n : ℕ). n == id) (same t) ∙ is) ∙ ap (λ (u : Txn). Some (f u)) it
    at more false is found = ap (λ b. cond b (Some t) (txn_of id (changed_at id f ts))) is ∙ more found

pub noted_all : (rs : List Read) (es : List Expired) (ts : List Txn) (id : ℕ) (now : ℤ) (o : Txn) → txn_of id ts ≡ Some o → is_read_write o.kind ≡ true
    → record { «open» = changed_at id (readings rs now) ts; expired = es } ≡ all_noted (record { «open» = ts; expired = es }) id rs now
noted_all [] es ts id now o is kind =
    ap (λ (us : List Txn). record { «open» = us; expired = es })
    (changed_as id (readings [] now) (λ t. record t { used = now }) o ts is (ap (λ (rs : List Read). record o { used = now; reads = rs }) (append-nil o.reads)))
noted_all (r ∷ rs) es ts id now o is kind =
    ap (λ (us : List Txn). record { «open» = us; expired = es })
    (changed_as id (readings (r ∷ rs) now) (λ t. readings rs now (reading r now t)) o ts is (ap (λ (all : List Read). record o { used = now; reads = all }) (sym (append_assoc o.reads (r ∷ []) rs)))
    ∙ sym (changed_twice id (reading r now) (readings rs now) ts (λ t. refl)))
    ∙ noted_all rs es (changed_at id (reading r now) ts) id now (reading r now o) (found_as id (reading r now) o ts (λ t. refl) is) kind
    ∙ ap (λ (us : List Txn). all_noted (record { «open» = us; expired = es }) id rs now) (noted_writing ts id r now o is kind)

-- ---- a read-only one notes none

not_writing : (ts : List Txn) (id : ℕ) (now : ℤ) → read_writes id (changed_at id (λ t. record t { used = now }) ts) ≡ read_writes id ts
not_writing [] id now = refl
not_writing (t ∷ ts) id now = at (not_writing ts id now) (t.id == id) refl
  where
    at : read_writes id (changed_at id (λ u. record u { used = now }) ts) ≡ read_writes id ts → (b : Bool) → (t.id == id) ≡ b
        → read_writes id (cond b (record t { used = now } ∷ ts) (t ∷ changed_at id (λ u. record u { used = now }) ts)) ≡ option_map_or (λ u. is_read_write u.kind) (cond b (Some t) (txn_of id ts)) false
    at more true is = ap (λ b. option_map_or (λ (u : Txn). is_read_write u.kind) (cond b (Some (record t { used = now })) (txn_of id ts)) false) is
    at more false is = ap (λ b. option_map_or (λ (u : Txn). is_read_write u.kind) (cond b (Some t) (txn_of id (changed_at id (λ u. record u { used = now }) ts))) false) is ∙ more

pub noted_none : (rs : List Read) (us : Transactions) (id : ℕ) (now : ℤ) → is_some (txn_of id us.open) ≡ true → read_writes id us.open ≡ false → used_at us id now ≡ all_noted us id rs now
noted_none [] us id now there kind = refl
noted_none (r ∷ rs) us id now there kind =
    ap (λ (ts : List Txn). record us { «open» = ts }) (sym (changed_twice id (λ t. record t { used = now }) (λ t. record t { used = now }) us.open (λ t. refl)))
    ∙ noted_none rs (used_at us id now) id now (found_changed id (λ t. record t { used = now }) us.open (λ t. refl) there) (not_writing us.open id now ∙ kind)
    ∙ ap (λ (ts : List Txn). all_noted (record us { «open» = ts }) id rs now) (noted_reading us.open id r now there kind)

-- ---- one read alone

noted_id : (r : Read) (t : Txn) → (with_read r t).id ≡ t.id
noted_id r t = at (is_read_write t.kind)
  where
    at : (b : Bool) → (let u : Txn = cond b (record t { reads = t.reads ++ r ∷ [] }) t in u.id) ≡ t.id
    at true = refl
    at false = refl

pub noted_alone : (us : Transactions) (id : ℕ) (r : Read) (now : ℤ) → all_noted us id (r ∷ []) now ≡ noted us id r now
noted_alone us id r now =
    ap (λ (ts : List Txn). record us { «open» = ts }) (changed_twice id (λ t. record (with_read r t) { used = now }) (λ t. record t { used = now }) us.open (noted_id r))
