-- A moment before which none expires is one after each call.
use Rattle.std.proofs.Common.{◌≡◌, ℕ, ◌≤◌, ℤ, ◌<ℤ◌, ◌≤ℤ◌, Bool, true, false, cond, List, [], ◌∷◌, ◌++◌, length, ◌-◌, drop, map, refl, sym, ap, ◌∙◌, subst, arith}
use Rattle.std.specs.Prelude.{◌+ℤ◌, ◌==◌, ◌||◌, int_le, not}
use Rattle.std.specs.Int.{int_min}
use Rattle.std.specs.List.{filter}
use Rattle.std.proofs.lemmas.Int.{ints}
use Rattle.std.proofs.lemmas.List.{append-nil}
use Rattle.fs_txn.specs.declared.expired.Expired.{Expired}
use Rattle.fs_txn.specs.declared.txn.Txn.{Txn}
use Rattle.fs_txn.specs.Expiry.{gone, idle, is_over, last_of, longest, over, remembered}
use Rattle.fs_txn.specs.Kept.{IsQuiet, ends}
use Rattle.fs_txn.specs.Transactions.{changed_at, put_in}
use Rattle.fs_txn.proofs.Entries.{all_kept, all_other, all_put}

earlier_end : (a b z : ℤ) → a ≤ℤ b → b ≤ℤ z → a ≤ℤ z
earlier_end a b z first second = omega (arith, ints)

pub quiet_earlier : (due more : ℤ) (ts : List Txn) → more ≤ℤ due → IsQuiet due ts → IsQuiet more ts
quiet_earlier due more ts before quiet = all_other (λ (t : Txn). due ≤ℤ ends t) (λ (t : Txn). more ≤ℤ ends t) ts (λ t. earlier_end more due (ends t) before) quiet

from_begin : (more now : ℤ) → more ≤ℤ (now +ℤ idle) → more ≤ℤ int_min (now +ℤ idle) (now +ℤ longest)
from_begin more now before = grind (arith, ints)

-- one begins
pub quiet_put : (due more now : ℤ) (t : Txn) (ts : List Txn) → t.used ≡ now → t.begun ≡ now → more ≤ℤ due → more ≤ℤ (now +ℤ idle) → IsQuiet due ts → IsQuiet more (put_in t ts)
quiet_put due more now t ts used begun before late quiet =
    all_put (λ u. more ≤ℤ ends u) ts t
    (subst (λ z. more ≤ℤ int_min (z +ℤ idle) (t.begun +ℤ longest)) (sym used) (subst (λ z. more ≤ℤ int_min (now +ℤ idle) (z +ℤ longest)) (sym begun) (from_begin more now late)))
    (quiet_earlier due more ts before quiet)

from_use : (due more now begun used : ℤ) → more ≤ℤ due → more ≤ℤ (now +ℤ idle) → due ≤ℤ int_min (used +ℤ idle) (begun +ℤ longest) → more ≤ℤ int_min (now +ℤ idle) (begun +ℤ longest)
from_use due more now begun used before late quiet = grind (arith, ints)

-- one is used
pub quiet_used : (due more now : ℤ) (id : ℕ) (f : Txn → Txn) (ts : List Txn) → ((t : Txn) → ends (f t) ≡ int_min (now +ℤ idle) (t.begun +ℤ longest)) → more ≤ℤ due → more ≤ℤ (now +ℤ idle) → IsQuiet due ts → IsQuiet more (changed_at id f ts)
quiet_used due more now id f [] is before late quiet = tt
quiet_used due more now id f (t ∷ ts) is before late quiet = at (quiet_used due more now id f ts is before late quiet.1) (t.id == id)
  where
    at : IsQuiet more (changed_at id f ts) → (b : Bool) → IsQuiet more (cond b (f t ∷ ts) (t ∷ changed_at id f ts))
    at rest true = (subst (λ z. more ≤ℤ z) (sym (is t)) (from_use due more now t.begun t.used before late quiet.0), quiet_earlier due more ts before quiet.1)
    at rest false = (earlier_end more due (ends t) before quiet.0, rest)

pub quiet_kept : (due : ℤ) (p : Txn → Bool) (ts : List Txn) → IsQuiet due ts → IsQuiet due (filter p ts)
quiet_kept due p ts quiet = all_kept (λ t. due ≤ℤ ends t) p ts quiet

-- ---- a tick before it

both_later : (due a b : ℤ) → due ≤ℤ int_min a b → (due ≤ℤ a) × (due ≤ℤ b)
both_later due a b is = (grind (arith, ints), grind (arith, ints))

not_yet : (now due end : ℤ) → now <ℤ due → due ≤ℤ end → int_le end now ≡ false
not_yet now due end before later = grind (arith, ints)

not_over : (now due : ℤ) (t : Txn) → now <ℤ due → due ≤ℤ ends t → is_over now t ≡ false
not_over now due t before quiet =
    let later = both_later due (t.used +ℤ idle) (t.begun +ℤ longest) quiet in
    ap (λ b. b || int_le (t.used +ℤ idle) now) (not_yet now due (t.begun +ℤ longest) before later.1) ∙ not_yet now due (t.used +ℤ idle) before later.0

pub none_over : (now due : ℤ) (ts : List Txn) → now <ℤ due → IsQuiet due ts → over now ts ≡ []
none_over now due [] before quiet = refl
none_over now due (t ∷ ts) before quiet = ap (λ b. cond b (t ∷ over now ts) (over now ts)) (not_over now due t before quiet.0) ∙ none_over now due ts before quiet.1

pub all_stay : (now due : ℤ) (ts : List Txn) → now <ℤ due → IsQuiet due ts → filter (λ t. not (is_over now t)) ts ≡ ts
all_stay now due [] before quiet = refl
all_stay now due (t ∷ ts) before quiet =
    ap (λ b. cond (not b) (t ∷ filter (λ u. not (is_over now u)) ts) (filter (λ u. not (is_over now u)) ts)) (not_over now due t before quiet.0)
    ∙ ap (λ us. t ∷ us) (all_stay now due ts before quiet.1)

pub same_remembered : (now due : ℤ) (es : List Expired) (ts : List Txn) → now <ℤ due → IsQuiet due ts → length es ≤ remembered → last_of (es ++ map (gone now) (over now ts)) ≡ es
same_remembered now due es ts before quiet few =
    ap (λ us. last_of (es ++ map (gone now) us)) (none_over now due ts before quiet) ∙ ap last_of (append-nil es) ∙ whole es few
  where
    whole : (es : List Expired) → length es ≤ remembered → last_of es ≡ es
    whole es few = let none : length es - remembered ≡ 0 = omega arith in ap (λ n. drop n es) none
