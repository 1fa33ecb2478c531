-- The lines of a script, cut off one after another.
use Rattle.std.proofs.Common.{◌≡◌, ℕ, zero, suc, ◌+◌, ◌<◌, Bool, true, false, eqb, List, [], ◌∷◌, length, take, drop, refl, ap, arith}
use Rattle.memchr.specs.Find.{Nowhere, Passes, is_byte}
use Rattle.fs_replay.specs.Transcript.{lines_of}

not_so : (b : Bool) → (b ≡ true → ⊥) → b ≡ false
not_so true h = absurd (h refl)
not_so false h = refl

-- the first newline ends the first line
pub lines_cut : (text : List ℕ) (end : ℕ) → end < length text → Nowhere (Passes (is_byte 10) text) 0 end → Passes (is_byte 10) text end → lines_of text ≡ take end text ∷ lines_of (drop (end + 1) text)
lines_cut [] end within none here = absurd (omega arith)
lines_cut (x ∷ xs) zero within none here = rw here refl
lines_cut (x ∷ xs) (suc end) within none here =
    let other : eqb x 10 ≡ false = not_so (eqb x 10) (none 0 (omega arith) (omega arith)) in
    let later = lines_cut xs end (omega arith) (λ k low high. none (suc k) (omega arith) (omega arith)) here in
    let next : suc (end + 1) ≡ suc end + 1 = omega arith in
    rw (other, later) (ap (λ n. (x ∷ take end xs) ∷ lines_of (drop n (x ∷ xs))) next)

-- where no newline is left the text is one line
pub lines_last : (text : List ℕ) → Nowhere (Passes (is_byte 10) text) 0 (length text) → lines_of text ≡ text ∷ []
lines_last [] none = refl
lines_last (x ∷ xs) none =
    let other : eqb x 10 ≡ false = not_so (eqb x 10) (none 0 (omega arith) (omega arith)) in
    let later = lines_last xs (λ k low high. none (suc k) (omega arith) (omega arith)) in
    rw (other, later) refl
