-- The text of a time: what is read of it, and that what is read has that text.
use Rattle.std.proofs.Common.{◌≡◌, ℕ, zero, suc, ◌<◌, ◌^◌, ◌≤◌, ◌==◌, false, List, [], ◌∷◌, ◌++◌, length, Some, refl, sym, ap, ◌∙◌, subst, arith, append_assoc, append-nil, eqb-true}
use Rattle.std.proofs.lemmas.Bool.Decides.{nat_tests}
use Rattle.std.proofs.lemmas.List.{nil_from_length}
use Rattle.std.specs.List.{prefix_len}
use Rattle.std.specs.Char.{is_ascii_digit}
use Rattle.fs_time.specs.Pieces.{Numbers, Fit, digits, printed, read}
use Rattle.fs_time.specs.Stamp.{Sign, utc, ahead, behind, Stamp, date_time, decimals_piece, offset_pieces, form, numbers, text_of, most_decimals}
use Rattle.fs_time.specs.Rfc3339.{places_at, sign_at, stamp_by_numbers, stamp_in}
use Rattle.fs_time.proofs.Chains.{cond_some, then_some}
use Rattle.fs_time.proofs.Digits.{no_digits, prefix_len-digits}
use Rattle.fs_time.proofs.Pieces.{read-printed, read-sound}

-- the text in the three parts that are read
abbrev date_time_of : Stamp → Numbers date_time
date_time_of p = (p.year, (p.month, (p.day, (p.hour, (p.minute, (p.second, tt))))))

abbrev decimals_text : ℕ → ℕ → List ℕ → List ℕ
decimals_text k n rest = printed (decimals_piece k ∷ []) (n, tt) ++ rest

abbrev offset_text : (s : Sign) → Numbers (offset_pieces s) → List ℕ
offset_text s ns = printed (offset_pieces s) ns ++ []

text_parts : (p : Stamp) → text_of p ≡ printed date_time (date_time_of p) ++ decimals_text p.places p.fraction (offset_text p.offset.sign (p.offset.hours, (p.offset.minutes, tt)))
text_parts p = simp (append_assoc, append-nil)

-- each number has as many digits as its piece
pub fitting : (p : Stamp) → p.year < 10_000 → p.month < 100 → p.day < 100 → p.hour < 100 → p.minute < 100 → p.second < 100 → p.fraction < 10 ^ p.places → Fit (offset_pieces p.offset.sign) (p.offset.hours, (p.offset.minutes, tt)) → Fit (form p.places p.offset.sign) (numbers p)
fitting p year month day hour minute second fraction offset = (year, (month, (day, (hour, (minute, (second, (fraction, offset)))))))

-- ---- what is read has that text

places_at-most : (text : List ℕ) → places_at text ≤ most_decimals
places_at-most [] = omega arith
places_at-most (b ∷ rest) = grind arith

pub stamp_in-sound : (text : List ℕ) (p : Stamp) → stamp_in text ≡ Some p → Fit (form p.places p.offset.sign) (numbers p) × (p.places ≤ most_decimals) × (text ≡ text_of p)
unfolding stamp_in
stamp_in-sound text p e =
    then_some _ (read date_time text) p e λ front led e₁.
    then_some _ (read (decimals_piece (places_at front.1) ∷ []) front.1) p e₁ λ decimals led₁ e₂.
    then_some _ (sign_at decimals.1) p e₂ λ sign led₂ e₃.
    then_some _ (read (offset_pieces sign) decimals.1) p e₃ λ offset led₃ e₄.
    let own = stamp_by_numbers (places_at front.1) sign front.0 decimals.0 offset.0 in
    let (test, same) = cond_some (length offset.1 == 0) own p e₄ in
    let none = nil_from_length offset.1 (eqb-true _ _ test) in
    let ((year, (month, (day, (hour, (minute, (second, end)))))), text₁) = read-sound date_time text front led in
    let ((fraction, end₁), text₂) = read-sound (decimals_piece (places_at front.1) ∷ []) front.1 decimals led₁ in
    let (fit, text₃) = read-sound (offset_pieces sign) decimals.1 offset led₃ in
    let whole : text ≡ printed date_time front.0 ++ decimals_text (places_at front.1) decimals.0.0 (offset_text sign offset.0) = cc (text₁, text₂, text₃, none) in
    let P : Stamp → Type 0 = λ q. Fit (form q.places q.offset.sign) (numbers q) × (q.places ≤ most_decimals) × (text ≡ text_of q) in
    subst P same ((year, (month, (day, (hour, (minute, (second, (fraction, fit))))))), places_at-most front.1, whole ∙ sym (text_parts own))

-- ---- that text is read

-- an offset begins with no digit and no point
no_digit_first : (s : Sign) (ns : Numbers (offset_pieces s)) → prefix_len is_ascii_digit (offset_text s ns) ≡ 0
no_digit_first utc ns = refl
no_digit_first ahead ns = refl
no_digit_first behind ns = refl

no_point_first : (s : Sign) (ns : Numbers (offset_pieces s)) → places_at (offset_text s ns) ≡ 0
no_point_first utc ns = refl
no_point_first ahead ns = refl
no_point_first behind ns = refl

sign_at-text : (s : Sign) (ns : Numbers (offset_pieces s)) → sign_at (offset_text s ns) ≡ Some s
sign_at-text utc ns = refl
sign_at-text ahead ns = refl
sign_at-text behind ns = refl

places_at-point : (k : ℕ) (rest : List ℕ) → prefix_len is_ascii_digit rest ≡ suc k → suc k ≤ most_decimals → places_at (46 ∷ rest) ≡ suc k
places_at-point k rest count few = rw count (grind arith)

places_at-text : (k n : ℕ) (s : Sign) (ns : Numbers (offset_pieces s)) → k ≤ most_decimals → places_at (decimals_text k n (offset_text s ns)) ≡ k
places_at-text zero n s ns few = rw (no_digits 0 n refl) (no_point_first s ns)
places_at-text (suc k) n s ns few =
    let some : (suc k == 0) ≡ false = grind (arith, nat_tests) in
    let begun : decimals_text (suc k) n (offset_text s ns) ≡ 46 ∷ (digits (suc k) n ++ offset_text s ns) = rw some (ap (λ (t : List ℕ). 46 ∷ (t ++ offset_text s ns)) (append-nil (digits (suc k) n))) in
    let count = prefix_len-digits (suc k) n (offset_text s ns) ∙ rw (no_digit_first s ns) (omega arith) in
    ap places_at begun ∙ places_at-point k (digits (suc k) n ++ offset_text s ns) count few

pub stamp_in-text : (p : Stamp) → Fit (form p.places p.offset.sign) (numbers p) → p.places ≤ most_decimals → stamp_in (text_of p) ≡ Some p
unfolding stamp_in
stamp_in-text p (year, (month, (day, (hour, (minute, (second, (fraction, fit))))))) few =
    let ns : Numbers (offset_pieces p.offset.sign) = (p.offset.hours, (p.offset.minutes, tt)) in
    let rest = offset_text p.offset.sign ns in
    rw (text_parts p)
    (rw (
      read-printed date_time (date_time_of p) (decimals_text p.places p.fraction rest) (year, (month, (day, (hour, (minute, (second, tt)))))),
      places_at-text p.places p.fraction p.offset.sign ns few,
      read-printed (decimals_piece p.places ∷ []) (p.fraction, tt) rest (fraction, tt),
      sign_at-text p.offset.sign ns,
      read-printed (offset_pieces p.offset.sign) ns [] fit,
    ) refl)
