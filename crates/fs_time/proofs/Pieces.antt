-- A row of pieces, both ways: what is printed along it is read, and what is read was printed along it.
use Rattle.std.proofs.Common.{◌≡◌, ℕ, ◌<◌, ◌==◌, Bool, true, false, cond, List, [], ◌∷◌, ◌++◌, Some, None, refl, subst, arith, append_assoc, eqb-true}
use Rattle.std.proofs.lemmas.Bool.Decides.{nat_tests}
use Rattle.std.proofs.lemmas.Option.{none-some, same_Some}
use Rattle.std.proofs.lemmas.List.Elements.{All-nil, All-append}
use Rattle.fs_time.specs.Pieces.{Piece, Numbers, Fit, digits, printed, after, piece_at, read}
use Rattle.fs_time.proofs.Chains.{then_some}
use Rattle.fs_time.proofs.Digits.{IsAsciiText, digits-ascii, number_at-sound, number_at-digits}

after-bytes : (bytes rest : List ℕ) → after bytes (bytes ++ rest) ≡ Some rest
after-bytes [] rest = refl
after-bytes (b ∷ bytes) rest = let same : (b == b) ≡ true = grind (arith, nat_tests) in rw same (after-bytes bytes rest)

after-sound : (bytes text rest : List ℕ) → after bytes text ≡ Some rest → text ≡ bytes ++ rest
after-sound [] text rest e = same_Some text rest e
after-sound (b ∷ bytes) [] rest e = absurd (none-some rest e)
after-sound (b ∷ bytes) (c ∷ text) rest e = go (c == b) refl e (after-sound bytes text rest)
  where
    go : (same : Bool) → (c == b) ≡ same → cond same (after bytes text) None ≡ Some rest → (after bytes text ≡ Some rest → text ≡ bytes ++ rest) → c ∷ text ≡ b ∷ (bytes ++ rest)
    go true is e more = λ i. eqb-true c b is i ∷ more e i
    go false is e more = absurd (none-some rest e)

-- what is printed along pieces is read
pub read-printed : (ps : List Piece) (ns : Numbers ps) (rest : List ℕ) → Fit ps ns → read ps (printed ps ns ++ rest) ≡ Some (ns, rest)
read-printed [] ns rest fit = refl
read-printed (p ∷ ps) (n, ns) rest (small, fit) =
    rw (
      append_assoc,
      append_assoc,
      after-bytes p.bytes (digits p.places n ++ (printed ps ns ++ rest)),
      number_at-digits p.places n (printed ps ns ++ rest) small,
      read-printed ps ns rest fit,
    )

-- what is read along pieces was printed
pub read-sound : (ps : List Piece) (text : List ℕ) (found : Numbers ps × List ℕ) → read ps text ≡ Some found → Fit ps found.0 × (text ≡ printed ps found.0 ++ found.1)
read-sound [] text found e = let same = same_Some (tt, text) found e in (tt, λ i. (same i).1)
read-sound (p ∷ ps) text found e =
    then_some _ (piece_at p text) found e λ n led e₁.
    then_some _ (after p.bytes text) n led λ rest begun number.
    then_some _ (read ps n.1) found e₁ λ others led₁ e₂.
    let front = after-sound p.bytes text rest begun in
    let (small, digit) = number_at-sound p.places rest n number in
    let (fit, more) = read-sound ps n.1 others led₁ in
    let own : Numbers (p ∷ ps) × List ℕ = ((n.0, others.0), others.1) in
    let text_is : text ≡ printed (p ∷ ps) own.0 ++ own.1 = rw (append_assoc, append_assoc) (cc (front, digit, more)) in
    let P : Numbers (p ∷ ps) × List ℕ → Type 0 = λ f. Fit (p ∷ ps) f.0 × (text ≡ printed (p ∷ ps) f.0 ++ f.1) in
    subst P (same_Some own found e₂) ((small, fit), text_is)

-- pieces of ASCII have a text in ASCII
abbrev pub AsciiPieces : List Piece → Type 0
AsciiPieces [] = Unit {0}
AsciiPieces (p ∷ ps) = IsAsciiText p.bytes × AsciiPieces ps

pub printed-ascii : (ps : List Piece) (ns : Numbers ps) → AsciiPieces ps → IsAsciiText (printed ps ns)
printed-ascii [] ns ascii = All-nil (λ b. b < 128)
printed-ascii (p ∷ ps) (n, ns) (here, ascii) =
    All-append (λ b. b < 128) p.bytes (digits p.places n ++ printed ps ns) here
    (All-append (λ b. b < 128) (digits p.places n) (printed ps ns) (digits-ascii p.places n) (printed-ascii ps ns ascii))
