-- A text that is a row of pieces, each of them some bytes and then a number of so many digits: how it is printed, and
-- how it is read. `2024-01` has the pieces "" with 4 digits and "-" with 2 digits, and its numbers are 2024 and 1.
use Rattle.std.specs.Prelude.{ℕ, zero, suc, ◌+◌, ◌-◌, ◌*◌, ◌/◌, ◌%◌, ◌^◌, ◌<◌, ◌==◌, if◌then◌else◌, Option, Some, None, option_and_then, List, [], ◌∷◌, ◌++◌}
use Rattle.std.specs.Char.{is_ascii_digit}

-- some bytes, and then a number of so many digits
pub record Piece : Type 0 where
  pub bytes : List ℕ
  pub places : ℕ

-- a number for each piece
abbrev pub Numbers : List Piece → Type 0
Numbers [] = Unit {0}
Numbers (p ∷ ps) = ℕ × Numbers ps

-- no number has more digits than its piece
abbrev pub Fit : (ps : List Piece) → Numbers ps → Type 0
Fit [] ns = Unit {0}
Fit (p ∷ ps) (n, ns) = (n < 10 ^ p.places) × Fit ps ns

-- ---- printed

-- the last k decimal digits of a number, zeros in front included
unfoldable pub digits : ℕ → ℕ → List ℕ
digits zero n = []
digits (suc k) n = digits k (n / 10) ++ (48 + n % 10) ∷ []

-- the text of numbers along their pieces
abbrev pub printed : (ps : List Piece) → Numbers ps → List ℕ
printed [] ns = []
printed (p ∷ ps) (n, ns) = p.bytes ++ (digits p.places n ++ printed ps ns)

-- ---- read

-- what stands at the front of a text, and the text after it
abbrev pub Read : Type 0 → Type 0
Read A = Option (A × List ℕ)

infixl 10 ◌>>=◌
abbrev pub ◌>>=◌ : {A B : Type 0} → Option A → (A → Option B) → Option B
o >>= f = option_and_then f o

-- what follows these bytes
abbrev pub after : List ℕ → List ℕ → Option (List ℕ)
after [] text = Some text
after (byte ∷ bytes) [] = None
after (byte ∷ bytes) (first ∷ rest) = if first == byte then after bytes rest else None

-- a number that goes on with one digit more
abbrev pub digit_more : ℕ → List ℕ → Read ℕ
digit_more n [] = None
digit_more n (b ∷ rest) = if is_ascii_digit b then Some (n * 10 + (b - 48), rest) else None

-- a number of k digits
unfoldable pub number_at : ℕ → List ℕ → Read ℕ
number_at zero text = Some (0, text)
number_at (suc k) text = number_at k text >>= λ front. digit_more front.0 front.1

-- the number that a text shows for one piece
abbrev pub piece_at : Piece → List ℕ → Read ℕ
piece_at p text = after p.bytes text >>= number_at p.places

-- the numbers that a text shows along pieces
abbrev pub read : (ps : List Piece) → List ℕ → Read (Numbers ps)
read [] text = Some (tt, text)
read (p ∷ ps) text = do
  number ← piece_at p text
  others ← read ps number.1
  Some ((number.0, others.0), others.1)
