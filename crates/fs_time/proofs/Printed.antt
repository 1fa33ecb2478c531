-- What holds of every printed text: it is ASCII, and short.
use Rattle.std.proofs.Common.{ℕ, ◌<◌, ◌≤◌, ◌%◌, ◌==◌, Bool, true, false, cond, [], ◌∷◌, All, length, length-append, arith, ℤ}
use Rattle.std.proofs.lemmas.List.Elements.{All-nil, All-cons}
use Rattle.fs_time.specs.Stamp.{utc, decimals_piece, form, numbers}
use Rattle.fs_time.specs.Rfc3339.{decimals, stamp_at, time_text, longest_text}
use Rattle.fs_time.proofs.Digits.{IsAsciiText, length-digits}
use Rattle.fs_time.proofs.Pieces.{printed-ascii}
use Rattle.fs_time.proofs.Moments.{since_first, decimals_most}

none : IsAsciiText []
none = All-nil (λ b. b < 128)

one : (b : ℕ) → b < 128 → IsAsciiText (b ∷ [])
one b small = All-cons (λ b. b < 128) b [] small none

point : (places : ℕ) → IsAsciiText (decimals_piece places).bytes
point places = go (places == 0)
  where
    go : (whole : Bool) → IsAsciiText (cond whole [] (46 ∷ []))
    go true = none
    go false = one 46 (omega arith)

-- it is ASCII
pub time_text-ascii : (z : ℤ) → All (λ b. b < 128) (time_text z)
unfolding time_text
time_text-ascii z =
    let p = stamp_at z in
    let dash = one 45 (omega arith) in
    let colon = one 58 (omega arith) in
    printed-ascii (form p.places utc) (numbers p) (none, (dash, (dash, (one 84 (omega arith), (colon, (colon, (point p.places, (one 90 (omega arith), (none, tt)))))))))

point_longest : (places : ℕ) → length (decimals_piece places).bytes ≤ 1
point_longest places = grind arith

-- and it has at most so many bytes
pub time_text-longest : (z : ℤ) → length (time_text z) ≤ longest_text
unfolding time_text
time_text-longest z =
    let places = decimals (since_first z % 1_000_000) in
    simp (length-append, length-digits) (omega (arith, decimals_most (since_first z % 1_000_000), point_longest places))
