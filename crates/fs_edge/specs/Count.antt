-- Counts of faults: 64-bit numbers that never fall, and stand still at their last.
use Rattle.std.specs.Prelude.{◌≡◌, ◌⊎◌, ℕ, ◌+◌, min}

abbrev pub LAST_COUNT : ℕ
LAST_COUNT = 18446744073709551615

-- one more, up to the last number
abbrev pub one_more : ℕ → ℕ
one_more count = min (count + 1) LAST_COUNT

-- one more at most: either the same or one more
abbrev pub AtMostOneMore : ℕ → ℕ → Type 0
AtMostOneMore before after = (after ≡ before) ⊎ (after ≡ one_more before)
