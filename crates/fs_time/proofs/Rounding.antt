-- Rounding down to microseconds.
use Rattle.std.proofs.Common.{◌≡◌, arith, ℤ, pos, ◌+ℤ◌, ◌*ℤ◌, ◌≤ℤ◌, ◌<ℤ◌}
use Rattle.std.specs.Int.{int_div_euclid}
use Rattle.jiff_core.proofs.SignedLemmas.{signed_arith}

pub div_down : (n : ℤ) → ((int_div_euclid n (pos 1000) *ℤ pos 1000) ≤ℤ n) × (n <ℤ ((int_div_euclid n (pos 1000) +ℤ pos 1) *ℤ pos 1000))
div_down n = (omega (arith, signed_arith), omega (arith, signed_arith))

pub div_only : (n z : ℤ) → (z *ℤ pos 1000) ≤ℤ n → n <ℤ ((z +ℤ pos 1) *ℤ pos 1000) → int_div_euclid n (pos 1000) ≡ z
div_only n z low high = omega (arith, signed_arith, low, high)
