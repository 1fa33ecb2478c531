-- A number is told apart by its sign.
use Rattle.std.proofs.Common.{◌≡◌, ℤ, pos, negsuc, Some, None, refl, arith}
use Rattle.std.specs.Prelude.{◌≤ℤ◌, ◌<ℤ◌, unsigned_abs}
use Rattle.std.proofs.lemmas.Int.{ints}
use Rattle.fs_rpc.specs.ReadListen.{natural_of}

pub natural_below : (z : ℤ) → z <ℤ pos 0 → natural_of z ≡ None
natural_below (pos n) h = absurd (omega (arith, ints))
natural_below (negsuc n) h = refl

pub natural_above : (z : ℤ) → pos 0 ≤ℤ z → natural_of z ≡ Some (unsigned_abs z)
natural_above (pos n) h = refl
natural_above (negsuc n) h = absurd (omega (arith, ints))
