-- The laws of numbers and times in transforms.
use Rattle.std.proofs.Common.{◌≡◌, ◌⊎◌, arith}
use Rattle.std.specs.Prelude.{ℤ, pos, negsuc, ◌*ℤ◌, ◌≤ℤ◌, ◌<ℤ◌}
use Rattle.std.proofs.lemmas.Int.{ints}
use Rattle.std.specs.Int.{int_max, int_min}
use Rattle.fs_write.specs.Operation.{IsInteger, least_integer, greatest_integer, saturated, millisecond, whole_milliseconds}

pub saturated_fits : (z : ℤ) → IsInteger z → saturated z ≡ z
saturated_fits z (low, high) = grind (arith, ints)

pub saturated_above : (z : ℤ) → greatest_integer <ℤ z → saturated z ≡ greatest_integer
saturated_above z h = grind (arith, ints)

pub saturated_below : (z : ℤ) → z <ℤ least_integer → saturated z ≡ least_integer
saturated_below z h = grind (arith, ints)

pub max_one : (m n : ℤ) → (int_max m n ≡ m) ⊎ (int_max m n ≡ n)
max_one m n = grind (arith, ints)

pub max_first : (m n : ℤ) → m ≤ℤ int_max m n
max_first m n = grind (arith, ints)

pub max_second : (m n : ℤ) → n ≤ℤ int_max m n
max_second m n = grind (arith, ints)

pub min_one : (m n : ℤ) → (int_min m n ≡ m) ⊎ (int_min m n ≡ n)
min_one m n = grind (arith, ints)

pub min_first : (m n : ℤ) → int_min m n ≤ℤ m
min_first m n = grind (arith, ints)

pub min_second : (m n : ℤ) → int_min m n ≤ℤ n
min_second m n = grind (arith, ints)

-- ---- times

pub time_not_above : (t : ℤ) → whole_milliseconds t ≤ℤ t
time_not_above (pos a) = omega (arith, ints)
time_not_above (negsuc a) = omega (arith, ints)

pub time_greatest : (t k : ℤ) → (k *ℤ millisecond) ≤ℤ t → (k *ℤ millisecond) ≤ℤ whole_milliseconds t
time_greatest (pos a) k h = omega (arith, ints)
time_greatest (negsuc a) k h = omega (arith, ints)
