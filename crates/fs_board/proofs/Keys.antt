-- What the searches of the two maps of a board test.
use Rattle.std.proofs.Common.{◌≡◌, ℕ, ℤ, ◌<ℤ◌, true, false, arith}
use Rattle.std.specs.Prelude.{◌==◌}
use Rattle.std.specs.BTreeMap.{is_at}
use Rattle.std.specs.Ordering.{nat_cmp, int_cmp}
use Rattle.std.specs.declared.cmp.Ordering.TheVariants.{Greater}
use Rattle.std.proofs.lemmas.Bool.Decides.{nat_tests}
use Rattle.std.proofs.lemmas.Int.{ints}

pub id_at : (a b : ℕ) → is_at (nat_cmp a) b ≡ (a == b)
id_at a b = grind (arith, nat_tests)

pub time_at_itself : (t : ℤ) → is_at (int_cmp t) t ≡ true
time_at_itself t = grind (arith, ints)

pub time_not_at : (t u : ℤ) → u <ℤ t → is_at (int_cmp t) u ≡ false
time_not_at t u before = grind (arith, ints)

pub time_after : (t u : ℤ) → u <ℤ t → int_cmp t u ≡ Greater
time_after t u before = grind (arith, ints)

-- what is another's id isn't this one's
pub other_id : (a b c : ℕ) → (a == c) ≡ false → (a == b) ≡ true → (c == b) ≡ false
other_id a b c not is = grind (arith, nat_tests)
