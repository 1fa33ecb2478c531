-- Truth values: what std doesn't say of them, and every crate may cite.
use Rattle.std.proofs.Common.{◌≡◌, Bool, true, false, refl, sym, subst}
use Rattle.std.specs.Prelude.{◌||◌, IsTrue, T}

pub from_true : (b : Bool) → IsTrue b → T b
from_true b h = subst T (sym h) tt

pub to_true : (b : Bool) → T b → IsTrue b
to_true true h = refl
to_true false h = absurd h

-- tests that fail alike are one
pub fail_alike : (a b : Bool) → (a ≡ false → b ≡ false) → (b ≡ false → a ≡ false) → a ≡ b
fail_alike true true f g = refl
fail_alike true false f g = absurd (let h = g refl in cc)
fail_alike false true f g = absurd (let h = f refl in cc)
fail_alike false false f g = refl

-- an `or` whose second part holds only where the first does
pub or_within : (a b : Bool) → (b ≡ true → a ≡ true) → (a || b) ≡ a
or_within true b f = refl
or_within false true f = let h = f refl in absurd (cc)
or_within false false f = refl
