-- What comparisons tell: what std doesn't say of them, and every crate may cite.
use Rattle.std.proofs.Common.{◌≡◌, Bool, false, refl}
use Rattle.std.specs.Prelude.{◌&&◌, IsTrue}
use Rattle.std.specs.Ordering.{is_lt, is_eq, is_gt, ordering_reverse, ordering_then}
use Rattle.std.specs.declared.cmp.Ordering.{Ordering}
use Rattle.std.specs.declared.cmp.Ordering.TheVariants.{Less, Equal, Greater}

pub less_is : (o : Ordering) → IsTrue (is_lt o) → o ≡ Less
less_is Less h = refl
less_is Equal h = absurd (cc)
less_is Greater h = absurd (cc)

-- what is less, and more besides, isn't equal
pub below_less : (o : Ordering) (more : Bool) → IsTrue (is_lt o && more) → (is_eq o ≡ false) × IsTrue more
below_less Less more h = (refl, h)
below_less Equal more h = absurd (cc)
below_less Greater more h = absurd (cc)

-- where the other isn't less, this one isn't greater
pub not_after : (o : Ordering) → is_lt (ordering_reverse o) ≡ false → is_gt o ≡ false
not_after Less h = refl
not_after Equal h = refl
not_after Greater h = absurd (cc)

pub then_assoc : (a b c : Ordering) → ordering_then a (ordering_then b c) ≡ ordering_then (ordering_then a b) c
then_assoc Less b c = refl
then_assoc Equal b c = refl
then_assoc Greater b c = refl

-- what isn't less by two comparisons isn't by the first
pub not_less_first : (a b : Ordering) → is_lt (ordering_then a b) ≡ false → is_lt a ≡ false
not_less_first Less b h = h
not_less_first Equal b h = refl
not_less_first Greater b h = refl
