-- The least time of two lists.
use Rattle.std.proofs.Common.{◌≡◌, ℤ, Option, Some, None, refl, sym, ap, arith}
use Rattle.std.proofs.lemmas.Int.{ints}
use Rattle.fs_txn.specs.Reading.{earlier}

-- the earlier of two times, of which none may be there
abbrev pub joined : Option ℤ → Option ℤ → Option ℤ
joined a None = a
joined a (Some time) = Some (earlier a time)

two : (a b : ℤ) → earlier (Some a) b ≡ earlier (Some b) a
two a b = grind (arith, ints)

three : (a b c : ℤ) → earlier (Some (earlier (Some a) b)) c ≡ earlier (Some a) (earlier (Some c) b)
three a b c = grind (arith, ints)

pub joined_more : (a b : Option ℤ) (time : ℤ) → joined a (Some (earlier b time)) ≡ joined (Some (earlier a time)) b
joined_more None None time = refl
joined_more (Some a) None time = refl
joined_more None (Some b) time = ap Some (two b time)
joined_more (Some a) (Some b) time = ap Some (sym (three a time b))
