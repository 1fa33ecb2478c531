-- A session opens.
use Rattle.std.proofs.Common.{◌≡◌, ◌-◌, Bool, false, cond, List, [], ◌∷◌, ◌++◌, length, sym, ap, ◌∙◌, arith}
use Rattle.std.specs.Prelude.{take}
use Rattle.std.proofs.lemmas.List.{length-append, take_at}
use Rattle.fs_machine.specs.Open.{is_full, opened, with_session}
use Rattle.fs_machine.specs.State.{Machine}

pub not_full : (m : Machine) (b : Bool) → b ≡ is_full m → b ≡ false → opened m ≡ with_session m
not_full m b is free = ap (λ (x : Bool). cond x m (with_session m)) (sym is ∙ free)

-- the last of a list is taken off again
pub taken_last : {A : Type 0} (xs : List A) (x : A) → take (length (xs ++ x ∷ []) - 1) (xs ++ x ∷ []) ≡ xs
taken_last xs x = let more = length-append xs (x ∷ []) in take_at xs (x ∷ []) (length (xs ++ x ∷ []) - 1) (omega (arith, more))
