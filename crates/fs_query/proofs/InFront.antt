-- A filter in front of those behind it.
use Rattle.std.proofs.Common.{◌≡◌, ℕ, zero, suc, List, [], ◌∷◌, drop, sym, ap, ◌∙◌}
use Rattle.std.specs.Prelude.{Some, slice_get}
use Rattle.fs_query.specs.Condition.{Condition}

front_and_rest : (cs : List Condition) (k : ℕ) (c : Condition) → slice_get cs k ≡ Some c → drop k cs ≡ c ∷ drop (suc k) cs
front_and_rest [] k c e = absurd (cc e)
front_and_rest (d ∷ cs) zero c e = cc e
front_and_rest (d ∷ cs) (suc k) c e = front_and_rest cs k c e

pub at_front : (cs : List Condition) (k n : ℕ) (c : Condition) → slice_get cs k ≡ Some c → n ≡ suc k → drop k cs ≡ c ∷ drop n cs
at_front cs k n c e h = front_and_rest cs k c e ∙ ap (λ m. c ∷ drop m cs) (sym h)
