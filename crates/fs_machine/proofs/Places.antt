-- A place in a list, counted from the next.
use Rattle.std.proofs.Common.{◌≡◌, ℕ, ◌+◌, suc, Option, Some, None, option_map, refl, arith}

pub next_place : (o : Option ℕ) (i : ℕ) → option_map (λ place. place + 1) o ≡ Some i → (j : ℕ) × (o ≡ Some j) × (i ≡ suc j)
next_place None i h = absurd (cc)
next_place (Some j) i h = (j, refl, let e : Some (j + 1) ≡ Some i = h in let f : j + 1 ≡ i = cc in omega (arith, f))

pub none_there : (o : Option ℕ) → option_map (λ place. place + 1) o ≡ None → o ≡ None
none_there None h = refl
none_there (Some j) h = absurd (cc)
