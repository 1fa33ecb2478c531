-- A part of a list of bytes that was copied to the front of a buffer.
use Rattle.std.proofs.Common.{◌≡◌, ℕ, ◌+◌, ◌-◌, ◌≤◌, List, ◌++◌, length, take, drop, ap, ◌∙◌, sym, arith, length-drop}
use Rattle.std.proofs.lemmas.List.{take-append-drop, take_at, drop-drop, length-take-le}

-- what is left from a place is the part that was copied, and then the rest
pub part_then_rest : (bytes front tail : List ℕ) (at n : ℕ) → front ≡ take (at + n - at) (drop at bytes) → at + n ≤ length bytes → drop at bytes ≡ take n (front ++ tail) ++ drop (at + n) bytes
part_then_rest bytes front tail at n is fits =
    let now : front ≡ take n (drop at bytes) = is ∙ ap (λ k. take k (drop at bytes)) (omega arith) in
    let enough : n ≤ length (drop at bytes) = omega (arith, length-drop at bytes) in
    let long : length front ≡ n = ap length now ∙ length-take-le n (drop at bytes) enough in
    sym (ap (λ p. p ++ drop (at + n) bytes) (take_at front tail n long ∙ now) ∙ ap (λ r. take n (drop at bytes) ++ r) (sym (drop-drop n at bytes)) ∙ take-append-drop n (drop at bytes))
