-- Field paths in their order, and references to them.
use Rattle.std.proofs.Common.{◌≡◌, ◌+◌, ◌<◌, ◌≤◌, Bool, false, List, [], ◌∷◌, length, map, refl, ◌∙◌, arith}
use Rattle.std.specs.Borrow.{Bor}
use Rattle.std.specs.Cmp.{IsTotalOrder}
use Rattle.std.specs.List.Sorted.{IsSorted, IsSortedBy}
use Rattle.std.specs.Ordering.{is_lt}
use Rattle.std.proofs.lemmas.Cmp.{on_total}
use Rattle.std.proofs.lemmas.List.{get_or-map, length-map}
use Rattle.fs_path.specs.FieldOrder.{by_parts, paths_at, AreInOrder}
use Rattle.fs_path.specs.Related.{neighbours_related}
use Rattle.fs_path.specs.TextOrder.{ids_cmp_total}
use Rattle.fs_path.specs.declared.field.FieldPath.{FieldPath}

pub by_parts_total : IsTotalOrder by_parts
by_parts_total = on_total (λ p. p.parts) ids_cmp_total

-- what is in order by what f gives of it: so are the given
pub sorted_map : {X Y : Type 0} (f : X → Y) (less : Y → Y → Bool) (xs : List X) → IsSortedBy (λ a b. less (f a) (f b)) xs → IsSortedBy less (map f xs)
sorted_map f less [] up k d low l = absurd (omega arith)
sorted_map f less (x ∷ xs) up k d low l =
    let within : k + 1 < length (x ∷ xs) = omega (arith, length-map (x ∷ xs) f) in
    (λ i. less (get_or-map f (x ∷ xs) (k + 1) x d within i) (get_or-map f (x ∷ xs) k x d (omega arith) i)) ∙ up k x low within

pub sorted_at : (refs : List (Bor FieldPath)) → AreInOrder refs → IsSorted by_parts (paths_at refs)
sorted_at refs up = sorted_map (λ r. r.now) (λ p q. is_lt (by_parts p q)) refs up

-- of one path there is no next
pub few_apart : (r : FieldPath → FieldPath → Bool) (refs : List (Bor FieldPath)) → length refs ≤ 1 → neighbours_related r (paths_at refs) ≡ false
few_apart r [] h = refl
few_apart r (p ∷ []) h = refl
few_apart r (p ∷ q ∷ refs) h = absurd (omega (arith, h))
