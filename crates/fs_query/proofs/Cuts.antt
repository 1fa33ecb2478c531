-- Lists cut at numbers that may be beyond their ends.
use Rattle.std.proofs.Common.{◌≡◌, ℕ, zero, suc, ◌-◌, List, [], ◌∷◌, map, length, take, drop, min, refl, sym, ap, ◌∙◌, arith}
use Rattle.std.specs.Prelude.{ℤ, Some, None}
use Rattle.std.proofs.lemmas.List.{take_all, length-drop}
use Rattle.std.specs.List.{take-map, drop-map}
use Rattle.fs_query.specs.Answer.{count_of, limited}
use Rattle.fs_value.specs.declared.document.Document.{Document}

module _ {X : Type 0} where
  take_within : (n m : ℕ) (xs : List X) → m ≡ min n (length xs) → take m xs ≡ take n xs
  take_within zero m xs e = ap (λ (k : ℕ). take k xs) (let z : m ≡ 0 = omega arith in z)
  take_within (suc n) m [] e = ap (λ (k : ℕ). take k []) (let z : m ≡ 0 = omega arith in z)
  take_within (suc n) m (x ∷ xs) e =
      let more : m ≡ suc (min n (length xs)) = omega arith in
      ap (λ (k : ℕ). take k (x ∷ xs)) more ∙ ap (λ ys. x ∷ ys) (take_within n (min n (length xs)) xs refl)

  drop_within : (n m : ℕ) (xs : List X) → m ≡ min n (length xs) → drop m xs ≡ drop n xs
  drop_within zero m xs e = ap (λ (k : ℕ). drop k xs) (let z : m ≡ 0 = omega arith in z)
  drop_within (suc n) m [] e = ap (λ (k : ℕ). drop k []) (let z : m ≡ 0 = omega arith in z)
  drop_within (suc n) m (x ∷ xs) e =
      let more : m ≡ suc (min n (length xs)) = omega arith in
      ap (λ (k : ℕ). drop k (x ∷ xs)) more ∙ drop_within n (min n (length xs)) xs refl

  -- what a slice from a number on holds
  pub rest_from : (n m : ℕ) (xs : List X) → m ≡ min n (length xs) → take (length xs - m) (drop m xs) ≡ drop n xs
  rest_from n m xs e = take_all (length xs - m) (drop m xs) (omega (arith, length-drop m xs)) ∙ drop_within n m xs e

-- what stands behind an offset, as references and as documents
module _ {X : Type 0} (f : X → Document) where
  pub cut_unlimited : (n m : ℕ) (xs : List X) → m ≡ min n (length xs) → map f (take (length xs - m) (drop m xs)) ≡ limited None (drop n (map f xs))
  cut_unlimited n m xs e = ap (map f) (rest_from n m xs e) ∙ sym (drop-map f n xs)

  pub cut_limited : (limit : ℤ) (n m k : ℕ) (xs : List X) → m ≡ min n (length xs) → k ≡ min (count_of limit) (length (take (length xs - m) (drop m xs)))
      → map f (take k (take (length xs - m) (drop m xs))) ≡ limited (Some limit) (drop n (map f xs))
  cut_limited limit n m k xs e within =
      ap (map f) (take_within (count_of limit) k (take (length xs - m) (drop m xs)) within)
      ∙ sym (take-map f (count_of limit) (take (length xs - m) (drop m xs)))
      ∙ ap (take (count_of limit)) (cut_unlimited n m xs e)
