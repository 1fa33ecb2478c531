-- Steps that may be exchanged, and of which a second one of the same name changes nothing, lead to the same from a list of names and from
-- the same names in another order.
use Rattle.std.proofs.Common.{◌≡◌, List, [], ◌∷◌, refl, sym, ap, ◌∙◌}
use Rattle.std.specs.List.{All}
use Rattle.std.specs.List.Sorted.{IsPermutation}
use Rattle.std.proofs.lemmas.List.Elements.{All-cons, All-head, All-nil, All-tail, All-weaker}
use Rattle.std.proofs.lemmas.List.Sorted.{All-permutation, IsPermutation-sym}

-- one step for each name, the first of them first
abbrev pub each : {S A : Type 0} → (S → A → S) → S → List A → S
each f s [] = s
each f s (a ∷ xs) = each f (f s a) xs

module _ {S A : Type 0} (f : S → A → S) (Good : S → Type 0) (kept : (s : S) (a : A) → Good s → Good (f s a)) (swaps : (s : S) (a b : A) → Good s → f (f s a) b ≡ f (f s b) a) (again : (s : S) (a : A) → Good s → f (f s a) a ≡ f s a) where
  one_behind : (xs : List A) (s : S) (b : A) → Good s → f (each f s xs) b ≡ each f (f s b) xs
  one_behind [] s b good = refl
  one_behind (a ∷ xs) s b good = one_behind xs (f s a) b (kept s a good) ∙ ap (λ t. each f t xs) (swaps s a b good)

  all_behind : (ys xs : List A) (s : S) → Good s → each f (each f s xs) ys ≡ each f (each f s ys) xs
  all_behind [] xs s good = refl
  all_behind (b ∷ ys) xs s good = ap (λ t. each f t ys) (one_behind xs s b good) ∙ all_behind ys xs (f s b) (kept s b good)

  -- a step that changes nothing of what these lead to
  abbrev IsAmong : List A → A → Type 0
  IsAmong xs b = (s : S) → Good s → each f (f s b) xs ≡ each f s xs

  all_among : (xs : List A) → All (IsAmong xs) xs
  all_among [] = All-nil (IsAmong [])
  all_among (a ∷ xs) =
      All-cons (IsAmong (a ∷ xs)) a xs (λ s good. ap (λ t. each f t xs) (again s a good))
      (All-weaker (IsAmong xs) (IsAmong (a ∷ xs)) (λ b among s good. ap (λ t. each f t xs) (swaps s b a good) ∙ among (f s a) (kept s a good)) xs (all_among xs))

  among_these : (ys xs : List A) (s : S) → All (IsAmong xs) ys → Good s → each f (each f s ys) xs ≡ each f s xs
  among_these [] xs s among good = refl
  among_these (b ∷ ys) xs s among good = among_these ys xs (f s b) (All-tail (IsAmong xs) b ys among) (kept s b good) ∙ All-head (IsAmong xs) b ys among s good

  pub same_reordered : (xs ys : List A) (s : S) → IsPermutation xs ys → Good s → each f s xs ≡ each f s ys
  same_reordered xs ys s moved good =
      sym (among_these ys xs s (All-permutation (IsAmong xs) xs ys moved (all_among xs)) good)
      ∙ all_behind xs ys s good
      ∙ among_these xs ys s (All-permutation (IsAmong ys) ys xs (IsPermutation-sym xs ys moved) (all_among ys)) good
