-- A key's place among entries in order, by what a binary search found. The entries are f of the elements of ys.
use Rattle.std.proofs.Common.{◌≡◌, ℕ, zero, suc, ◌<◌, ◌≤◌, List, [], ◌∷◌, map, length, get_or, set, Ordering, Less, Equal, Greater, refl, ap, ◌∙◌, arith}
use Rattle.std.specs.Prelude.{insert, IsTrue}
use Rattle.std.specs.Cmp.{IsTotalOrder}
use Rattle.std.specs.FinMap.{put, is_sorted, IsAntisymmetric}
use Rattle.std.specs.FinMap.Entries.{by_order, is_sorted-put}
use Rattle.std.proofs.lemmas.Cmp.{tied_back}
use Rattle.fs_path.proofs.Bools.{from_true, to_true}
use Rattle.fs_value.proofs.Search.{tail_sorted, above_earlier, turned}

module _ {K X Y : Type 0} (R : K → K → Ordering) (f : Y → K × X) (o : IsTotalOrder R) where
  pub key-tied : IsAntisymmetric R → (key : K) (ys : List Y) (i : ℕ) (e : K × X) → i < length ys → ((d : Y) → R (f (get_or ys i d)).0 key ≡ Equal) → (get_or (map f ys) i e).0 ≡ key
  key-tied same key [] i e within ties = absurd (omega arith)
  key-tied same key (y ∷ ys) zero e within ties = same _ _ (ties y)
  key-tied same key (y ∷ ys) (suc i) e within ties = key-tied same key ys i e (omega arith) ties

  pub put-tied : IsAntisymmetric R → (key : K) (v : X) (ys : List Y) (i : ℕ) → IsTrue (is_sorted R (map f ys)) → i < length ys → ((d : Y) → R (f (get_or ys i d)).0 key ≡ Equal) → put R key v (map f ys) ≡ set (map f ys) i (key, v)
  put-tied same key v [] i h within ties = absurd (omega arith)
  put-tied same key v (y ∷ ys) zero h within ties =
      ap (λ r. by_order r ((key, v) ∷ f y ∷ map f ys) (((f y).0, v) ∷ map f ys) (f y ∷ put R key v (map f ys))) (tied_back o _ _ (ties y))
      ∙ ap (λ k. (k, v) ∷ map f ys) (same _ _ (ties y))
  put-tied same key v (y ∷ ys) (suc i) h within ties =
      ap (λ r. by_order r ((key, v) ∷ f y ∷ map f ys) (((f y).0, v) ∷ map f ys) (f y ∷ put R key v (map f ys))) (above_earlier R f o key y ys i h (omega arith) (ties y))
      ∙ ap (λ es. f y ∷ es) (put-tied same key v ys i (tail_sorted R f y ys h) (omega arith) ties)

  pub put-apart : (key : K) (v : X) (ys : List Y) (i : ℕ) → i ≤ length ys → ((k : ℕ) (d : Y) → 0 ≤ k → k < i → R (f (get_or ys k d)).0 key ≡ Less) → ((k : ℕ) (d : Y) → i ≤ k → k < length ys → R (f (get_or ys k d)).0 key ≡ Greater) → put R key v (map f ys) ≡ insert (map f ys) i (key, v)
  put-apart key v [] zero within before after = refl
  put-apart key v [] (suc i) within before after = absurd (omega arith)
  put-apart key v (y ∷ ys) zero within before after =
      ap (λ r. by_order r ((key, v) ∷ f y ∷ map f ys) (((f y).0, v) ∷ map f ys) (f y ∷ put R key v (map f ys))) (turned R f o key (f y).0 Greater (after 0 y (omega arith) (omega arith)))
  put-apart key v (y ∷ ys) (suc i) within before after =
      ap (λ r. by_order r ((key, v) ∷ f y ∷ map f ys) (((f y).0, v) ∷ map f ys) (f y ∷ put R key v (map f ys))) (turned R f o key (f y).0 Less (before 0 y (omega arith) (omega arith)))
      ∙ ap (λ es. f y ∷ es) (put-apart key v ys i (omega arith) (λ k d low high. before (suc k) d (omega arith) (omega arith)) (λ k d low high. after (suc k) d (omega arith) (omega arith)))

pub put_sorted : {K X : Type 0} (R : K → K → Ordering) → IsTotalOrder R → (k : K) (v : X) (es : List (K × X)) → IsTrue (is_sorted R es) → IsTrue (is_sorted R (put R k v es))
put_sorted R o k v es h = to_true _ (is_sorted-put R o k v es (from_true _ h))

pub map-insert : {X Y : Type 0} (f : X → Y) (xs : List X) (i : ℕ) (x : X) → map f (insert xs i x) ≡ insert (map f xs) i (f x)
map-insert f xs zero x = refl
map-insert f [] (suc i) x = refl
map-insert f (y ∷ xs) (suc i) x = ap (λ ys. f y ∷ ys) (map-insert f xs i x)
