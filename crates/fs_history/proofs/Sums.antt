-- Sums that stop at the greatest number, and histories to which a batch is added.
use Rattle.std.proofs.Common.{◌≡◌, ℕ, ◌+◌, ◌-◌, ◌^◌, min, List, [], ◌∷◌, ◌++◌, reverse, sym, ap, ◌∙◌, subst, arith}
use Rattle.std.proofs.lemmas.List.{reverse-append}
use Rattle.std.proofs.lemmas.List.Sums.{sum_by-cons}
use Rattle.fs_history.specs.Bytes.{batch_size, history_size}
use Rattle.fs_history.specs.History.{EndsBefore}
use Rattle.fs_history.specs.Kept.{IsKept}
use Rattle.fs_history.specs.declared.batch.Batch.{Batch}

pub pushed : (batches : List Batch) (b : Batch) → reverse (batches ++ b ∷ []) ≡ b ∷ reverse batches
pushed batches b = reverse-append batches (b ∷ [])

pub kept_more : (batches : List Batch) (b : Batch) (bytes more : ℕ) → IsKept (reverse batches) bytes → EndsBefore (reverse batches) b.time
    → more ≡ min (bytes + min (batch_size b) (2 ^ 128 - 1)) (2 ^ 128 - 1) → IsKept (reverse (batches ++ b ∷ [])) more
kept_more batches b bytes more kept ends is =
    subst (λ h. IsKept h more) (sym (pushed batches b)) (record {
      rising = (ends, kept.rising);
      counted = is ∙ ap (λ n. min (n + min (batch_size b) (2 ^ 128 - 1)) (2 ^ 128 - 1)) kept.counted ∙ turned (history_size (reverse batches)) (batch_size b) (2 ^ 128 - 1)
          ∙ ap (λ n. min n (2 ^ 128 - 1)) (sym (sum_by-cons batch_size b (reverse batches)));
    })
  where
    turned : (a c m : ℕ) → min (min a m + min c m) m ≡ min (c + a) m
    turned a c m = omega arith
