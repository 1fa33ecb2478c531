-- Chains whose times rise.
use Rattle.std.proofs.Common.{◌≡◌, ℕ, ◌<◌, ◌≤◌, ℤ, ◌<ℤ◌, Bool, true, false, eqb, List, length, get_or, refl, ap, ◌∙◌, subst, arith}
use Rattle.std.specs.Prelude.{int_le}
use Rattle.std.specs.List.Sorted.{IsPartitionedBy, IsPartitionPoint}
use Rattle.std.proofs.lemmas.Int.{ints}
use Rattle.std.proofs.lemmas.Bool.Decides.{nat_tests}
use Rattle.fs_history.specs.declared.version.Version.{Version}
use Rattle.fs_versions.specs.Rising.{TimesRise}
use Rattle.fs_versions.specs.Sound.{IsSplit}

-- what is at or before a time stands in front
same_or_before : (chain : List Version) (t : ℤ) (i j : ℕ) (d : Version) → (i < j → (get_or chain i d).time <ℤ (get_or chain j d).time) → i ≤ j
    → int_le (get_or chain j d).time t ≡ true → int_le (get_or chain i d).time t ≡ true
same_or_before chain t i j d rise low passes = by_cases (eqb i j) refl
  where
    by_cases : (b : Bool) → eqb i j ≡ b → int_le (get_or chain i d).time t ≡ true
    by_cases true e = let same : i ≡ j = grind (arith, nat_tests) in ap (λ k. int_le (get_or chain k d).time t) same ∙ passes
    by_cases false e = let below : i < j = grind (arith, nat_tests) in let first = rise below in grind (arith, ints)

pub partitioned : (chain : List Version) (t : ℤ) → TimesRise chain → IsPartitionedBy (λ v. int_le v.time t) chain
partitioned chain t rise i j d low within passes = same_or_before chain t i j d (λ below. rise i j d below within) low passes

-- ---- parts of a chain

-- ---- how many are at or before a time

pub split_of : (chain slice : List Version) (t : ℤ) (n : ℕ) → slice ≡ chain → n ≤ length slice → IsPartitionPoint (λ v. int_le v.time t ≡ true) (λ v. int_le v.time t ≡ false) slice n → IsSplit chain t n
split_of chain slice t n same within parts = subst (λ vs. IsSplit vs t n) same (record { within = within; first = parts.0; others = parts.1 })
