-- Positions in a shard that move to a time, and the events that are told by that.
use Rattle.std.proofs.Common.{◌≡◌, ◌≢◌, ℕ, zero, suc, ℤ, ◌≤ℤ◌, ◌<ℤ◌, Bool, true, false, cond, ◌&&◌, ◌||◌, List, [], ◌∷◌, Option, Some, None, refl, sym, ap, ◌∙◌, arith}
use Rattle.std.specs.Prelude.{◌==◌, IfSome, int_le, int_lt, is_some, slice_index_or, slice_set}
use Rattle.std.proofs.lemmas.Bool.Decides.{nat_tests}
use Rattle.std.proofs.lemmas.Int.{ints}
use Rattle.std.proofs.lemmas.List.{get_or-set_other, set-get_or}
use Rattle.fs_listen.specs.Listening.{later_of}
use Rattle.fs_target.specs.Keeps.{AreWithin, is_told}
use Rattle.fs_target.proofs.Times.{both_false}

-- ---- the positions

module _ (to : ℤ) where
  abbrev pub moved_in : ℕ → List (Option ℤ) → List (Option ℤ)
  moved_in shard ps = slice_set ps shard (later_of to (slice_index_or ps shard None))

  -- where there is none in the shard, none moves
  pub none_moves : (shard : ℕ) (ps : List (Option ℤ)) → slice_index_or ps shard None ≡ None → moved_in shard ps ≡ ps
  none_moves shard ps none = ap (slice_set ps shard) (ap (later_of to) none ∙ sym none) ∙ set-get_or ps shard None

  moved_there : (shard : ℕ) (ps : List (Option ℤ)) → slice_index_or (moved_in shard ps) shard None ≡ later_of to (slice_index_or ps shard None)
  moved_there shard [] = refl
  moved_there zero (o ∷ ps) = refl
  moved_there (suc shard) (o ∷ ps) = moved_there shard ps

  later_some : (o : Option ℤ) → is_some (later_of to o) ≡ is_some o
  later_some None = refl
  later_some (Some p) = refl

  -- each shard has a position as before
  pub moved_some : (shard : ℕ) (ps : List (Option ℤ)) (k : ℕ) → is_some (slice_index_or (moved_in shard ps) k None) ≡ is_some (slice_index_or ps k None)
  moved_some shard [] k = refl
  moved_some zero (o ∷ ps) zero = later_some o
  moved_some zero (o ∷ ps) (suc k) = refl
  moved_some (suc shard) (o ∷ ps) zero = refl
  moved_some (suc shard) (o ∷ ps) (suc k) = moved_some shard ps k

  module _ (base known : ℤ) (by : to ≤ℤ known) where
    later_within : (o : Option ℤ) → IfSome o (λ p. (base ≤ℤ p) × (p ≤ℤ known)) → IfSome (later_of to o) (λ p. (base ≤ℤ p) × (p ≤ℤ known))
    later_within None was = tt
    later_within (Some p) was = by_test (int_lt p to) refl where
      by_test : (less : Bool) → int_lt p to ≡ less → (base ≤ℤ cond less to p) × (cond less to p ≤ℤ known)
      by_test true is = let low : base ≤ℤ p = was.0 in let less : p <ℤ to = grind (arith, ints) in (omega (arith, ints), by)
      by_test false is = was

    pub moved_within : (shard : ℕ) (ps : List (Option ℤ)) → AreWithin base known ps → AreWithin base known (moved_in shard ps)
    moved_within shard [] all = tt
    moved_within zero (o ∷ ps) all = (later_within o all.0, all.1)
    moved_within (suc shard) (o ∷ ps) all = (all.0, moved_within shard ps all.1)

-- ---- an event of a shard, behind its position and up to the time that it moves to

module _ (shard : ℕ) (from position to : ℤ) where
  abbrev pub is_new : ℕ → ℤ → Bool
  is_new k t = ((int_lt from t && int_le t to) && (k == shard)) && int_lt position t

  number_is : (a b : ℕ) → (a == b) ≡ true → a ≡ b
  number_is a b is = grind (arith, nat_tests)

  number_isnt : (a b : ℕ) → (a == b) ≡ false → a ≢ b
  number_isnt a b isnt = grind (arith, nat_tests)

  of_another : (a b : Bool) → ((a && false) && b) ≡ false
  of_another a b = ap (λ c. c && b) (both_false a)

  module _ (base : ℤ) (low : from ≤ℤ position) (order : base ≤ℤ position) (ps : List (Option ℤ)) (at : slice_index_or ps shard None ≡ Some position) where
    -- it wasn't told yet
    pub not_both : (k : ℕ) (t : ℤ) → ((int_lt base t && is_told (slice_index_or ps k None) t) && is_new k t) ≡ false
    not_both k t = by_shard (k == shard) refl where
      either_way : (p u : ℤ) (a b : Bool) → ((a && int_le u p) && ((b && true) && int_lt p u)) ≡ false
      either_way p u a b = by_test (int_lt p u) refl where
        by_test : (behind : Bool) → int_lt p u ≡ behind → ((a && int_le u p) && ((b && true) && behind)) ≡ false
        by_test true is =
            let late : int_le u p ≡ false = grind (arith, ints) in
            ap (λ c. c && ((b && true) && true)) (ap (λ c. a && c) late ∙ both_false a)
        by_test false is = ap (λ c. (a && int_le u p) && c) (both_false (b && true)) ∙ both_false (a && int_le u p)

      by_shard : (same : Bool) → (k == shard) ≡ same → ((int_lt base t && is_told (slice_index_or ps k None) t) && (((int_lt from t && int_le t to) && same) && int_lt position t)) ≡ false
      by_shard true is =
          ap (λ o. (int_lt base t && is_told o t) && (((int_lt from t && int_le t to) && true) && int_lt position t)) (ap (λ j. slice_index_or ps j None) (number_is k shard is) ∙ at)
          ∙ either_way position t (int_lt base t) (int_lt from t && int_le t to)
      by_shard false is =
          ap (λ c. (int_lt base t && is_told (slice_index_or ps k None) t) && c) (of_another (int_lt from t && int_le t to) (int_lt position t))
          ∙ both_false (int_lt base t && is_told (slice_index_or ps k None) t)

    -- what is told once the position moved is what was told before, and the events that are new
    pub told_then : (k : ℕ) (t : ℤ) → ((int_lt base t && is_told (slice_index_or ps k None) t) || is_new k t) ≡ (int_lt base t && is_told (slice_index_or (moved_in to shard ps) k None) t)
    told_then k t = by_shard (k == shard) refl where
      moved_on : (u : ℤ) → ((int_lt base u && int_le u position) || (((int_lt from u && int_le u to) && true) && int_lt position u)) ≡ (int_lt base u && is_told (later_of to (Some position)) u)
      moved_on u = by_test (int_lt position to) (int_lt position u) refl refl where
        by_test : (more behind : Bool) → int_lt position to ≡ more → int_lt position u ≡ behind
            → ((int_lt base u && int_le u position) || (((int_lt from u && int_le u to) && true) && behind)) ≡ (int_lt base u && int_le u (cond more to position))
        by_test true true less above = grind (arith, ints)
        by_test true false less above = grind (arith, ints)
        by_test false true less above = grind (arith, ints)
        by_test false false less above = grind (arith, ints)

      by_shard : (same : Bool) → (k == shard) ≡ same
          → ((int_lt base t && is_told (slice_index_or ps k None) t) || (((int_lt from t && int_le t to) && same) && int_lt position t)) ≡ (int_lt base t && is_told (slice_index_or (moved_in to shard ps) k None) t)
      by_shard true is =
          let here : k ≡ shard = number_is k shard is in
          ap (λ o. (int_lt base t && is_told o t) || (((int_lt from t && int_le t to) && true) && int_lt position t)) (ap (λ j. slice_index_or ps j None) here ∙ at)
          ∙ moved_on t
          ∙ ap (λ o. int_lt base t && is_told o t) (ap (later_of to) (sym at) ∙ sym (moved_there to shard ps) ∙ ap (λ j. slice_index_or (moved_in to shard ps) j None) (sym here))
      by_shard false is =
          ap (λ c. (int_lt base t && is_told (slice_index_or ps k None) t) || c) (of_another (int_lt from t && int_le t to) (int_lt position t))
          ∙ or_false (int_lt base t && is_told (slice_index_or ps k None) t)
          ∙ ap (λ o. int_lt base t && is_told o t) (sym (get_or-set_other ps shard k (later_of to (slice_index_or ps shard None)) None (number_isnt k shard is)))
        where
          or_false : (b : Bool) → (b || false) ≡ b
          or_false true = refl
          or_false false = refl
