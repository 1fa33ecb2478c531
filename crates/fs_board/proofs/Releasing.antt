-- The time up to which no commit is pending, and the first that is.
use Rattle.std.proofs.Common.{◌≡◌, ℕ, ℤ, ◌<ℤ◌, ◌≤ℤ◌, Bool, true, false, cond, List, [], ◌∷◌, Option, Some, None, refl, sym, subst, arith}
use Rattle.std.specs.Prelude.{pos, ◌-ℤ◌, not}
use Rattle.std.specs.List.{All, AllByRecursion}
use Rattle.std.specs.Option.{option_map}
use Rattle.std.proofs.lemmas.Int.{ints}
use Rattle.std.proofs.lemmas.List.Elements.{All-from_recursion, All-head}
use Rattle.fs_time.proofs.Tests.{not_after}
use Rattle.fs_board.specs.Board.{Commit, is_pending, is_ready, free_to, next_pending_in}
use Rattle.fs_board.specs.Held.{first_pending_in}
use Rattle.fs_board.specs.Rising.{RiseTo}

-- one below the time of the first pending commit
abbrev pub before : ℤ → Option (ℤ × ℕ) → ℤ
before last None = last
before last (Some p) = p.0 -ℤ pos 1

module _ {A B : Type 0} where
  free_next : (c : Commit A B) (cs : List (Commit A B)) (last : ℤ) (b : Bool) → free_to last cs ≡ before last (first_pending_in cs)
      → cond b (c.time -ℤ pos 1) (free_to last cs) ≡ before last (cond b (Some (c.time, c.id)) (first_pending_in cs))
  free_next c cs last true more = refl
  free_next c cs last false more = more

  pub free_before : (cs : List (Commit A B)) (last : ℤ) → free_to last cs ≡ before last (first_pending_in cs)
  free_before [] last = refl
  free_before (c ∷ cs) last = free_next c cs last (is_pending c) (free_before cs last)

  next_next : (c : Commit A B) (cs : List (Commit A B)) (b : Bool) → next_pending_in cs ≡ option_map (λ p. p.1) (first_pending_in cs)
      → cond b (Some c.id) (next_pending_in cs) ≡ option_map (λ (p : ℤ × ℕ). p.1) (cond b (Some (c.time, c.id)) (first_pending_in cs))
  next_next c cs true more = refl
  next_next c cs false more = more

  pub next_is : (cs : List (Commit A B)) → next_pending_in cs ≡ option_map (λ p. p.1) (first_pending_in cs)
  next_is [] = refl
  next_is (c ∷ cs) = next_next c cs (is_pending c) (next_is cs)

  -- ---- the first pending commit is one of them

  among_next : (P : ℤ → Type 0) (c : Commit A B) (cs : List (Commit A B)) (p : ℤ × ℕ) (b : Bool) → P c.time → (first_pending_in cs ≡ Some p → P p.0) → cond b (Some (c.time, c.id)) (first_pending_in cs) ≡ Some p → P p.0
  among_next P c cs p true first more is = let same : c.time ≡ p.0 = cc in subst P same first
  among_next P c cs p false first more is = more is

  pub among : (P : ℤ → Type 0) (cs : List (Commit A B)) (p : ℤ × ℕ) → AllByRecursion (λ c. P c.time) cs → first_pending_in cs ≡ Some p → P p.0
  among P [] p all is = absurd (cc)
  among P (c ∷ cs) p all is = among_next P c cs p (is_pending c) all.0 (among P cs p all.1) is

  -- ---- where it lies

  within_next : (c : Commit A B) (cs : List (Commit A B)) (last : ℤ) (b : Bool) → c.time ≤ℤ last → free_to last cs ≤ℤ last → cond b (c.time -ℤ pos 1) (free_to last cs) ≤ℤ last
  within_next c cs last true first more = omega (arith, ints)
  within_next c cs last false first more = more

  pub free_within : (cs : List (Commit A B)) (last : ℤ) → RiseTo last cs → free_to last cs ≤ℤ last
  free_within [] last rise = omega (arith, ints)
  free_within (c ∷ cs) last rise = within_next c cs last (is_pending c) rise.0 (free_within cs last rise.2)

  all_above : (cs : List (Commit A B)) (t u : ℤ) → t <ℤ u → AllByRecursion (λ d. u <ℤ d.time) cs → AllByRecursion (λ d. is_pending d ≡ true → t <ℤ d.time) cs
  all_above [] t u before all = tt
  all_above (c ∷ cs) t u before all = let first = all.0 in (λ is. omega (arith, ints), all_above cs t u before all.1)

  above_next : (c : Commit A B) (cs : List (Commit A B)) (last : ℤ) (b : Bool) → is_pending c ≡ b → AllByRecursion (λ d. c.time <ℤ d.time) cs → AllByRecursion (λ d. is_pending d ≡ true → free_to last cs <ℤ d.time) cs
      → (to : ℤ) → to ≡ cond b (c.time -ℤ pos 1) (free_to last cs) → AllByRecursion (λ d. is_pending d ≡ true → to <ℤ d.time) (c ∷ cs)
  above_next c cs last true is rise more to e = let lower : to <ℤ c.time = omega (arith, ints) in (λ pending. lower, all_above cs to c.time lower rise)
  above_next c cs last false is rise more to e =
      (λ pending. absurd (cc), subst (λ t. AllByRecursion (λ d. is_pending d ≡ true → t <ℤ d.time) cs) (sym e) more)

  above_by : (cs : List (Commit A B)) (last : ℤ) → RiseTo last cs → AllByRecursion (λ c. is_pending c ≡ true → free_to last cs <ℤ c.time) cs
  above_by [] last rise = tt
  above_by (c ∷ cs) last rise = above_next c cs last (is_pending c) refl rise.1 (above_by cs last rise.2) (free_to last (c ∷ cs)) refl

  pub free_above : (cs : List (Commit A B)) (last : ℤ) → RiseTo last cs → All (λ c. is_pending c ≡ true → free_to last cs <ℤ c.time) cs
  free_above cs last rise = All-from_recursion (λ c. is_pending c ≡ true → free_to last cs <ℤ c.time) cs (above_by cs last rise)

  -- ---- what is ready

  behind_next : (c : Commit A B) (cs : List (Commit A B)) (last t : ℤ) (b : Bool) → t <ℤ c.time → t ≤ℤ free_to last cs → t ≤ℤ cond b (c.time -ℤ pos 1) (free_to last cs)
  behind_next c cs last t true first more = omega (arith, ints)
  behind_next c cs last t false first more = more

  free_behind : (cs : List (Commit A B)) (last t : ℤ) → t ≤ℤ last → AllByRecursion (λ d. t <ℤ d.time) cs → t ≤ℤ free_to last cs
  free_behind [] last t within all = within
  free_behind (c ∷ cs) last t within all = behind_next c cs last t (is_pending c) all.0 (free_behind cs last t within all.1)

  accepted_free : (c : Commit A B) (cs : List (Commit A B)) (last : ℤ) (b : Bool) → b ≡ false → c.time ≤ℤ free_to last cs → c.time ≤ℤ cond b (c.time -ℤ pos 1) (free_to last cs)
  accepted_free c cs last true is more = absurd (cc)
  accepted_free c cs last false is more = more

  -- the first commit, if it is accepted
  pub ready_within : (c : Commit A B) (cs : List (Commit A B)) (last : ℤ) → RiseTo last (c ∷ cs) → is_pending c ≡ false → c.time ≤ℤ free_to last (c ∷ cs)
  ready_within c cs last rise is = accepted_free c cs last (is_pending c) is (free_behind cs last c.time rise.0 rise.1)

  none_next : (c : Commit A B) (cs : List (Commit A B)) (to : ℤ) → is_pending c ≡ false → c.time ≤ℤ to → (is_ready to c ≡ false) → true ≡ false
  none_next c cs to is within not = let here = not_after c.time to within in grind (arith)

  pub one_ready : (c : Commit A B) (cs : List (Commit A B)) (last : ℤ) → RiseTo last (c ∷ cs) → is_pending c ≡ false → All (λ d. is_ready (free_to last (c ∷ cs)) d ≡ false) (c ∷ cs) → true ≡ false
  one_ready c cs last rise is none =
      none_next c cs (free_to last (c ∷ cs)) is (ready_within c cs last rise is) (All-head (λ d. is_ready (free_to last (c ∷ cs)) d ≡ false) c cs none)
