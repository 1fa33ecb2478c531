-- The least number of the batches later than a time that touch what was read, of one batch after another.
use Rattle.std.proofs.Common.{◌≡◌, ℕ, ◌+◌, ℤ, ◌≤ℤ◌, Bool, true, false, cond, List, [], ◌∷◌, ◌++◌, Option, Some, None, drop, map, suc, zero, refl, sym, ap, ◌∙◌, subst, arith}
use Rattle.std.specs.Prelude.{nat_le, int_lt, ◌&&◌, slice_get}
use Rattle.std.specs.List.{filter}
use Rattle.std.proofs.lemmas.Bool.Decides.{nat_tests}
use Rattle.std.proofs.lemmas.Int.{ints}
use Rattle.std.proofs.lemmas.List.{drop_more, map-append}
use Rattle.std.proofs.lemmas.List.Elements.{filter-append}
use Rattle.std.proofs.lemmas.Option.{get_or_from_slice_get, slice_get_within}
use Rattle.fs_history.specs.History.{EndsBefore, EndsBy, IsRising}
use Rattle.fs_history.specs.Touches.{some_touched}
use Rattle.fs_history.specs.declared.batch.Batch.{Batch}
use Rattle.fs_history.specs.declared.read.Read.{Read}
use Rattle.fs_locks.specs.Holds.{lesser_of}
use Rattle.fs_machine.specs.Behind.{least, lesser}
use Rattle.fs_machine.specs.Conflict.{touching}
use Rattle.fs_machine.specs.Past.{batches}
use Rattle.fs_machine.specs.UnreleasedRise.{RiseFrom}
use Rattle.fs_machine.specs.declared.unreleased.Unreleased.{Unreleased}
use Rattle.fs_past.specs.Touching.{number_since, numbers_since, touches_since}

-- ---- the lesser of two numbers

pub lesser_none : (a : Option ℕ) → lesser_of a None ≡ a
lesser_none None = refl
lesser_none (Some x) = refl

some_by : (n m : ℕ) (b : Bool) → cond b (Some n) (Some m) ≡ Some (cond b n m)
some_by n m true = refl
some_by n m false = refl

lesser_some : (n : ℕ) (o : Option ℕ) → lesser_of (Some n) o ≡ Some (lesser n o)
lesser_some n None = refl
lesser_some n (Some m) = some_by n m (nat_le n m)

same_lesser : (x y z : ℕ) → cond (nat_le (cond (nat_le x y) x y) z) (cond (nat_le x y) x y) z ≡ cond (nat_le x (cond (nat_le y z) y z)) x (cond (nat_le y z) y z)
same_lesser x y z = grind (arith, nat_tests)

pub lesser_assoc : (a b c : Option ℕ) → lesser_of (lesser_of a b) c ≡ lesser_of a (lesser_of b c)
lesser_assoc None b c = refl
lesser_assoc (Some x) None c = refl
lesser_assoc (Some x) (Some y) None = lesser_none (lesser_of (Some x) (Some y))
lesser_assoc (Some x) (Some y) (Some z) =
    ap (λ o. lesser_of o (Some z)) (some_by x y (nat_le x y))
    ∙ some_by (cond (nat_le x y) x y) z (nat_le (cond (nat_le x y) x y) z)
    ∙ ap Some (same_lesser x y z)
    ∙ sym (some_by x (cond (nat_le y z) y z) (nat_le x (cond (nat_le y z) y z)))
    ∙ sym (ap (lesser_of (Some x)) (some_by y z (nat_le y z)))

pub least_both : (ns ms : List ℕ) → least (ns ++ ms) ≡ lesser_of (least ns) (least ms)
least_both [] ms = refl
least_both (n ∷ ns) ms =
    sym (lesser_some n (least (ns ++ ms)))
    ∙ ap (lesser_of (Some n)) (least_both ns ms)
    ∙ sym (lesser_assoc (Some n) (least ns) (least ms))
    ∙ ap (λ o. lesser_of o (least ms)) (lesser_some n (least ns))

-- ---- one batch more

module _ (time : ℤ) (rs : List Read) where
  abbrev first_of : List Batch → Option ℕ
  first_of bs = least (numbers_since time rs bs)

  next_by : (b : Batch) (bs : List Batch) (c : Bool) → least (map (λ (x : Batch). x.id) (cond c (b ∷ filter (touches_since time rs) bs) (filter (touches_since time rs) bs))) ≡ lesser_of (cond c (Some b.id) None) (first_of bs)
  next_by b bs true = sym (lesser_some b.id (first_of bs))
  next_by b bs false = refl

  first_next : (b : Batch) (bs : List Batch) → first_of (b ∷ bs) ≡ lesser_of (number_since time rs b) (first_of bs)
  first_next b bs = next_by b bs (touches_since time rs b)

  pub first_with : (first : Option ℕ) (b : Batch) (bs : List Batch) → lesser_of (lesser_of first (number_since time rs b)) (first_of bs) ≡ lesser_of first (first_of (b ∷ bs))
  first_with first b bs = lesser_assoc first (number_since time rs b) (first_of bs) ∙ ap (lesser_of first) (sym (first_next b bs))

  pub first_of_both : (bs cs : List Batch) → first_of (bs ++ cs) ≡ lesser_of (first_of bs) (first_of cs)
  first_of_both bs cs =
      ap (λ xs. least (map (λ (b : Batch). b.id) xs)) (filter-append (touches_since time rs) bs cs)
      ∙ ap least (map-append (λ (b : Batch). b.id) (filter (touches_since time rs) bs) (filter (touches_since time rs) cs))
      ∙ least_both (numbers_since time rs bs) (numbers_since time rs cs)

  -- ---- none of those that aren't later does

  early : (b : Batch) → b.time ≤ℤ time → touches_since time rs b ≡ false
  early b within = let not : int_lt time b.time ≡ false = grind (arith, ints) in ap (λ c. c && some_touched b.writes rs) not

  ends_early : (h : List Batch) (t : ℤ) → t ≤ℤ time → EndsBefore h t → EndsBy h time
  ends_early [] t within ends = tt
  ends_early (b ∷ h) t within ends = omega (arith, ints)

  none_at : (b : Batch) (bs : List Batch) (c : Bool) → c ≡ false → first_of bs ≡ None → lesser_of (cond c (Some b.id) None) (first_of bs) ≡ None
  none_at b bs true is none = absurd (cc)
  none_at b bs false is none = none

  pub none_later : (h : List Batch) → IsRising h → EndsBy h time → first_of h ≡ None
  none_later [] rising ends = refl
  none_later (b ∷ h) rising ends = first_next b h ∙ none_at b h (touches_since time rs b) (early b ends) (none_later h rising.1 (ends_early h b.time ends rising.0))

-- ---- those that aren't released are all later than what is

rising_behind : (h : List Batch) (k : ℕ) → IsRising h → IsRising (drop k h)
rising_behind h zero rising = rising
rising_behind [] (suc k) rising = tt
rising_behind (b ∷ h) (suc k) rising = rising_behind h k rising.1

same_number : (time : ℤ) (rs : List Read) (u : Unreleased) (us : List Unreleased) (b c : Bool) → b ≡ c → map (λ (x : Batch). x.id) (filter (touches_since time rs) (batches us)) ≡ touching us rs
    → map (λ (x : Batch). x.id) (cond b (u.batch ∷ filter (touches_since time rs) (batches us)) (filter (touches_since time rs) (batches us)))
    ≡ map (λ (x : Unreleased). x.batch.id) (cond c (u ∷ filter (λ (x : Unreleased). some_touched x.batch.writes rs) us) (filter (λ (x : Unreleased). some_touched x.batch.writes rs) us))
same_number time rs u us true true is more = ap (λ ns. u.batch.id ∷ ns) more
same_number time rs u us false false is more = more
same_number time rs u us true false is more = absurd (cc)
same_number time rs u us false true is more = absurd (cc)

pub touching_all : (time from last : ℤ) (rs : List Read) (us : List Unreleased) → time ≤ℤ from → RiseFrom from last us → numbers_since time rs (batches us) ≡ touching us rs
touching_all time from last rs [] within rise = refl
touching_all time from last rs (u ∷ us) within rise =
    let first = rise.0 in
    let later : int_lt time u.batch.time ≡ true = grind (arith, ints) in
    same_number time rs u us (touches_since time rs u.batch) (some_touched u.batch.writes rs) (ap (λ c. c && some_touched u.batch.writes rs) later)
    (touching_all time u.batch.time last rs us (omega (arith, ints)) rise.1)

-- ---- in the journal

pub here_first : {A : Type 0} (xs : List A) (k : ℕ) (x : A) → slice_get xs k ≡ Some x → drop k xs ≡ x ∷ drop (k + 1) xs
here_first xs k x is = drop_more xs k x (slice_get_within xs k x is) ∙ ap (λ y. y ∷ drop (k + 1) xs) (get_or_from_slice_get xs k x x is)

-- one more is passed
pub passed_one : (time : ℤ) (rs : List Read) (h : List Batch) (k : ℕ) (b : Batch) (first one : Option ℕ) → slice_get h k ≡ Some b → one ≡ number_since time rs b
    → lesser_of first (least (numbers_since time rs (drop k h))) ≡ least (numbers_since time rs h)
    → lesser_of (lesser_of first one) (least (numbers_since time rs (drop (k + 1) h))) ≡ least (numbers_since time rs h)
passed_one time rs h k b first one is told was =
    ap (λ o. lesser_of (lesser_of first o) (least (numbers_since time rs (drop (k + 1) h)))) told
    ∙ first_with time rs first b (drop (k + 1) h)
    ∙ ap (λ bs. lesser_of first (least (numbers_since time rs bs))) (sym (here_first h k b is))
    ∙ was

-- and none is left from here on
pub passed_all : (time : ℤ) (rs : List Read) (h : List Batch) (k : ℕ) (b : Batch) (first : Option ℕ) → slice_get h k ≡ Some b → b.time ≤ℤ time → IsRising h
    → lesser_of first (least (numbers_since time rs (drop k h))) ≡ least (numbers_since time rs h) → first ≡ least (numbers_since time rs h)
passed_all time rs h k b first is within rising was =
    let ends = subst (λ bs. EndsBy bs time) (sym (here_first h k b is)) within in
    sym (lesser_none first) ∙ ap (lesser_of first) (sym (none_later time rs (drop k h) (rising_behind h k rising) ends)) ∙ was
