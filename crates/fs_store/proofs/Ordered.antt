-- Changes that were noted in the order of their times.
use Rattle.std.proofs.Common.{◌≡◌, ℕ, cond, ◌-◌, ◌<◌, ◌≤◌, ℤ, ◌≤ℤ◌, ◌<ℤ◌, Bool, true, false, eqb, ltb, List, [], ◌∷◌, length, take, drop, get_or, refl, ap, ◌∙◌, subst, arith}
use Rattle.std.specs.Prelude.{int_le, int_lt, ◌&&◌}
use Rattle.std.specs.Cmp.{first_so}
use Rattle.std.specs.List.{All}
use Rattle.std.proofs.lemmas.List.Elements.{All-cons, All-nil}
use Rattle.std.specs.List.Sorted.{IsPartitionedBy, IsPartitionPoint}
use Rattle.std.proofs.lemmas.Int.{ints}
use Rattle.std.proofs.lemmas.List.{length-drop, take_all}
use Rattle.std.proofs.lemmas.Bool.Decides.{nat_tests}
use Rattle.fs_store.specs.Logged.{AreInOrder, IsSplit, noted_after, noted_between}
use Rattle.fs_store.specs.declared.noted.Noted.{Noted}
use Rattle.fs_store.specs.Changes.{later}
use Rattle.fs_store.proofs.Filters.{filter_alike, filter_stretch}

-- what is at or before a time stands in front
same_or_before : (ns : List Noted) (t : ℤ) (i j : ℕ) (d : Noted) → (i < j → (get_or ns i d).time ≤ℤ (get_or ns j d).time) → i ≤ j
    → int_le (get_or ns j d).time t ≡ true → int_le (get_or ns i d).time t ≡ true
same_or_before ns t i j d order low passes = by_cases (eqb i j) refl
  where
    by_cases : (b : Bool) → eqb i j ≡ b → int_le (get_or ns i d).time t ≡ true
    by_cases true e = let same : i ≡ j = grind (arith, nat_tests) in ap (λ k. int_le (get_or ns k d).time t) same ∙ passes
    by_cases false e = let below : i < j = grind (arith, nat_tests) in let first = order below in grind (arith, ints)

pub partitioned : (ns : List Noted) (t : ℤ) → AreInOrder ns → IsPartitionedBy (λ n. int_le n.time t) ns
partitioned ns t order i j d low within passes = same_or_before ns t i j d (λ below. order i j d below within) low passes

pub split_of : (ns slice : List Noted) (t : ℤ) (n : ℕ) → slice ≡ ns → n ≤ length slice → IsPartitionPoint (λ v. int_le v.time t ≡ true) (λ v. int_le v.time t ≡ false) slice n → IsSplit ns t n
split_of ns slice t n same within parts = subst (λ vs. IsSplit vs t n) same (record { within = within; first = parts.0; others = parts.1 })

-- ---- what is behind a time, and up to another

by_now : (s u : ℤ) → int_le u s ≡ true → int_lt s u ≡ false
by_now s u h = grind (arith, ints)

not_yet : (s u : ℤ) → int_le u s ≡ false → int_lt s u ≡ true
not_yet s u h = grind (arith, ints)

and_false : (a b : Bool) → b ≡ false → (a && b) ≡ false
and_false true b is = is
and_false false b is = refl

-- what is between two times is behind the first
behind_next : (s t : ℤ) (n : Noted) (ns : List Noted) (b : Bool) → (int_lt s n.time && int_le n.time t) ≡ b → All (λ m. s <ℤ m.time) (noted_between s t ns) → All (λ m. s <ℤ m.time) (cond b (n ∷ noted_between s t ns) (noted_between s t ns))
behind_next s t n ns true is all =
    let late = first_so (int_lt s n.time) (int_le n.time t) is in
    let above : s <ℤ n.time = grind (arith, ints) in
    All-cons (λ (m : Noted). s <ℤ m.time) n (noted_between s t ns) above all
behind_next s t n ns false is all = all

pub all_behind : (s t : ℤ) (ns : List Noted) → All (λ m. s <ℤ m.time) (noted_between s t ns)
all_behind s t [] = All-nil (λ (m : Noted). s <ℤ m.time)
all_behind s t (n ∷ ns) = behind_next s t n ns (int_lt s n.time && int_le n.time t) refl (all_behind s t ns)

-- up to an earlier time there is nothing, as up to the same
up_to_later : (s t u : ℤ) (b : Bool) → int_le t s ≡ b → (int_lt s u && int_le u t) ≡ (int_lt s u && int_le u (cond b s t))
up_to_later s t u true is = grind (arith, ints)
up_to_later s t u false is = refl

pub between_later : (s t : ℤ) (ns : List Noted) → noted_between s t ns ≡ noted_between s (later t s) ns
between_later s t ns =
    filter_alike (λ (n : Noted). int_lt s n.time && int_le n.time t) (λ (n : Noted). int_lt s n.time && int_le n.time (later t s)) ns
    (λ n. up_to_later s t n.time (int_le t s) refl)

pub after_is : (ns : List Noted) (s : ℤ) (n : ℕ) → IsSplit ns s n → noted_after s ns ≡ drop n ns
after_is ns s n split =
    filter_stretch (λ (v : Noted). int_lt s v.time) n (length ns) ns split.within (omega arith)
    (λ k d below. by_now s (get_or ns k d).time (split.first k d (omega arith) below))
    (λ k d behind within. not_yet s (get_or ns k d).time (split.others k d behind within))
    (λ k d behind within. absurd (omega arith))
    ∙ whole (length ns - n) (drop n ns) (omega (arith, length-drop n ns))
  where
    whole : (k : ℕ) (xs : List Noted) → length xs ≤ k → take k xs ≡ xs
    whole k xs short = take_all k xs short

pub between_is : (ns : List Noted) (s t : ℤ) (m n e : ℕ) → IsSplit ns s m → IsSplit ns t n → (m < n → e ≡ n) → (n ≤ m → e ≡ m) → noted_between s t ns ≡ take (e - m) (drop m ns)
between_is ns s t m n e first second wide narrow =
    let order = bounds (ltb m n) refl in
    filter_stretch (λ (v : Noted). int_lt s v.time && int_le v.time t) m e ns order.0 order.2
    (λ k d below. ap (λ b. b && int_le (get_or ns k d).time t) (by_now s (get_or ns k d).time (first.first k d (omega arith) below)))
    (λ k d behind below.
    let there : k < n = within k behind below (ltb m n) refl in
    let late = not_yet s (get_or ns k d).time (first.others k d behind (omega (arith, second.within))) in
    ap (λ b. b && int_le (get_or ns k d).time t) late ∙ second.first k d (omega arith) there)
    (λ k d behind inside.
    let over : n ≤ k = omega (arith, order.1) in
    and_false (int_lt s (get_or ns k d).time) (int_le (get_or ns k d).time t) (second.others k d over inside))
  where
    bounds : (b : Bool) → ltb m n ≡ b → (m ≤ e) × (n ≤ e) × (e ≤ length ns)
    bounds true is = let far : m < n = grind (arith, nat_tests) in let e_is = wide far in (omega arith, omega arith, omega (arith, second.within))
    bounds false is = let near : n ≤ m = grind (arith, nat_tests) in let e_is = narrow near in (omega arith, omega arith, omega (arith, first.within))

    within : (k : ℕ) → m ≤ k → k < e → (b : Bool) → ltb m n ≡ b → k < n
    within k behind below true is = let far : m < n = grind (arith, nat_tests) in let e_is = wide far in omega arith
    within k behind below false is = let near : n ≤ m = grind (arith, nat_tests) in let e_is = narrow near in absurd (omega arith)
