-- Lists in strict order: there is only one with given elements, one with the elements of any list, and what is kept of one
-- rises too.
use Rattle.std.proofs.Common.{◌≡◌, ℕ, zero, suc, ◌+◌, ◌<◌, Bool, true, false, cond, List, [], ◌∷◌, ◌++◌, length, get_or, take, drop, Less, Equal, Greater, ◌⊎◌, inl, inr, refl, sym, ap, ◌∙◌, subst, arith}
use Rattle.std.specs.List.{Contains, AllByRecursion, IsDistinct, filter}
use Rattle.std.specs.List.Sorted.{IsStrictlySortedBy, IsSorted}
use Rattle.std.specs.Ordering.{is_lt, is_eq, ordering_reverse, eq_by_cmp, match_ordering}
use Rattle.std.specs.declared.cmp.Ordering.{Ordering}
use Rattle.std.specs.Cmp.{IsTotalOrder}
use Rattle.std.proofs.lemmas.Cmp.{tied_itself}
use Rattle.std.proofs.lemmas.List.{take-append-drop}
use Rattle.std.proofs.lemmas.List.Elements.{All-contains, All-from_recursion, Contains-append_left, Contains-append_right}
use Rattle.std.proofs.lemmas.List.Sorted.{sorted_far, ranks_by}
use Rattle.fs_path.proofs.Elements.{has_first, has_later}
use Rattle.fs_query.specs.AnswerTo.{put_in, in_rise}

-- ---- the elements of a list

module _ {X : Type 0} where
  has_cases_at : (x : X) (xs : List X) (y : X) (k : ℕ) → k < length (x ∷ xs) → get_or (x ∷ xs) k y ≡ y → (x ≡ y) ⊎ Contains xs y
  has_cases_at x xs y zero l e = inl e
  has_cases_at x xs y (suc k) l e = inr (k, omega arith, e)

  pub has_cases : (x : X) (xs : List X) (y : X) → Contains (x ∷ xs) y → (x ≡ y) ⊎ Contains xs y
  has_cases x xs y h = has_cases_at x xs y h.0 h.1 h.2

  pub has_none : (y : X) → ¬ Contains [] y
  has_none y h = omega (arith, h.1)

  pub has_taken : (n : ℕ) (xs : List X) (y : X) → Contains (take n xs) y → Contains xs y
  has_taken n xs y h = subst (λ zs. Contains zs y) (take-append-drop n xs) (Contains-append_left (take n xs) (drop n xs) y h)

  pub has_left : (n : ℕ) (xs : List X) (y : X) → Contains (drop n xs) y → Contains xs y
  has_left n xs y h = subst (λ zs. Contains zs y) (take-append-drop n xs) (Contains-append_right (take n xs) (drop n xs) y h)

  pub all_of : (P : X → Type 0) (xs : List X) → ((y : X) → Contains xs y → P y) → AllByRecursion P xs
  all_of P [] h = tt
  all_of P (y ∷ ys) h = (h y (has_first y ys), all_of P ys (λ z k. h z (has_later y ys z k)))

  -- ---- what passes a test

  kept_cases : (p : X → Bool) (x : X) (ys : List X) (y : X) (b : Bool) → p x ≡ b → Contains (cond b (x ∷ ys) ys) y → ((x ≡ y) × (p x ≡ true)) ⊎ Contains ys y
  kept_cases p x ys y true e h = elim (has_cases x ys y h) [ inl s ↦ inl (s, e) | inr s ↦ inr s ]
  kept_cases p x ys y false e h = inr h

  pub has_kept : (p : X → Bool) (xs : List X) (y : X) → Contains (filter p xs) y → Contains xs y × (p y ≡ true)
  has_kept p [] y h = absurd (has_none y h)
  has_kept p (x ∷ xs) y h =
      elim (kept_cases p x (filter p xs) y (p x) refl h) [
        | inl s ↦ (subst (λ z. Contains (z ∷ xs) y) (sym s.0) (has_first y xs), ap p (sym s.0) ∙ s.1)
        | inr s ↦ (has_later x xs y (has_kept p xs y s).0, (has_kept p xs y s).1)
      ]

  kept_here : (x : X) (ys : List X) (b : Bool) → b ≡ true → Contains (cond b (x ∷ ys) ys) x
  kept_here x ys true e = has_first x ys
  kept_here x ys false e = absurd (cc)

  kept_later : (x : X) (ys : List X) (y : X) (b : Bool) → Contains ys y → Contains (cond b (x ∷ ys) ys) y
  kept_later x ys y true h = has_later x ys y h
  kept_later x ys y false h = h

  pub keeps : (p : X → Bool) (xs : List X) (y : X) → Contains xs y → p y ≡ true → Contains (filter p xs) y
  keeps p [] y h e = absurd (has_none y h)
  keeps p (x ∷ xs) y h e =
      elim (has_cases x xs y h) [
        | inl s ↦ subst (λ z. Contains (cond (p x) (x ∷ filter p xs) (filter p xs)) z) s (kept_here x (filter p xs) (p x) (ap p s ∙ e))
        | inr s ↦ kept_later x (filter p xs) y (p x) (keeps p xs y s e)
      ]

-- ---- lists that a test sorts

-- ---- lists that rise

module _ {X : Type 0} (c : X → X → Ordering) where
  pub rise_none : IsStrictlySortedBy c []
  unfolding IsStrictlySortedBy
  rise_none = tt

  pub rise_cons : (x : X) (xs : List X) → AllByRecursion (λ y. c x y ≡ Less) xs → IsStrictlySortedBy c xs → IsStrictlySortedBy c (x ∷ xs)
  unfolding IsStrictlySortedBy
  rise_cons x xs below rest = (below, rest)

  pub below_of : (x : X) (xs : List X) → IsStrictlySortedBy c (x ∷ xs) → AllByRecursion (λ y. c x y ≡ Less) xs
  unfolding IsStrictlySortedBy
  below_of x xs h = h.0

  pub rise_rest : (x : X) (xs : List X) → IsStrictlySortedBy c (x ∷ xs) → IsStrictlySortedBy c xs
  unfolding IsStrictlySortedBy
  rise_rest x xs h = h.1

  -- a list that rises: its first is below each of the others
  pub first_below : (x : X) (xs : List X) (y : X) → IsStrictlySortedBy c (x ∷ xs) → Contains xs y → c x y ≡ Less
  first_below x xs y h k = All-contains (λ z. c x z ≡ Less) xs y (All-from_recursion (λ z. c x z ≡ Less) xs (below_of x xs h)) k

  pub rise_before : (x : X) (xs : List X) → ((y : X) → Contains xs y → c x y ≡ Less) → IsStrictlySortedBy c xs → IsStrictlySortedBy c (x ∷ xs)
  rise_before x xs h rest = rise_cons x xs (all_of (λ y. c x y ≡ Less) xs h) rest

  rise_kept_by : (p : X → Bool) (x : X) (xs : List X) (b : Bool) → IsStrictlySortedBy c (x ∷ xs) → IsStrictlySortedBy c (filter p xs) → IsStrictlySortedBy c (cond b (x ∷ filter p xs) (filter p xs))
  rise_kept_by p x xs true h rest = rise_before x (filter p xs) (λ y k. first_below x xs y h (has_kept p xs y k).0) rest
  rise_kept_by p x xs false h rest = rest

  pub rise_kept : (p : X → Bool) (xs : List X) → IsStrictlySortedBy c xs → IsStrictlySortedBy c (filter p xs)
  rise_kept p [] h = rise_none
  rise_kept p (x ∷ xs) h = rise_kept_by p x xs (p x) h (rise_kept p xs (rise_rest x xs h))

  pub rise_taken : (n : ℕ) (xs : List X) → IsStrictlySortedBy c xs → IsStrictlySortedBy c (take n xs)
  rise_taken zero xs h = rise_none
  rise_taken (suc n) [] h = rise_none
  rise_taken (suc n) (x ∷ xs) h = rise_before x (take n xs) (λ y k. first_below x xs y h (has_taken n xs y k)) (rise_taken n xs (rise_rest x xs h))

  pub rise_left : (n : ℕ) (xs : List X) → IsStrictlySortedBy c xs → IsStrictlySortedBy c (drop n xs)
  rise_left zero xs h = h
  rise_left (suc n) [] h = rise_none
  rise_left (suc n) (x ∷ xs) h = rise_left n xs (rise_rest x xs h)

  -- what stands in front is below what stands behind
  pub front_below : (front : List X) (x : X) (back : List X) (y : X) → IsStrictlySortedBy c (front ++ x ∷ back) → Contains front y → c y x ≡ Less
  front_below [] x back y h k = absurd (has_none y k)
  front_below (z ∷ zs) x back y h k =
      elim (has_cases z zs y k) [
        | inl s ↦ subst (λ w. c w x ≡ Less) s (first_below z (zs ++ x ∷ back) x h (Contains-append_right zs (x ∷ back) x (has_first x back)))
        | inr s ↦ front_below zs x back y (rise_rest z (zs ++ x ∷ back) h) s
      ]

  pub rise_behind : (front : List X) (xs : List X) → IsStrictlySortedBy c (front ++ xs) → IsStrictlySortedBy c xs
  rise_behind [] xs h = h
  rise_behind (z ∷ zs) xs h = rise_behind zs xs (rise_rest z (zs ++ xs) h)

  module _ (o : IsTotalOrder c) where
    pub not_below_itself : (x : X) → ¬ (c x x ≡ Less)
    not_below_itself x e = absurd (cc (tied_itself o x, e))

    pub not_both_below : (x y : X) → c x y ≡ Less → ¬ (c y x ≡ Less)
    not_both_below x y e f = not_below_itself x (o.trans x y x e f)

    -- ---- there is only one with given elements

    same_first : (x y : X) (xs ys : List X) → IsStrictlySortedBy c (x ∷ xs) → IsStrictlySortedBy c (y ∷ ys) → Contains (y ∷ ys) x → Contains (x ∷ xs) y → x ≡ y
    same_first x y xs ys p q h k =
        elim (has_cases y ys x h) [
          | inl s ↦ sym s
          | inr s ↦ elim (has_cases x xs y k) [ inl t ↦ t | inr t ↦ absurd (not_both_below y x (first_below y ys x q s) (first_below x xs y p t)) ]
        ]

    in_rest : (x : X) (xs ys : List X) (d : X) → IsStrictlySortedBy c (x ∷ xs) → Contains xs d → Contains (x ∷ ys) d → Contains ys d
    in_rest x xs ys d p h k =
        elim (has_cases x ys d k) [
          | inl s ↦ absurd (not_below_itself d (subst (λ z. c z d ≡ Less) s (first_below x xs d p h)))
          | inr s ↦ s
        ]

    pub only_one : (xs ys : List X) → IsStrictlySortedBy c xs → IsStrictlySortedBy c ys → ((d : X) → Contains xs d → Contains ys d) → ((d : X) → Contains ys d → Contains xs d) → xs ≡ ys
    only_one [] [] p q to from = refl
    only_one [] (y ∷ ys) p q to from = absurd (has_none y (from y (has_first y ys)))
    only_one (x ∷ xs) [] p q to from = absurd (has_none x (to x (has_first x xs)))
    only_one (x ∷ xs) (y ∷ ys) p q to from =
        let s : x ≡ y = same_first x y xs ys p q (to x (has_first x xs)) (from y (has_first y ys)) in
        let q' : IsStrictlySortedBy c (x ∷ ys) = subst (λ z. IsStrictlySortedBy c (z ∷ ys)) (sym s) q in
        let rest = only_one xs ys (rise_rest x xs p) (rise_rest y ys q)
        (λ d h. in_rest x xs ys d p h (subst (λ z. Contains (z ∷ ys) d) (sym s) (to d (has_later x xs d h))))
        (λ d h. in_rest x ys xs d q' h (from d (has_later y ys d h))) in
        λ i. s i ∷ rest i

    -- ---- one with the elements of any list, if it tells them apart

    put_cases_by : (r : Ordering) (x y : X) (ys : List X) (d : X) → (Contains (put_in c x ys) d → (x ≡ d) ⊎ Contains ys d) → Contains (match_ordering r (x ∷ y ∷ ys) (y ∷ ys) (y ∷ put_in c x ys)) d → (x ≡ d) ⊎ Contains (y ∷ ys) d
    put_cases_by Less x y ys d rest h = has_cases x (y ∷ ys) d h
    put_cases_by Equal x y ys d rest h = inr h
    put_cases_by Greater x y ys d rest h =
        elim (has_cases y (put_in c x ys) d h) [
          | inl s ↦ inr (subst (λ z. Contains (z ∷ ys) d) (sym s) (has_first d ys))
          | inr s ↦ elim (rest s) [ inl t ↦ inl t | inr t ↦ inr (has_later y ys d t) ]
        ]

    put_cases : (x : X) (ys : List X) (d : X) → Contains (put_in c x ys) d → (x ≡ d) ⊎ Contains ys d
    put_cases x [] d h = has_cases x [] d h
    put_cases x (y ∷ ys) d h = put_cases_by (c x y) x y ys d (put_cases x ys d) h

    put_later_by : (r : Ordering) (x y : X) (ys : List X) (d : X) → (Contains ys d → Contains (put_in c x ys) d) → Contains (y ∷ ys) d → Contains (match_ordering r (x ∷ y ∷ ys) (y ∷ ys) (y ∷ put_in c x ys)) d
    put_later_by Less x y ys d rest h = has_later x (y ∷ ys) d h
    put_later_by Equal x y ys d rest h = h
    put_later_by Greater x y ys d rest h =
        elim (has_cases y ys d h) [
          | inl s ↦ subst (λ z. Contains (z ∷ put_in c x ys) d) (sym s) (has_first d (put_in c x ys))
          | inr s ↦ has_later y (put_in c x ys) d (rest s)
        ]

    put_later : (x : X) (ys : List X) (d : X) → Contains ys d → Contains (put_in c x ys) d
    put_later x [] d h = absurd (has_none d h)
    put_later x (y ∷ ys) d h = put_later_by (c x y) x y ys d (put_later x ys d) h

    put_there_by : (r : Ordering) (x y : X) (ys : List X) → c x y ≡ r → (c x y ≡ Equal → x ≡ y) → Contains (put_in c x ys) x → Contains (match_ordering r (x ∷ y ∷ ys) (y ∷ ys) (y ∷ put_in c x ys)) x
    put_there_by Less x y ys e same rest = has_first x (y ∷ ys)
    put_there_by Equal x y ys e same rest = subst (λ z. Contains (z ∷ ys) x) (same e) (has_first x ys)
    put_there_by Greater x y ys e same rest = has_later y (put_in c x ys) x rest

    put_there : (x : X) (ys : List X) → ((y : X) → Contains ys y → c x y ≡ Equal → x ≡ y) → Contains (put_in c x ys) x
    put_there x [] same = has_first x []
    put_there x (y ∷ ys) same = put_there_by (c x y) x y ys refl (same y (has_first y ys)) (put_there x ys (λ z h. same z (has_later y ys z h)))

    above_is : (x y : X) → c x y ≡ Greater → c y x ≡ Less
    above_is x y e = o.antisymm y x ∙ ap ordering_reverse e

    put_rises_by : (r : Ordering) (x y : X) (ys : List X) → c x y ≡ r → IsStrictlySortedBy c (y ∷ ys) → IsStrictlySortedBy c (put_in c x ys) → IsStrictlySortedBy c (match_ordering r (x ∷ y ∷ ys) (y ∷ ys) (y ∷ put_in c x ys))
    put_rises_by Less x y ys e h rest =
        rise_before x (y ∷ ys) (λ d k. elim (has_cases y ys d k) [ inl s ↦ subst (λ z. c x z ≡ Less) s e | inr s ↦ o.trans x y d e (first_below y ys d h s) ]) h
    put_rises_by Equal x y ys e h rest = h
    put_rises_by Greater x y ys e h rest =
        rise_before y (put_in c x ys) (λ d k. elim (put_cases x ys d k) [ inl s ↦ subst (λ z. c y z ≡ Less) s (above_is x y e) | inr s ↦ first_below y ys d h s ]) rest

    put_rises : (x : X) (ys : List X) → IsStrictlySortedBy c ys → IsStrictlySortedBy c (put_in c x ys)
    put_rises x [] h = rise_before x [] (λ d k. absurd (has_none d k)) rise_none
    put_rises x (y ∷ ys) h = put_rises_by (c x y) x y ys refl h (put_rises x ys (rise_rest y ys h))

    pub in_rise_rises : (xs : List X) → IsStrictlySortedBy c (in_rise c xs)
    in_rise_rises [] = rise_none
    in_rise_rises (x ∷ xs) = put_rises x (in_rise c xs) (in_rise_rises xs)

    pub from_rise : (xs : List X) (d : X) → Contains (in_rise c xs) d → Contains xs d
    from_rise [] d h = h
    from_rise (x ∷ xs) d h =
        elim (put_cases x (in_rise c xs) d h) [
          | inl s ↦ subst (λ z. Contains (z ∷ xs) d) (sym s) (has_first d xs)
          | inr s ↦ has_later x xs d (from_rise xs d s)
        ]

    -- the order tells apart what differs in the list
    abbrev pub IsTold : List X → Type 0
    IsTold xs = (x y : X) → Contains xs x → Contains xs y → c x y ≡ Equal → x ≡ y

    pub to_rise : (xs : List X) → IsTold xs → (d : X) → Contains xs d → Contains (in_rise c xs) d
    to_rise [] told d h = h
    to_rise (x ∷ xs) told d h =
        elim (has_cases x xs d h) [
          | inl s ↦ subst (λ z. Contains (put_in c x (in_rise c xs)) z) s (put_there x (in_rise c xs) (λ y k e. told x y (has_first x xs) (has_later x xs y (from_rise xs y k)) e))
          | inr s ↦ put_later x (in_rise c xs) d (to_rise xs (λ a b p q e. told a b (has_later x xs a p) (has_later x xs b q) e) d s)
        ]

    -- ---- what a sort gives, where no two tie

    rises_by : (x y : X) (r : Ordering) → c x y ≡ r → is_lt (c y x) ≡ false → is_eq (c x y) ≡ false → c x y ≡ Less
    rises_by x y Less e lt tie = e
    rises_by x y Equal e lt tie = absurd (cc (ap is_eq e))
    rises_by x y Greater e lt tie = absurd (cc (ap is_lt (above_is x y e)))

    first_apart : (x : X) (xs : List X) → IsDistinct (eq_by_cmp c) (x ∷ xs) → AllByRecursion (λ y. eq_by_cmp c x y ≡ false) xs
    unfolding IsDistinct
    first_apart x xs h = h.0

    rest_apart : (x : X) (xs : List X) → IsDistinct (eq_by_cmp c) (x ∷ xs) → IsDistinct (eq_by_cmp c) xs
    unfolding IsDistinct
    rest_apart x xs h = h.1

    none_before : (x : X) (xs : List X) → IsSorted c (x ∷ xs) → (y : X) → Contains xs y → is_lt (c y x) ≡ false
    none_before x xs up y h = subst (λ z. is_lt (c z x) ≡ false) h.2 (sorted_far (λ a b. is_lt (c a b)) (ranks_by o (λ a. a)) (x ∷ xs) up 0 (suc h.0) y (omega arith) (omega (arith, h.1)))

    pub rise_sorted : (xs : List X) → IsSorted c xs → IsDistinct (eq_by_cmp c) xs → IsStrictlySortedBy c xs
    rise_sorted [] up apart = rise_none
    rise_sorted (x ∷ xs) up apart =
        rise_before x xs
        (λ y h. rises_by x y (c x y) refl (none_before x xs up y h) (All-contains (λ z. eq_by_cmp c x z ≡ false) xs y (All-from_recursion (λ z. eq_by_cmp c x z ≡ false) xs (first_apart x xs apart)) h))
        (rise_sorted xs (λ k d l h. let later : suc k + 1 ≡ suc (k + 1) = omega arith in subst (λ n. is_lt (c (get_or (x ∷ xs) n d) (get_or xs k d)) ≡ false) later (up (suc k) d (omega arith) (omega arith))) (rest_apart x xs apart))
