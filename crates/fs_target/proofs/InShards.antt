-- The positions of targets by those of the shards, and how these come from them.
use Rattle.std.proofs.Common.{◌≡◌, ℕ, zero, suc, ◌+◌, ◌<◌, ◌≤◌, ℤ, Bool, true, false, cond, List, [], ◌∷◌, ◌++◌, map, length, get_or, set, take, drop, Option, Some, None, refl, sym, ap, ◌∙◌, subst, arith}
use Rattle.std.specs.Prelude.{int_lt}
use Rattle.std.specs.List.{flat_map}
use Rattle.std.proofs.lemmas.Int.{ints}
use Rattle.std.proofs.lemmas.List.{drop-set-lt, drop_more, map-append, take_all, take_more, take_more_set}
use Rattle.fs_listen.specs.Cuts.{least, least_before, positions_of}
use Rattle.fs_listen.specs.Listening.{later_of}
use Rattle.fs_target.specs.Seen.{Seen}
use Rattle.fs_target.specs.Still.{all_joined, first_of, in_all, in_own, joined, nones}
use Rattle.fs_target.proofs.Joined.{least-append, least_alone, least_thrice}

-- ---- the least of times that may be there

module _ where
  lesser_swapped : (s t : ℤ) → cond (int_lt t s) t s ≡ cond (int_lt s t) s t
  lesser_swapped s t = by_tests (int_lt t s) (int_lt s t) refl refl where
    by_tests : (a b : Bool) → int_lt t s ≡ a → int_lt s t ≡ b → cond a t s ≡ cond b s t
    by_tests true true is are = absurd (grind (arith, ints))
    by_tests true false is are = refl
    by_tests false true is are = refl
    by_tests false false is are = grind (arith, ints)

  least_swapped : (a b : Option ℤ) → least_before a b ≡ least_before b a
  least_swapped None None = refl
  least_swapped None (Some t) = refl
  least_swapped (Some s) None = refl
  least_swapped (Some s) (Some t) = ap (λ (u : ℤ). Some u) (lesser_swapped s t)

  lesser_itself : (s : ℤ) (b : Bool) → cond b s s ≡ s
  lesser_itself s true = refl
  lesser_itself s false = refl

  least_itself : (a : Option ℤ) → least_before a a ≡ a
  least_itself None = refl
  least_itself (Some s) = ap (λ (u : ℤ). Some u) (lesser_itself s (int_lt s s))

  -- both of two that begin with the same
  least_both : (x a b : Option ℤ) → least_before (least_before x a) (least_before x b) ≡ least_before x (least_before a b)
  least_both x a b =
      sym (least_thrice x a (least_before x b))
      ∙ ap (least_before x) (least_thrice a x b ∙ ap (λ o. least_before o b) (least_swapped a x) ∙ sym (least_thrice x a b))
      ∙ least_thrice x x (least_before a b)
      ∙ ap (λ o. least_before o (least_before a b)) (least_itself x)

  least_second : (x a b : Option ℤ) → least_before a (least_before x b) ≡ least_before x (least_before a b)
  least_second x a b = least_thrice a x b ∙ ap (λ o. least_before o b) (least_swapped a x) ∙ sym (least_thrice x a b)

-- ---- at one shard

pub at_all : (own positions : List (Option ℤ)) (i : ℕ) → get_or (in_all own positions) i None ≡ in_own (get_or own i None) (get_or positions i None)
at_all [] positions i = refl
at_all (None ∷ os) [] zero = refl
at_all (Some t ∷ os) [] zero = refl
at_all (o ∷ os) [] (suc i) = at_all os [] i
at_all (o ∷ os) (p ∷ ps) zero = refl
at_all (o ∷ os) (p ∷ ps) (suc i) = at_all os ps i

pub length_all : (own positions : List (Option ℤ)) → length (in_all own positions) ≡ length own
length_all [] positions = refl
length_all (o ∷ os) [] = ap suc (length_all os [])
length_all (o ∷ os) (p ∷ ps) = ap suc (length_all os ps)

itself_own : (p : Option ℤ) → in_own p p ≡ p
itself_own None = refl
itself_own (Some t) = refl

pub itself_all : (ps : List (Option ℤ)) → in_all ps ps ≡ ps
itself_all [] = refl
itself_all (p ∷ ps) = (λ i. itself_own p i ∷ itself_all ps i)

-- ---- a position that moves

moved_own : (to : ℤ) (o p : Option ℤ) → in_own o (later_of to p) ≡ later_of to (in_own o p)
moved_own to None p = refl
moved_own to (Some t) p = refl

pub moved_all : (to : ℤ) (own ps : List (Option ℤ)) (i : ℕ)
    → in_all own (set ps i (later_of to (get_or ps i None))) ≡ set (in_all own ps) i (later_of to (get_or (in_all own ps) i None))
moved_all to [] ps i = refl
moved_all to (o ∷ os) [] zero = refl
moved_all to (o ∷ os) [] (suc i) = ap (λ qs. None ∷ qs) (moved_all to os [] i)
moved_all to (o ∷ os) (p ∷ ps) zero = ap (λ q. q ∷ in_all os ps) (moved_own to o p)
moved_all to (o ∷ os) (p ∷ ps) (suc i) = ap (λ qs. in_own o p ∷ qs) (moved_all to os ps i)

pub nones_set : (ps : List (Option ℤ)) (i : ℕ) (p : Option ℤ) → nones (set ps i p) ≡ nones ps
nones_set [] i p = refl
nones_set (q ∷ ps) zero p = refl
nones_set (q ∷ ps) (suc i) p = ap (λ qs. None ∷ qs) (nones_set ps i p)

-- ---- those of all targets

pub length_joined : (own ps : List (Option ℤ)) → length (joined own ps) ≡ length ps
length_joined [] ps = refl
length_joined (o ∷ os) [] = refl
length_joined (o ∷ os) (p ∷ ps) = ap suc (length_joined os ps)

pub at_joined : (own ps : List (Option ℤ)) (i : ℕ) → i < length ps → get_or (joined own ps) i None ≡ first_of (get_or ps i None) (get_or own i None)
at_joined [] ps i low = alone (get_or ps i None) where
  alone : (p : Option ℤ) → p ≡ first_of p None
  alone None = refl
  alone (Some t) = refl
at_joined (o ∷ os) [] i low = absurd (omega arith)
at_joined (o ∷ os) (p ∷ ps) zero low = refl
at_joined (o ∷ os) (p ∷ ps) (suc i) low = at_joined os ps i (omega arith)

pub nones_joined : (own ps : List (Option ℤ)) → nones (joined own ps) ≡ nones ps
nones_joined [] ps = refl
nones_joined (o ∷ os) [] = refl
nones_joined (o ∷ os) (p ∷ ps) = ap (λ qs. None ∷ qs) (nones_joined os ps)

pub none_more : (ps : List (Option ℤ)) → ps ≡ nones ps → ps ++ None ∷ [] ≡ nones (ps ++ None ∷ [])
none_more ps are = ap (λ qs. qs ++ None ∷ []) are ∙ sym (map-append (λ (p : Option ℤ). None) ps (None ∷ []))

least_none : (a ps : List (Option ℤ)) → least (in_all (nones a) ps) ≡ None
least_none [] ps = refl
least_none (o ∷ os) [] = least_none os []
least_none (o ∷ os) (p ∷ ps) = least_none os ps

least_bare : (own : List (Option ℤ)) → least (in_all own []) ≡ None
least_bare [] = refl
least_bare (o ∷ os) = least_bare os

-- the least of two targets is that of both
least_two : (a b ps : List (Option ℤ)) → length ps ≤ length a → least_before (least (in_all a ps)) (least (in_all b ps)) ≡ least (in_all (joined b a) ps)
least_two a [] ps low = least_alone (least (in_all a ps))
least_two a (o ∷ os) [] low = (λ i. least_before (least_bare a i) (least_bare (o ∷ os) i)) ∙ sym (least_bare (joined (o ∷ os) a))
least_two [] (o ∷ os) (p ∷ ps) low = absurd (omega arith)
least_two (None ∷ bs) (None ∷ os) (p ∷ ps) low = least_two bs os ps (omega arith)
least_two (None ∷ bs) (Some t ∷ os) (p ∷ ps) low = least_second p (least (in_all bs ps)) (least (in_all os ps)) ∙ ap (least_before p) (least_two bs os ps (omega arith))
least_two (Some s ∷ bs) (None ∷ os) (p ∷ ps) low = sym (least_thrice p (least (in_all bs ps)) (least (in_all os ps))) ∙ ap (least_before p) (least_two bs os ps (omega arith))
least_two (Some s ∷ bs) (Some t ∷ os) (p ∷ ps) low = least_both p (least (in_all bs ps)) (least (in_all os ps)) ∙ ap (least_before p) (least_two bs os ps (omega arith))

least_more : (a ps : List (Option ℤ)) (ss : List Seen) → length ps ≤ length a
    → least_before (least (in_all a ps)) (least (flat_map (λ (s : Seen). in_all (positions_of s.listened.loaded) ps) ss)) ≡ least (in_all (all_joined a ss) ps)
least_more a ps [] low = least_alone (least (in_all a ps))
least_more a ps (s ∷ ss) low =
    let own = positions_of s.listened.loaded in
    let rest = flat_map (λ (t : Seen). in_all (positions_of t.listened.loaded) ps) ss in
    ap (least_before (least (in_all a ps))) (least-append (in_all own ps) rest)
    ∙ least_thrice (least (in_all a ps)) (least (in_all own ps)) (least rest)
    ∙ ap (λ o. least_before o (least rest)) (least_two a own ps low)
    ∙ least_more (joined own a) ps ss (subst (λ n. length ps ≤ n) (sym (length_joined own a)) low)

length_nones : (ps : List (Option ℤ)) → length (nones ps) ≡ length ps
length_nones [] = refl
length_nones (p ∷ ps) = ap suc (length_nones ps)

long_enough : (ps : List (Option ℤ)) → length ps ≤ length (nones ps)
long_enough ps = let same = length_nones ps in omega arith

-- the least position of all targets is that of the shards
pub least_had : (ps : List (Option ℤ)) (ss : List Seen) → in_all (all_joined (nones ps) ss) ps ≡ ps
    → least (flat_map (λ (s : Seen). in_all (positions_of s.listened.loaded) ps) ss) ≡ least ps
least_had ps ss had =
    let all = least (flat_map (λ (s : Seen). in_all (positions_of s.listened.loaded) ps) ss) in
    ap (λ o. least_before o all) (sym (least_none ps ps)) ∙ least_more (nones ps) ps ss (long_enough ps) ∙ ap least had

-- and so it is in one shard
two_own : (a o p : Option ℤ) → least_before (in_own a p) (in_own o p) ≡ in_own (first_of a o) p
two_own None o p = refl
two_own (Some s) None p = least_alone p
two_own (Some s) (Some t) p = least_itself p

at_bare : (own : List (Option ℤ)) (i : ℕ) → get_or (in_all own []) i None ≡ None
at_bare [] i = refl
at_bare (o ∷ os) zero = refl
at_bare (o ∷ os) (suc i) = at_bare os i

two_at : (a own ps : List (Option ℤ)) (i : ℕ) → length ps ≤ length a
    → least_before (get_or (in_all a ps) i None) (get_or (in_all own ps) i None) ≡ get_or (in_all (joined own a) ps) i None
two_at a [] ps i low = least_alone (get_or (in_all a ps) i None)
two_at a (o ∷ os) [] i low = (λ j. least_before (at_bare a i j) (at_bare (o ∷ os) i j)) ∙ sym (at_bare (joined (o ∷ os) a) i)
two_at [] (o ∷ os) (p ∷ ps) i low = absurd (omega arith)
two_at (a ∷ bs) (o ∷ os) (p ∷ ps) zero low = two_own a o p
two_at (a ∷ bs) (o ∷ os) (p ∷ ps) (suc i) low = two_at bs os ps i (omega arith)

module _ (i : ℕ) where
  at_more : (a ps : List (Option ℤ)) (ss : List Seen) → length ps ≤ length a
      → least_before (get_or (in_all a ps) i None) (least (map (λ (s : Seen). get_or (in_all (positions_of s.listened.loaded) ps) i None) ss))
      ≡ get_or (in_all (all_joined a ss) ps) i None
  at_more a ps [] low = least_alone (get_or (in_all a ps) i None)
  at_more a ps (s ∷ ss) low =
      let own = positions_of s.listened.loaded in
      let rest = least (map (λ (t : Seen). get_or (in_all (positions_of t.listened.loaded) ps) i None) ss) in
      least_thrice (get_or (in_all a ps) i None) (get_or (in_all own ps) i None) rest
      ∙ ap (λ o. least_before o rest) (two_at a own ps i low)
      ∙ at_more (joined own a) ps ss (subst (λ n. length ps ≤ n) (sym (length_joined own a)) low)

  none_at : (a ps : List (Option ℤ)) → get_or (in_all (nones a) ps) i None ≡ None
  none_at a ps = at_all (nones a) ps i ∙ ap (λ o. in_own o (get_or ps i None)) (bare a i) where
    bare : (b : List (Option ℤ)) (j : ℕ) → get_or (nones b) j None ≡ None
    bare [] j = refl
    bare (o ∷ os) zero = refl
    bare (o ∷ os) (suc j) = bare os j

  pub least_at : (ps : List (Option ℤ)) (ss : List Seen) → in_all (all_joined (nones ps) ss) ps ≡ ps
      → least (map (λ (s : Seen). get_or (in_all (positions_of s.listened.loaded) ps) i None) ss) ≡ get_or ps i None
  least_at ps ss had =
      let all = least (map (λ (s : Seen). get_or (in_all (positions_of s.listened.loaded) ps) i None) ss) in
      ap (λ o. least_before o all) (sym (none_at ps ps)) ∙ at_more (nones ps) ps ss (long_enough ps) ∙ ap (λ qs. get_or qs i None) had

-- what stands at a place, whatever stands for what isn't there
pub any_default : {A : Type 0} (xs : List A) (i : ℕ) (d e : A) → i < length xs → get_or xs i d ≡ get_or xs i e
any_default [] i d e low = absurd (omega arith)
any_default (x ∷ xs) zero d e low = refl
any_default (x ∷ xs) (suc i) d e low = any_default xs i d e (omega arith)

-- ---- loops that change a list in place, each place by itself

-- ys is xs after the first i of them became those of zs
pub record Become (xs zs ys : List (Option ℤ)) (i : ℕ) : Type 0 where
  pub long : length zs ≡ length xs
  pub done : take i ys ≡ take i zs
  pub rest : drop i ys ≡ drop i xs

pub become_none : (xs zs : List (Option ℤ)) → length zs ≡ length xs → Become xs zs xs 0
become_none xs zs long = record { long = long; done = refl; rest = refl }

pub become_at : (xs zs ys : List (Option ℤ)) (i : ℕ) → length ys ≡ length xs → i < length ys → Become xs zs ys i → get_or ys i None ≡ get_or xs i None
become_at xs zs ys i long low so_far =
    let there : get_or ys i None ∷ drop (i + 1) ys ≡ get_or xs i None ∷ drop (i + 1) xs =
    sym (drop_more ys i None low) ∙ so_far.rest ∙ drop_more xs i None (omega arith) in
    cc

pub become_more : (xs zs ys : List (Option ℤ)) (i : ℕ) (y : Option ℤ) → length ys ≡ length xs → i < length ys → y ≡ get_or zs i None → Become xs zs ys i
    → Become xs zs (set ys i y) (i + 1)
become_more xs zs ys i y long low is so_far =
    let there : get_or ys i None ∷ drop (i + 1) ys ≡ get_or xs i None ∷ drop (i + 1) xs =
    sym (drop_more ys i None low) ∙ so_far.rest ∙ drop_more xs i None (omega arith) in
    let behind : drop (i + 1) ys ≡ drop (i + 1) xs = cc in
    let same = so_far.long in
    record {
      long = so_far.long;
      done = take_more_set ys i y low ∙ (λ j. so_far.done j ++ is j ∷ []) ∙ sym (take_more zs i None (omega arith));
      rest = drop-set-lt (i + 1) ys i y (omega arith) ∙ behind;
    }

pub become_all : (xs zs ys : List (Option ℤ)) (i : ℕ) → length ys ≡ length xs → length ys ≤ i → Become xs zs ys i → ys ≡ zs
become_all xs zs ys i long high all =
    let same = all.long in
    sym (take_all i ys high) ∙ all.done ∙ take_all i zs (omega arith)
