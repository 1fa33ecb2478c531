-- What is listed of entries by rising numbers, looked up again at one of them.
use Rattle.std.proofs.Common.{◌≡◌, ℕ, Bool, true, false, cond, ◌&&◌, ◌||◌, List, [], ◌∷◌, map, Some, None, refl, sym, ap, ◌∙◌, subst, arith}
use Rattle.std.specs.Prelude.{IsTrue, ◌==◌}
use Rattle.std.specs.Cmp.{Equal-is, first_so, second_so}
use Rattle.std.specs.FinMap.{find, is_sorted, nat_cmp-IsAntisymmetric}
use Rattle.std.specs.FinMap.Entries.{below_all}
use Rattle.std.specs.List.{AllByRecursion, filter}
use Rattle.std.specs.Ordering.{eq_by_cmp, nat_cmp}
use Rattle.std.proofs.lemmas.Bool.Decides.{nat_tests}
use Rattle.std.proofs.lemmas.Cmp.{tied_itself, nat_cmp_total}
use Rattle.fs_path.proofs.Orders.{below_less}
use Rattle.fs_listen.specs.Gathered.{is_in}
use Rattle.fs_listen.specs.Told.{Views}

pub number_is : (a b : ℕ) → eq_by_cmp nat_cmp a b ≡ true → a ≡ b
number_is a b ties = nat_cmp-IsAntisymmetric a b ((Equal-is _).0 ties)

number_itself : (a : ℕ) → eq_by_cmp nat_cmp a a ≡ true
number_itself a = (Equal-is _).1 (tied_itself nat_cmp_total a)

pub same_itself : (a : ℕ) → (a == a) ≡ true
same_itself a = grind (arith, nat_tests)

pub other_number : (a b : ℕ) → eq_by_cmp nat_cmp a b ≡ false → (a == b) ≡ false
other_number a b none = by_test (a == b) refl where
  by_test : (same : Bool) → (a == b) ≡ same → same ≡ false
  by_test false is = refl
  by_test true is =
      let one : a ≡ b = grind (arith, nat_tests) in
      absurd (let both : true ≡ false = sym (number_itself b) ∙ ap (λ x. eq_by_cmp nat_cmp x b) (sym one) ∙ none in cc)

-- what holds of each of them holds of the one that is found
pub at_found : {X Y : Type 0} (P : Y → Type 0) (f : ℕ × X → Y) (id : ℕ) (x : X) (es : List (ℕ × X)) → find nat_cmp id es ≡ Some x
    → AllByRecursion P (map f es) → P (f (id, x))
at_found P f id x [] found all = absurd (cc)
at_found {X} P f id x (e ∷ es) found all = by_test (λ rest. at_found P f id x es rest all.1) (eq_by_cmp nat_cmp id e.0) refl where
  by_test : (find nat_cmp id es ≡ Some x → P (f (id, x))) → (same : Bool) → eq_by_cmp nat_cmp id e.0 ≡ same → P (f (id, x))
  by_test again true is =
      let one : Some e.1 ≡ Some x = ap (λ b. cond b (Some e.1) (find nat_cmp id es)) (sym is) ∙ found in
      let value : e.1 ≡ x = cc in
      subst (λ (y : ℕ × X). P (f y)) (λ i. (sym (number_is id e.0 is) i, value i)) all.0
  by_test again false is = again (ap (λ b. cond b (Some e.1) (find nat_cmp id es)) (sym is) ∙ found)

-- one below all of them isn't found
none_below : {X : Type 0} (id : ℕ) (es : List (ℕ × X)) → IsTrue (below_all nat_cmp id es) → find nat_cmp id es ≡ None
none_below id [] below = refl
none_below id (e ∷ es) below =
    let both = below_less (nat_cmp id e.0) (below_all nat_cmp id es) below in
    ap (λ b. cond b (Some e.1) (find nat_cmp id es)) both.0 ∙ none_below id es both.1

-- what holds of each that is found holds of all
pub from_found : {X : Type 0} (P : X → Type 0) (es : List (ℕ × X)) → IsTrue (is_sorted nat_cmp es) → ((id : ℕ) (x : X) → find nat_cmp id es ≡ Some x → P x)
    → AllByRecursion P (map (λ (e : ℕ × X). e.1) es)
from_found P [] rise each = tt
from_found {X} P (e ∷ es) rise each = (
  each e.0 e.1 (ap (λ b. cond b (Some e.1) (find nat_cmp e.0 es)) (number_itself e.0)),
  from_found P es (second_so (below_all nat_cmp e.0 es) _ rise) (λ id x found. each id x (behind_first id x found (eq_by_cmp nat_cmp id e.0) refl)),
) where
  behind_first : (id : ℕ) (x : X) → find nat_cmp id es ≡ Some x → (same : Bool) → eq_by_cmp nat_cmp id e.0 ≡ same → find nat_cmp id (e ∷ es) ≡ Some x
  behind_first id x found false is = ap (λ b. cond b (Some e.1) (find nat_cmp id es)) is ∙ found
  behind_first id x found true is =
      let none = none_below e.0 es (first_so (below_all nat_cmp e.0 es) _ rise) in
      absurd (let both : None ≡ Some x = sym none ∙ ap (λ k. find nat_cmp k es) (sym (number_is id e.0 is)) ∙ found in cc)

-- ---- the numbers of views that pass a test

front : (a : Bool) → ((a && true) || false) ≡ a
front true = refl
front false = refl

behind : (a b : Bool) → ((a && false) || b) ≡ b
behind true b = refl
behind false b = refl

module _ {X : Type 0} (f : ℕ × X → Views) (ids : (e : ℕ × X) → (f e).id ≡ e.0) (p : Views → Bool) (id : ℕ) where
  abbrev passing : List (ℕ × X) → List ℕ
  passing es = map (λ (v : Views). v.id) (filter p (map f es))

  step : (e : ℕ × X) (es : List (ℕ × X)) (passes : Bool)
      → is_in id (map (λ (v : Views). v.id) (cond passes (f e ∷ filter p (map f es)) (filter p (map f es)))) ≡ ((passes && (id == (f e).id)) || is_in id (passing es))
  step e es true = refl
  step e es false = refl

  next : (e : ℕ × X) (es : List (ℕ × X)) → eq_by_cmp nat_cmp id e.0 ≡ false
      → is_in id (passing (e ∷ es)) ≡ is_in id (passing es)
  next e es other =
      step e es (p (f e))
      ∙ ap (λ b. (p (f e) && b) || is_in id (passing es)) (ap (λ k. id == k) (ids e) ∙ other_number id e.0 other)
      ∙ behind (p (f e)) (is_in id (passing es))

  absent : (es : List (ℕ × X)) → IsTrue (below_all nat_cmp id es) → is_in id (passing es) ≡ false
  absent [] below = refl
  absent (e ∷ es) below =
      let both = below_less (nat_cmp id e.0) (below_all nat_cmp id es) below in
      next e es both.0 ∙ absent es both.1

  pub in_passing : (es : List (ℕ × X)) (x : X) → IsTrue (is_sorted nat_cmp es) → find nat_cmp id es ≡ Some x → is_in id (passing es) ≡ p (f (id, x))
  in_passing [] x rise found = absurd (cc)
  in_passing (e ∷ es) x rise found = by_test (in_passing es x (second_so _ _ rise)) (eq_by_cmp nat_cmp id e.0) refl where
    by_test : (find nat_cmp id es ≡ Some x → is_in id (passing es) ≡ p (f (id, x))) → (same : Bool) → eq_by_cmp nat_cmp id e.0 ≡ same → is_in id (passing (e ∷ es)) ≡ p (f (id, x))
    by_test again true is =
        let one : Some e.1 ≡ Some x = ap (λ b. cond b (Some e.1) (find nat_cmp id es)) (sym is) ∙ found in
        let value : e.1 ≡ x = cc in
        let key = number_is id e.0 is in
        let none = absent es (subst (λ k. IsTrue (below_all nat_cmp k es)) (sym key) (first_so _ _ rise)) in
        step e es (p (f e))
        ∙ (λ i. (p (f e) && (ap (λ k. id == k) (ids e ∙ sym key) ∙ same_itself id) i) || none i)
        ∙ front (p (f e))
        ∙ (λ i. p (f (sym key i, value i)))
    by_test again false is = next e es is ∙ again (ap (λ b. cond b (Some e.1) (find nat_cmp id es)) (sym is) ∙ found)
