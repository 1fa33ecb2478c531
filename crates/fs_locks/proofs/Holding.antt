-- What is held after an id has taken names, or where memory ran out, and after it was released.
use Rattle.std.proofs.Common.{◌≡◌, ℕ, Bool, true, false, cond, List, ◌++◌, refl, sym, ap, ◌∙◌, subst}
use Rattle.std.specs.Prelude.{◌==◌, ◌&&◌, ◌||◌, IsTrue, not}
use Rattle.std.specs.BTreeMap.{is_at}
use Rattle.std.specs.Cmp.{first_so, second_so}
use Rattle.std.specs.List.{filter}
use Rattle.std.specs.Ordering.{nat_cmp}
use Rattle.std.proofs.lemmas.Bool.{eqb-true, not-true, or_left, or_right}
use Rattle.std.proofs.lemmas.List.Folds.{list_any-append}
use Rattle.std.proofs.Math.Bool.{and-false, or-false}
use Rattle.std.proofs.lemmas.Map.Made.{is_member-filter}
use Rattle.fs_path.specs.NameOrder.{name_eq, name_eq_equiv, name_is}
use Rattle.fs_path.specs.declared.name.DocName.{DocName}
use Rattle.fs_locks.specs.Holds.{is_in}
use Rattle.fs_locks.specs.Tree.{Tree, held, SameTree, SameBut, HasMore, HasLess, Taken, taken_by, AreTaken, SameTaken, TakesMore}
use Rattle.fs_locks.proofs.Ids.{tied, tied_is}

-- those of these names that an id doesn't hold
abbrev pub not_held : Tree → ℕ → List DocName → List DocName
not_held tree id names = filter (λ m. not (held tree id m)) names

in_new : (tree : Tree) (id : ℕ) (names : List DocName) (n : DocName) → is_in n (not_held tree id names) ≡ (is_in n names && not (held tree id n))
in_new tree id names n = is_member-filter name_eq_equiv (λ m. not (held tree id m)) n (λ m ties. ap (λ k. not (held tree id k)) (name_is n m ties)) names

-- ---- names are taken

here : (m h : Bool) → (((m && not h) && true) || h) ≡ (h || m)
here true true = refl
here true false = refl
here false true = refl
here false false = refl

pub held_more : (old new : Tree) (id : ℕ) (names more : List DocName) → more ≡ not_held old id names → HasMore old new id more
    → (i : ℕ) (n : DocName) → held new i n ≡ (held old i n || (i == id && is_in n names))
held_more old new id names more is has i n =
    has i n ∙ ap (λ b. (b && i == id) || held old i n) (ap (is_in n) is ∙ in_new old id names n) ∙ at (i == id) refl
  where
    at : (b : Bool) → (i == id) ≡ b → (((is_in n names && not (held old id n)) && b) || held old i n) ≡ (held old i n || (b && is_in n names))
    at true ties =
        ap (λ (k : ℕ). ((is_in n names && not (held old k n)) && true) || held old i n) (sym (eqb-true i id ties)) ∙ here (is_in n names) (held old i n)
    at false apart = ap (λ b. b || held old i n) (and-false (is_in n names && not (held old id n))) ∙ sym (or-false (held old i n))

pub taken_more : (old new : Tree) (taken more : Taken) (id : ℕ) (names : List DocName) → AreTaken old taken → HasMore old new id names → TakesMore taken more id names → AreTaken new more
taken_more old new taken more id names are has takes i n h =
    subst (λ ns. IsTrue (is_in n ns)) (sym (takes i)) (at (is_at (nat_cmp id) i) refl (ap (λ b. (is_in n names && b) || held old i n) (tied i id) ∙ sym (has i n) ∙ h))
  where
    by : (x : Bool) → id ≡ i → x ≡ is_in n names → IsTrue ((x && true) || held old i n) → IsTrue (is_in n (taken_by id taken) || is_in n names)
    by true same is so = or_right (is_in n (taken_by id taken)) (is_in n names) (sym is)
    by false same is so = or_left (is_in n (taken_by id taken)) (is_in n names) (subst (λ (k : ℕ). IsTrue (is_in n (taken_by k taken))) (sym same) (are i n so))

    at : (b : Bool) → is_at (nat_cmp id) i ≡ b → IsTrue ((is_in n names && b) || held old i n) → IsTrue (is_in n (cond b (taken_by id taken ++ names) (taken_by i taken)))
    at true ties so = list_any-append (name_eq n) (taken_by id taken) names ∙ by (is_in n names) (tied_is id i ties) refl so
    at false ties so = are i n (sym (ap (λ b. b || held old i n) (and-false (is_in n names))) ∙ so)

-- ---- memory ran out, and what came in is taken out again

pub held_back : (old mid new : Tree) (id : ℕ) (names more : List DocName) → more ≡ not_held old id names → SameBut old mid id more → HasLess mid new id more → SameTree old new
held_back old mid new id names more is but less i n = less i n ∙ at (is_in n more && i == id) refl
  where
    at : (b : Bool) → (is_in n more && i == id) ≡ b → (not b && held mid i n) ≡ held old i n
    at true both =
        let new_here : IsTrue (is_in n names && not (held old id n)) = sym (in_new old id names n) ∙ sym (ap (is_in n) is) ∙ first_so (is_in n more) (i == id) both in
        sym (not-true (held old id n) (second_so (is_in n names) (not (held old id n)) new_here)) ∙ ap (λ (k : ℕ). held old k n) (sym (eqb-true i id (second_so (is_in n more) (i == id) both)))
    at false apart = but i n apart

pub taken_same : (old new : Tree) (taken again : Taken) → AreTaken old taken → SameTree old new → SameTaken taken again → AreTaken new again
taken_same old new taken again are same stays i n h = subst (λ ns. IsTrue (is_in n ns)) (sym (stays i)) (are i n (sym (same i n) ∙ h))

-- ---- an id is released

pub held_less : (old new : Tree) (taken : Taken) (id : ℕ) (names : List DocName) → AreTaken old taken → names ≡ taken_by id taken → HasLess old new id names
    → (i : ℕ) (n : DocName) → held new i n ≡ (not (i == id) && held old i n)
held_less old new taken id names are is less i n = less i n ∙ at (i == id) refl
  where
    gone : (h : Bool) → held old id n ≡ h → (not (is_in n names && true) && h) ≡ false
    gone true so = ap (λ b. not (b && true) && true) (ap (is_in n) is ∙ are id n so)
    gone false so = and-false (not (is_in n names && true))

    at : (b : Bool) → (i == id) ≡ b → (not (is_in n names && b) && held old i n) ≡ (not b && held old i n)
    at true ties = ap (λ (k : ℕ). not (is_in n names && true) && held old k n) (eqb-true i id ties) ∙ gone (held old id n) refl
    at false apart = ap (λ b. not b && held old i n) (and-false (is_in n names))

pub taken_less : (old new : Tree) (taken left : Taken) (id : ℕ) → AreTaken old taken → ((i : ℕ) (n : DocName) → held new i n ≡ (not (i == id) && held old i n))
    → ((i : ℕ) → is_at (nat_cmp id) i ≡ false → taken_by i left ≡ taken_by i taken) → AreTaken new left
taken_less old new taken left id are less others i n h =
    let so : IsTrue (not (i == id) && held old i n) = sym (less i n) ∙ h in
    subst (λ ns. IsTrue (is_in n ns)) (sym (others i (tied i id ∙ not-true (i == id) (first_so (not (i == id)) (held old i n) so))))
    (are i n (second_so (not (i == id)) (held old i n) so))
