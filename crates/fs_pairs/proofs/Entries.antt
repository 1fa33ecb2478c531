-- Entries by rising keys.
use Rattle.std.proofs.Common.{◌≡◌, ℕ, Bool, true, false, cond, List, [], ◌∷◌, Some, None, refl, sym, ap, ◌∙◌}
use Rattle.std.specs.Prelude.{IsTrue}
use Rattle.std.specs.Cmp.{Equal-is, first_so}
use Rattle.std.specs.FinMap.{find, is_sorted, nat_cmp-IsAntisymmetric}
use Rattle.std.specs.FinMap.Entries.{below_all}
use Rattle.std.specs.Ordering.{eq_by_cmp, nat_cmp}
use Rattle.std.proofs.lemmas.Cmp.{nat_cmp_total, tied_itself}
use Rattle.fs_path.proofs.Orders.{below_less}

pub number_is : (a b : ℕ) → eq_by_cmp nat_cmp a b ≡ true → a ≡ b
number_is a b ties = nat_cmp-IsAntisymmetric a b ((Equal-is _).0 ties)

pub number_itself : (a : ℕ) → eq_by_cmp nat_cmp a a ≡ true
number_itself a = (Equal-is _).1 (tied_itself nat_cmp_total a)

not_below : {X : Type 0} (id : ℕ) (es : List (ℕ × X)) → IsTrue (below_all nat_cmp id es) → find nat_cmp id es ≡ None
not_below id [] below = refl
not_below id (e ∷ es) below =
    let both = below_less (nat_cmp id e.0) (below_all nat_cmp id es) below in
    ap (λ b. cond b (Some e.1) (find nat_cmp id es)) both.0 ∙ not_below id es both.1

module _ {X : Type 0} (e : ℕ × X) (es : List (ℕ × X)) (rise : IsTrue (is_sorted nat_cmp (e ∷ es))) where
  pub first_found : find nat_cmp e.0 (e ∷ es) ≡ Some e.1
  first_found = ap (λ b. cond b (Some e.1) (find nat_cmp e.0 es)) (number_itself e.0)

  pub none_again : find nat_cmp e.0 es ≡ None
  none_again = not_below e.0 es (first_so (below_all nat_cmp e.0 es) _ rise)

  pub behind_first : (id : ℕ) (x : X) → find nat_cmp id es ≡ Some x → find nat_cmp id (e ∷ es) ≡ Some x
  behind_first id x found = by_test (eq_by_cmp nat_cmp id e.0) refl where
    by_test : (same : Bool) → eq_by_cmp nat_cmp id e.0 ≡ same → find nat_cmp id (e ∷ es) ≡ Some x
    by_test false is = ap (λ b. cond b (Some e.1) (find nat_cmp id es)) is ∙ found
    by_test true is = absurd (let both : None ≡ Some x = sym none_again ∙ ap (λ k. find nat_cmp k es) (sym (number_is id e.0 is)) ∙ found in cc)
