-- Empty places that are given back: the documents stay, and so do the places that others wait for.
use Rattle.std.proofs.Common.{◌≡◌, ℤ, Bool, true, false, cond, None, refl, sym, ap, ◌∙◌, subst}
use Rattle.std.specs.Prelude.{IsTrue}
use Rattle.std.specs.FinMap.{get, get-remove, remove, same_map}
use Rattle.fs_path.specs.NameOrder.{name_cmp_total, name_eq, name_is, name_same}
use Rattle.fs_path.specs.declared.name.DocName.{DocName}
use Rattle.fs_target.specs.Places.{docs_in, is_until, stood}
use Rattle.fs_target.proofs.Standing.{Placed, get-docs_in}

pub docs-removed : (places : Placed) (name : DocName) → stood (get places name) ≡ None → docs_in (remove places name) ≡ docs_in places
docs-removed places name none =
    same_map name_cmp_total name_same (docs_in (remove places name)) (docs_in places)
    (λ q. get-docs_in (remove places name) q ∙ ap stood (get-remove name_cmp_total places name q) ∙ by_test q (name_eq q name) refl)
  where
    by_test : (q : DocName) (same : Bool) → name_eq q name ≡ same → stood (cond same None (get places q)) ≡ get (docs_in places) q
    by_test q true is = sym none ∙ ap (λ n. stood (get places n)) (sym (name_is q name is)) ∙ sym (get-docs_in places q)
    by_test q false is = sym (get-docs_in places q)

-- the others stay
pub others_stay : (places : Placed) (name : DocName) (t : ℤ) (other : DocName) → is_until t (get places name) ≡ false → IsTrue (is_until t (get places other)) → IsTrue (is_until t (get (remove places name) other))
others_stay places name t other over had = subst (λ o. IsTrue (is_until t o)) (sym (get-remove name_cmp_total places name other)) (by_test (name_eq other name) refl) where
  by_test : (same : Bool) → name_eq other name ≡ same → IsTrue (is_until t (cond same None (get places other)))
  by_test true is = absurd (let both : true ≡ false = sym had ∙ ap (λ n. is_until t (get places n)) (name_is other name is) ∙ over in cc)
  by_test false is = had
