-- Document names go segment by segment: project, database, and then the ids. A name that begins another comes first.
-- (Cloud Firestore documentation, "Data types": references are ordered by path elements.)
use Rattle.std.specs.Prelude.{◌≡◌, ◌↔◌, Bool, true, IsTrue, refl}
use Rattle.std.specs.Hash.{str}
use Rattle.std.specs.declared.cmp.Ordering.{Ordering}
use Rattle.std.specs.declared.cmp.Ordering.TheVariants.{Less, Equal, Greater}
use Rattle.std.specs.Ordering.{ordering_then, then_cmp, on, eq_by_cmp, as_partial_cmp}
use Rattle.std.specs.Cmp.{Equal-is, IsTotalOrder, IsEquivalence, IsPartialEquivalence, IsPartialOrder, partial_equiv_from_equiv, partial_order_from_agreeing_total}
use Rattle.std.proofs.Common.{sym, ap, ◌∙◌}
use Rattle.std.proofs.lemmas.Cmp.{then_total, on_total, eq_by_cmp_equiv, tied_itself}
use Rattle.fs_path.specs.Name.{path_of}
use Rattle.fs_path.specs.declared.name.DocName.{DocName}
use Rattle.fs_path.specs.TextOrder.{text_cmp, ids_cmp, text_cmp_total, text_same, ids_cmp_total, ids_same}

abbrev pub name_cmp : DocName → DocName → Ordering
name_cmp = then_cmp (on (λ n. n.project) text_cmp) (then_cmp (on (λ n. n.database) text_cmp) (on (λ n. n.ids) ids_cmp))

abbrev pub name_eq : DocName → DocName → Bool
name_eq = eq_by_cmp name_cmp

-- ---- the laws of this order

pub name_cmp_total : IsTotalOrder name_cmp
name_cmp_total = then_total (on_total (λ n. n.project) text_cmp_total) (then_total (on_total (λ n. n.database) text_cmp_total) (on_total (λ n. n.ids) ids_cmp_total))

-- where the first decides nothing, the second decides
pub both_equal : (a b : Ordering) → ordering_then a b ≡ Equal → (a ≡ Equal) × (b ≡ Equal)
both_equal Less b h = (h, absurd (cc))
both_equal Equal b h = (refl, h)
both_equal Greater b h = (h, absurd (cc))

-- names that compare alike are one
pub name_same : (a b : DocName) → name_cmp a b ≡ Equal → a ≡ b
name_same a b h =
    let first = both_equal (text_cmp a.project b.project) (ordering_then (text_cmp a.database b.database) (ids_cmp a.ids b.ids)) h in
    let rest = both_equal (text_cmp a.database b.database) (ids_cmp a.ids b.ids) first.1 in
    λ i. record { project = text_same a.project b.project first.0 i; database = text_same a.database b.database rest.0 i; ids = ids_same a.ids b.ids rest.1 i }

pub name_eq_equiv : IsEquivalence name_eq
name_eq_equiv = eq_by_cmp_equiv name_cmp_total

pub name_eq_partial : IsPartialEquivalence name_eq
name_eq_partial = partial_equiv_from_equiv name_eq_equiv

pub name_po : IsPartialOrder name_eq (as_partial_cmp name_cmp)
name_po = partial_order_from_agreeing_total name_cmp name_cmp_total (λ _ _. refl) (λ _ _. refl)

-- equal names feed a hasher alike
pub name_hashed_alike : (a b : DocName) → name_eq a b ≡ true → str (path_of a) ≡ str (path_of b)
name_hashed_alike a b same = λ i. str (path_of (name_same a b ((Equal-is _).0 same) i))

-- a name is at its own place, and nowhere else
pub name_itself : (a : DocName) → name_eq a a ≡ true
name_itself a = (Equal-is _).1 (tied_itself name_cmp_total a)

pub name_is : (a b : DocName) → name_eq a b ≡ true → a ≡ b
name_is a b ties = name_same a b ((Equal-is _).0 ties)

-- names are the same where the test says so
pub name_test : (a b : DocName) (r : Bool) → r ≡ name_eq a b → IsTrue r ↔ (a ≡ b)
name_test a b r is = (
  λ same. name_is a b (sym is ∙ same),
  λ same. is ∙ ap (name_eq a) (sym same) ∙ name_itself a,
)
