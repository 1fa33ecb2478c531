-- Texts and bytes go by bytes, as Firestore orders strings and bytes: the first byte that differs decides, and a
-- text that begins another comes first. Lists of texts, as the ids of a path, go the same way, text by text.
use Rattle.std.specs.Prelude.{◌≡◌, ℕ, List, Bool, true, refl, nat_eq}
use Rattle.std.specs.Ordering.{nat_cmp, eq_by_cmp, as_partial_cmp}
use Rattle.std.specs.declared.cmp.Ordering.{Ordering}
use Rattle.std.specs.declared.cmp.Ordering.TheVariants.{Equal}
use Rattle.std.specs.Cmp.{Equal-is, IsTotalOrder, IsEquivalence, IsPartialEquivalence, IsPartialOrder, partial_order_from_agreeing_total, partial_equiv_from_equiv}
use Rattle.std.specs.Cmp.Lexicographic.{slice_cmp, pointwise, lists_total, lists_equiv, lists_ties, nat_list_cmp_total, nat_list_eq_equiv, texts_ties}
use Rattle.std.proofs.lemmas.Cmp.{tied_itself}
use Rattle.std.proofs.lemmas.Slice.Eq.{bytes_eq-Decides}
use Rattle.std.specs.FinMap.{slice_cmp-IsAntisymmetric, nat_cmp-IsAntisymmetric}

abbrev pub text_cmp : List ℕ → List ℕ → Ordering
text_cmp = slice_cmp nat_cmp

abbrev pub text_eq : List ℕ → List ℕ → Bool
text_eq = pointwise nat_eq

abbrev pub ids_cmp : List (List ℕ) → List (List ℕ) → Ordering
ids_cmp = slice_cmp text_cmp

abbrev pub ids_eq : List (List ℕ) → List (List ℕ) → Bool
ids_eq = pointwise text_eq

-- ---- the laws of these orders

pub text_cmp_total : IsTotalOrder text_cmp
text_cmp_total = nat_list_cmp_total

pub text_eq_equiv : IsEquivalence text_eq
text_eq_equiv = nat_list_eq_equiv

pub text_eq_partial : IsPartialEquivalence text_eq
text_eq_partial = partial_equiv_from_equiv text_eq_equiv

pub text_ties : (a b : List ℕ) → text_eq a b ≡ eq_by_cmp text_cmp a b
text_ties = texts_ties

-- texts that are told equal are one
pub text_is : (a b : List ℕ) → text_eq a b ≡ true → a ≡ b
text_is a b = (bytes_eq-Decides a b).0

pub text_po : IsPartialOrder text_eq (as_partial_cmp text_cmp)
text_po = partial_order_from_agreeing_total text_cmp text_cmp_total (λ _ _. refl) text_ties

-- texts that compare alike are one
pub text_same : (a b : List ℕ) → text_cmp a b ≡ Equal → a ≡ b
text_same = slice_cmp-IsAntisymmetric nat_cmp-IsAntisymmetric

-- a text is at its own place among keys, and nowhere else
pub text_itself : (a : List ℕ) → eq_by_cmp text_cmp a a ≡ true
text_itself a = (Equal-is _).1 (tied_itself text_cmp_total a)

pub text_alike : (a b : List ℕ) → eq_by_cmp text_cmp a b ≡ true → a ≡ b
text_alike a b ties = text_same a b ((Equal-is _).0 ties)

pub ids_cmp_total : IsTotalOrder ids_cmp
ids_cmp_total = lists_total text_cmp_total

pub ids_eq_equiv : IsEquivalence ids_eq
ids_eq_equiv = lists_equiv text_eq_equiv

pub ids_ties : (a b : List (List ℕ)) → ids_eq a b ≡ eq_by_cmp ids_cmp a b
ids_ties = lists_ties text_cmp text_ties

-- lists of texts that compare alike are one
pub ids_same : (a b : List (List ℕ)) → ids_cmp a b ≡ Equal → a ≡ b
ids_same = slice_cmp-IsAntisymmetric text_same
