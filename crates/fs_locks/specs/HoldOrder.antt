-- Holds go by names, and for one name by ids. What is held tells a list of them that is in this order.
use Rattle.std.specs.Prelude.{◌≡◌, ℕ, ◌&&◌, ◌==◌, List, refl}
use Rattle.std.specs.Cmp.{IsTotalOrder, unsigned_tied}
use Rattle.std.specs.FinSet.{contains, from_list, items, contains-from_list, same_set, nat_cmp-IsAntisymmetric}
use Rattle.std.specs.List.{list_any}
use Rattle.std.specs.Ordering.{eq_by_cmp, is_eq, nat_cmp, on, ordering_then, then_cmp}
use Rattle.std.specs.declared.cmp.Ordering.{Ordering}
use Rattle.std.specs.declared.cmp.Ordering.TheVariants.{Less, Equal, Greater}
use Rattle.std.proofs.Common.{sym, ap, ◌∙◌}
use Rattle.std.proofs.lemmas.Cmp.{nat_cmp_total, on_total, then_total}
use Rattle.fs_path.specs.NameOrder.{name_cmp, name_cmp_total, name_eq, name_same, both_equal}
use Rattle.fs_path.specs.declared.name.DocName.{DocName}
use Rattle.fs_locks.specs.Holds.{Hold, is_held}

abbrev pub hold_cmp : Hold → Hold → Ordering
hold_cmp = then_cmp (on (λ h. h.name) name_cmp) (on (λ h. h.id) nat_cmp)

-- in this order, and each once: to sort them so changes nothing
abbrev pub IsCanonical : List Hold → Type 0
IsCanonical holds = items (from_list {R = hold_cmp} holds) ≡ holds

-- ---- the laws of this order

pub hold_cmp_total : IsTotalOrder hold_cmp
hold_cmp_total = then_total (on_total (λ h. h.name) name_cmp_total) (on_total (λ h. h.id) nat_cmp_total)

-- holds that compare alike are one
pub hold_same : (a b : Hold) → hold_cmp a b ≡ Equal → a ≡ b
hold_same a b h =
    let both = both_equal (name_cmp a.name b.name) (nat_cmp a.id b.id) h in
    λ i. record { id = nat_cmp-IsAntisymmetric a.id b.id both.1 i; name = name_same a.name b.name both.0 i }

-- a comparison by two parts ties where both do
pub both_tie : (a b : Ordering) → is_eq (ordering_then a b) ≡ (is_eq a && is_eq b)
both_tie Less b = refl
both_tie Equal b = refl
both_tie Greater b = refl

-- the test of a hold is that of its name and its id
pub hold_test : (i : ℕ) (n : DocName) (h : Hold) → eq_by_cmp hold_cmp (record { id = i; name = n }) h ≡ (name_eq n h.name && i == h.id)
hold_test i n h = both_tie (name_cmp n h.name) (nat_cmp i h.id) ∙ ap (λ b. name_eq n h.name && b) (unsigned_tied i h.id)

-- lists of this order that hold the same are equal
pub same_holds : (a b : List Hold) → IsCanonical a → IsCanonical b → ((i : ℕ) (n : DocName) → is_held a i n ≡ is_held b i n) → a ≡ b
same_holds a b first second same = sym first ∙ ap items (same_set hold_cmp_total hold_same (from_list a) (from_list b) (λ h. in_list a h ∙ same h.id h.name ∙ sym (in_list b h))) ∙ second
  where
    in_list : (hs : List Hold) (h : Hold) → contains (from_list {R = hold_cmp} hs) h ≡ is_held hs h.id h.name
    in_list hs h = contains-from_list hold_cmp_total hs h ∙ ap (λ p. list_any p hs) (λ k g. hold_test h.id h.name g k)
