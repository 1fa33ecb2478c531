-- Laws of `Data`: elements and fields go to lists and back, and how the logic stores a value, as a list of numbers.
use Rattle.std.specs.Prelude.{◌≡◌, ℕ, List, [], ◌∷◌, refl}
use Rattle.std.proofs.Common.{sym, ap, ◌∙◌}
use Rattle.std.specs.Cmp.Lexicographic.{lists_total}
use Rattle.std.proofs.lemmas.Cmp.{int_cmp_total, tied_itself}
use Rattle.std.specs.Coded.{Coded, coded_ℕ, coded_ℤ, coded_list, coded×}
use base.Stored.{coded_via}
use Rattle.fs_value.specs.Data.{Data, Items, no_items, item, Members, no_members, member, items_of, list_of, members_of, fields_of}
use Rattle.fs_value.specs.ValueOrderLaws.{then_Equal, value_same}
use Rattle.fs_value.specs.Numbers.{in_numbers, numbers_cmp, value_numbers_cmp}
use Rattle.fs_value.specs.ValueOrder.{value_cmp}

pub items_of-list_of : (ds : Items) → items_of (list_of ds) ≡ ds
items_of-list_of no_items = refl
items_of-list_of (item d ds) = ap (item d) (items_of-list_of ds)

pub list_of-items_of : (ds : List Data) → list_of (items_of ds) ≡ ds
list_of-items_of [] = refl
list_of-items_of (d ∷ ds) = ap (λ xs. d ∷ xs) (list_of-items_of ds)

pub fields_of-members_of : (fs : List (List ℕ × Data)) → fields_of (members_of fs) ≡ fs
fields_of-members_of [] = refl
fields_of-members_of (f ∷ fs) = ap (λ xs. f ∷ xs) (fields_of-members_of fs)

pub members_of-fields_of : (ms : Members) → members_of (fields_of ms) ≡ ms
members_of-fields_of no_members = refl
members_of-fields_of (member k d ms) = ap (member k d) (members_of-fields_of ms)

-- ---- how the logic stores them

-- a value is told by its numbers
pub in_numbers_inj : (a b : Data) → in_numbers a [] ≡ in_numbers b [] → a ≡ b
in_numbers_inj a b e =
    value_same a b (sym (then_Equal (value_cmp a b)) ∙ sym (value_numbers_cmp a b [] []) ∙ ap (numbers_cmp (in_numbers a [])) (sym e) ∙ tied_itself (lists_total int_cmp_total) (in_numbers a []))

abbrev pub data_code : Coded Data
data_code = coded_via (coded_list coded_ℤ) (λ d. in_numbers d []) in_numbers_inj

abbrev pub data_list_code : Coded (List Data)
data_list_code = coded_list data_code

abbrev pub data_fields_code : Coded (List (List ℕ × Data))
data_fields_code = coded_list (coded× (coded_list coded_ℕ) data_code)
