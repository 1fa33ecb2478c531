-- The laws of the order of values in other words: of lists of values, and of values that are the same.
use Rattle.std.specs.Prelude.{◌≡◌, ◌↔◌, ℕ, List, [], ◌∷◌, refl}
use Rattle.std.proofs.Common.{sym, ap, ◌∙◌}
use Rattle.std.specs.Ordering.{ordering_then, then_cmp, on}
use Rattle.std.specs.declared.cmp.Ordering.{Ordering}
use Rattle.std.specs.declared.cmp.Ordering.TheVariants.{Equal}
use Rattle.std.specs.Cmp.Lexicographic.{slice_cmp}
use Rattle.std.proofs.lemmas.Cmp.{tied_itself}
use Rattle.fs_path.specs.TextOrder.{text_cmp}
use Rattle.fs_value.specs.Data.{Data, items_of, members_of}
use Rattle.fs_value.specs.ValueOrder.{value_cmp, items_cmp, members_cmp}
use Rattle.fs_value.specs.ValueOrderLaws.{value_cmp_total, value_same}
use Rattle.fs_path.proofs.Orders.{then_assoc}

-- arrays go as lists of values do, and maps as lists of fields, by key and then by value

pub array_cmp : (a b : List Data) → items_cmp (items_of a) (items_of b) ≡ slice_cmp value_cmp a b
array_cmp [] [] = refl
array_cmp [] (y ∷ ys) = refl
array_cmp (x ∷ xs) [] = refl
array_cmp (x ∷ xs) (y ∷ ys) = ap (ordering_then (value_cmp x y)) (array_cmp xs ys)

abbrev pub field_cmp : List ℕ × Data → List ℕ × Data → Ordering
field_cmp = then_cmp (on (λ f. f.0) text_cmp) (on (λ f. f.1) value_cmp)

pub map_cmp : (a b : List (List ℕ × Data)) → members_cmp (members_of a) (members_of b) ≡ slice_cmp field_cmp a b
map_cmp [] [] = refl
map_cmp [] (y ∷ ys) = refl
map_cmp (x ∷ xs) [] = refl
map_cmp (x ∷ xs) (y ∷ ys) =
    then_assoc (text_cmp x.0 y.0) (value_cmp x.1 y.1) (members_cmp (members_of xs) (members_of ys)) ∙ ap (ordering_then (field_cmp x y)) (map_cmp xs ys)

-- values compare as equal exactly where they are the same
pub value_alike : (a b : Data) → (value_cmp a b ≡ Equal) ↔ (a ≡ b)
value_alike a b = (value_same a b, λ e. ap (value_cmp a) (sym e) ∙ tied_itself value_cmp_total a)
