-- The laws of the order of values that others cite: it is total, and only equal values compare as equal.
use Rattle.std.specs.Prelude.{◌≡◌, Bool, true, false, [], refl}
use Rattle.std.proofs.Common.{ap, ◌∙◌, subst}
use Rattle.std.specs.Ordering.{bool_cmp, ordering_then}
use Rattle.std.specs.declared.cmp.Ordering.{Ordering}
use Rattle.std.specs.declared.cmp.Ordering.TheVariants.{Less, Equal, Greater}
use Rattle.std.specs.Cmp.{IsTotalOrder}
use Rattle.std.specs.Cmp.Lexicographic.{lists_total}
use Rattle.std.specs.FinMap.{int_cmp-IsAntisymmetric}
use Rattle.std.proofs.lemmas.Cmp.{on_total, int_cmp_total}
use Rattle.fs_path.specs.TextOrder.{text_cmp, text_same}
use Rattle.fs_path.specs.NameOrder.{name_same, both_equal}
use Rattle.fs_value.specs.Data.{Data, null, boolean, integer, timestamp, string, bytes, reference, array, object, Items, no_items, item, Members, no_members, member}
use Rattle.fs_value.specs.ValueOrder.{value_cmp, items_cmp, members_cmp}
use Rattle.fs_value.specs.Numbers.{in_numbers, value_numbers_cmp}

pub then_Equal : (o : Ordering) → ordering_then o Equal ≡ o
then_Equal Less = refl
then_Equal Equal = refl
then_Equal Greater = refl

pub value_cmp_total : IsTotalOrder value_cmp
value_cmp_total =
    subst IsTotalOrder (λ i a b. (value_numbers_cmp a b [] [] ∙ then_Equal (value_cmp a b)) i) (on_total (λ d. in_numbers d []) (lists_total int_cmp_total))

-- values that compare alike are one

boolean_same : (a b : Bool) → bool_cmp a b ≡ Equal → a ≡ b
boolean_same false false e = refl
boolean_same false true e = absurd (cc)
boolean_same true false e = absurd (cc)
boolean_same true true e = refl

mutual
  pub value_same : (a b : Data) → value_cmp a b ≡ Equal → a ≡ b
  value_same null null e = refl
  value_same (boolean a) (boolean b) e = ap boolean (boolean_same a b e)
  value_same (integer a) (integer b) e = ap integer (int_cmp-IsAntisymmetric a b e)
  value_same (timestamp a) (timestamp b) e = ap timestamp (int_cmp-IsAntisymmetric a b e)
  value_same (string a) (string b) e = ap string (text_same a b e)
  value_same (bytes a) (bytes b) e = ap bytes (text_same a b e)
  value_same (reference a) (reference b) e = ap reference (name_same a b e)
  value_same (array a) (array b) e = ap array (items_same a b e)
  value_same (object a) (object b) e = ap object (members_same a b e)
  value_same a b e = absurd (cc)

  pub items_same : (a b : Items) → items_cmp a b ≡ Equal → a ≡ b
  items_same no_items no_items e = refl
  items_same no_items (item b ys) e = absurd (cc)
  items_same (item a xs) no_items e = absurd (cc)
  items_same (item a xs) (item b ys) e =
      let parts = both_equal (value_cmp a b) (items_cmp xs ys) e in
      λ i. item (value_same a b parts.0 i) (items_same xs ys parts.1 i)

  pub members_same : (a b : Members) → members_cmp a b ≡ Equal → a ≡ b
  members_same no_members no_members e = refl
  members_same no_members (member l b ys) e = absurd (cc)
  members_same (member k a xs) no_members e = absurd (cc)
  members_same (member k a xs) (member l b ys) e =
      let parts = both_equal (text_cmp k l) (ordering_then (value_cmp a b) (members_cmp xs ys)) e in
      let rest = both_equal (value_cmp a b) (members_cmp xs ys) parts.1 in
      λ i. member (text_same k l parts.0 i) (value_same a b rest.0 i) (members_same xs ys rest.1 i)
