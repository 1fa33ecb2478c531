-- Only the laws of the order of values and the models of `Values` and `Fields` cite this: a value as a list of numbers,
-- such that values are ordered as their lists are. A value begins with its kind, each byte and each element with 1,
-- and each list ends with 0: "ab" is 4, 1 97, 1 98, 0.
use Rattle.std.specs.Prelude.{◌≡◌, ℕ, Bool, true, false, cond, ℤ, pos, List, [], ◌∷◌, refl}
use Rattle.std.proofs.Common.{ap, ◌∙◌, arith}
use Rattle.std.proofs.lemmas.Bool.Decides.{nat_tests}
use Rattle.std.specs.Ordering.{bool_cmp, nat_cmp, int_cmp, ordering_then}
use Rattle.std.specs.declared.cmp.Ordering.{Ordering}
use Rattle.std.specs.Cmp.Lexicographic.{slice_cmp}
use Rattle.fs_path.proofs.Orders.{then_assoc}
use Rattle.fs_path.specs.declared.name.DocName.{DocName}
use Rattle.fs_path.specs.TextOrder.{text_cmp, ids_cmp}
use Rattle.fs_path.specs.NameOrder.{name_cmp}
use Rattle.fs_value.specs.Data.{Data, null, boolean, integer, timestamp, string, bytes, reference, array, object, Items, no_items, item, Members, no_members, member}
use Rattle.fs_value.specs.ValueOrder.{value_cmp, items_cmp, members_cmp}

abbrev pub text_in_numbers : List ℕ → List ℤ → List ℤ
text_in_numbers [] rest = pos 0 ∷ rest
text_in_numbers (c ∷ cs) rest = pos 1 ∷ pos c ∷ text_in_numbers cs rest

abbrev pub ids_in_numbers : List (List ℕ) → List ℤ → List ℤ
ids_in_numbers [] rest = pos 0 ∷ rest
ids_in_numbers (s ∷ ss) rest = pos 1 ∷ text_in_numbers s (ids_in_numbers ss rest)

-- a value in front of the rest
abbrev mutual
  pub in_numbers : Data → List ℤ → List ℤ
  in_numbers null rest = pos 0 ∷ rest
  in_numbers (boolean b) rest = pos 1 ∷ pos (cond b 1 0) ∷ rest
  in_numbers (integer n) rest = pos 2 ∷ n ∷ rest
  in_numbers (timestamp t) rest = pos 3 ∷ t ∷ rest
  in_numbers (string s) rest = pos 4 ∷ text_in_numbers s rest
  in_numbers (bytes s) rest = pos 5 ∷ text_in_numbers s rest
  in_numbers (reference n) rest = pos 6 ∷ text_in_numbers n.project (text_in_numbers n.database (ids_in_numbers n.ids rest))
  in_numbers (array ds) rest = pos 7 ∷ items_in_numbers ds rest
  in_numbers (object ms) rest = pos 8 ∷ members_in_numbers ms rest

  pub items_in_numbers : Items → List ℤ → List ℤ
  items_in_numbers no_items rest = pos 0 ∷ rest
  items_in_numbers (item d ds) rest = pos 1 ∷ in_numbers d (items_in_numbers ds rest)

  pub members_in_numbers : Members → List ℤ → List ℤ
  members_in_numbers no_members rest = pos 0 ∷ rest
  members_in_numbers (member k d ms) rest = pos 1 ∷ text_in_numbers k (in_numbers d (members_in_numbers ms rest))

-- ---- the lists are ordered as the values are

abbrev pub numbers_cmp : List ℤ → List ℤ → Ordering
numbers_cmp = slice_cmp int_cmp

pos_cmp : (m n : ℕ) → int_cmp (pos m) (pos n) ≡ nat_cmp m n
pos_cmp m n = grind (arith, nat_tests)

text_numbers_cmp : (s t : List ℕ) (k l : List ℤ) → numbers_cmp (text_in_numbers s k) (text_in_numbers t l) ≡ ordering_then (text_cmp s t) (numbers_cmp k l)
text_numbers_cmp [] [] k l = refl
text_numbers_cmp [] (d ∷ ds) k l = refl
text_numbers_cmp (c ∷ cs) [] k l = refl
text_numbers_cmp (c ∷ cs) (d ∷ ds) k l =
    ap (λ o. ordering_then o (numbers_cmp (text_in_numbers cs k) (text_in_numbers ds l))) (pos_cmp c d)
    ∙ ap (ordering_then (nat_cmp c d)) (text_numbers_cmp cs ds k l)
    ∙ then_assoc (nat_cmp c d) (text_cmp cs ds) (numbers_cmp k l)

ids_numbers_cmp : (s t : List (List ℕ)) (k l : List ℤ) → numbers_cmp (ids_in_numbers s k) (ids_in_numbers t l) ≡ ordering_then (ids_cmp s t) (numbers_cmp k l)
ids_numbers_cmp [] [] k l = refl
ids_numbers_cmp [] (d ∷ ds) k l = refl
ids_numbers_cmp (c ∷ cs) [] k l = refl
ids_numbers_cmp (c ∷ cs) (d ∷ ds) k l =
    text_numbers_cmp c d (ids_in_numbers cs k) (ids_in_numbers ds l)
    ∙ ap (ordering_then (text_cmp c d)) (ids_numbers_cmp cs ds k l)
    ∙ then_assoc (text_cmp c d) (ids_cmp cs ds) (numbers_cmp k l)

name_numbers_cmp : (m n : DocName) (k l : List ℤ)
    → numbers_cmp (text_in_numbers m.project (text_in_numbers m.database (ids_in_numbers m.ids k))) (text_in_numbers n.project (text_in_numbers n.database (ids_in_numbers n.ids l))) ≡ ordering_then (name_cmp m n) (numbers_cmp k l)
name_numbers_cmp m n k l =
    let a = text_cmp m.project n.project in
    let b = text_cmp m.database n.database in
    let c = ids_cmp m.ids n.ids in
    let rest = numbers_cmp k l in
    text_numbers_cmp m.project n.project (text_in_numbers m.database (ids_in_numbers m.ids k)) (text_in_numbers n.database (ids_in_numbers n.ids l))
    ∙ ap (ordering_then a) (text_numbers_cmp m.database n.database (ids_in_numbers m.ids k) (ids_in_numbers n.ids l) ∙ ap (ordering_then b) (ids_numbers_cmp m.ids n.ids k l) ∙ then_assoc b c rest)
    ∙ then_assoc a (ordering_then b c) rest

boolean_numbers_cmp : (a b : Bool) (k l : List ℤ) → numbers_cmp (pos (cond a 1 0) ∷ k) (pos (cond b 1 0) ∷ l) ≡ ordering_then (bool_cmp a b) (numbers_cmp k l)
boolean_numbers_cmp false false k l = refl
boolean_numbers_cmp false true k l = refl
boolean_numbers_cmp true false k l = refl
boolean_numbers_cmp true true k l = refl

mutual
  pub value_numbers_cmp : (a b : Data) (k l : List ℤ) → numbers_cmp (in_numbers a k) (in_numbers b l) ≡ ordering_then (value_cmp a b) (numbers_cmp k l)
  value_numbers_cmp null null k l = refl
  value_numbers_cmp (boolean a) (boolean b) k l = boolean_numbers_cmp a b k l
  value_numbers_cmp (integer a) (integer b) k l = refl
  value_numbers_cmp (timestamp a) (timestamp b) k l = refl
  value_numbers_cmp (string a) (string b) k l = text_numbers_cmp a b k l
  value_numbers_cmp (bytes a) (bytes b) k l = text_numbers_cmp a b k l
  value_numbers_cmp (reference a) (reference b) k l = name_numbers_cmp a b k l
  value_numbers_cmp (array a) (array b) k l = items_numbers_cmp a b k l
  value_numbers_cmp (object a) (object b) k l = members_numbers_cmp a b k l
  value_numbers_cmp a b k l = refl

  pub items_numbers_cmp : (a b : Items) (k l : List ℤ) → numbers_cmp (items_in_numbers a k) (items_in_numbers b l) ≡ ordering_then (items_cmp a b) (numbers_cmp k l)
  items_numbers_cmp no_items no_items k l = refl
  items_numbers_cmp no_items (item b ys) k l = refl
  items_numbers_cmp (item a xs) no_items k l = refl
  items_numbers_cmp (item a xs) (item b ys) k l =
      value_numbers_cmp a b (items_in_numbers xs k) (items_in_numbers ys l)
      ∙ ap (ordering_then (value_cmp a b)) (items_numbers_cmp xs ys k l)
      ∙ then_assoc (value_cmp a b) (items_cmp xs ys) (numbers_cmp k l)

  pub members_numbers_cmp : (a b : Members) (k l : List ℤ) → numbers_cmp (members_in_numbers a k) (members_in_numbers b l) ≡ ordering_then (members_cmp a b) (numbers_cmp k l)
  members_numbers_cmp no_members no_members k l = refl
  members_numbers_cmp no_members (member m b ys) k l = refl
  members_numbers_cmp (member n a xs) no_members k l = refl
  members_numbers_cmp (member n a xs) (member m b ys) k l =
      let c = text_cmp n m in
      let d = value_cmp a b in
      let e = members_cmp xs ys in
      let rest = numbers_cmp k l in
      text_numbers_cmp n m (in_numbers a (members_in_numbers xs k)) (in_numbers b (members_in_numbers ys l))
      ∙ ap (ordering_then c) (value_numbers_cmp a b (members_in_numbers xs k) (members_in_numbers ys l) ∙ ap (ordering_then d) (members_numbers_cmp xs ys k l) ∙ then_assoc d e rest)
      ∙ then_assoc c (ordering_then d e) rest
