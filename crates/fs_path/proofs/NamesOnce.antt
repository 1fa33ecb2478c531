-- Names in their order, each once: they are those of the list that they came from.
use Rattle.std.proofs.Common.{◌≡◌, ℕ, ◌+◌, ◌<◌, Bool, true, false, ◌||◌, List, [], ◌∷◌, map, length, drop, get_or, refl, sym, ap, ◌∙◌}
use Rattle.std.specs.Borrow.{Bor}
use Rattle.std.specs.BTreeSet.{insert_key}
use Rattle.std.specs.List.{AllByRecursion, list_any}
use Rattle.std.specs.List.Sorted.{IsStrictlySortedBy}
use Rattle.std.specs.Ordering.{match_ordering}
use Rattle.std.specs.declared.cmp.Ordering.{Ordering}
use Rattle.std.specs.declared.cmp.Ordering.TheVariants.{Less, Equal, Greater}
use Rattle.std.proofs.lemmas.List.{drop_more}
use Rattle.fs_path.specs.NameOrder.{name_cmp, name_eq, name_same}
use Rattle.fs_path.specs.declared.name.DocName.{DocName}

-- the names that are lent
abbrev pub names_at : List (Bor DocName) → List DocName
names_at lent = map (λ n. n.now) lent

abbrev pub lent_cmp : Bor DocName → Bor DocName → Ordering
lent_cmp m n = name_cmp m.now n.now

twice : (a b : Bool) → (a || b) ≡ (a || (a || b))
twice true b = refl
twice false b = refl

exchanged : (a b c : Bool) → (a || (b || c)) ≡ (b || (a || c))
exchanged true true c = refl
exchanged true false c = refl
exchanged false b c = refl

module _ (q : DocName) where
  abbrev pub is_named : List DocName → Bool
  is_named names = list_any (name_eq q) names

  named_put : (ns : List (Bor DocName)) (n : Bor DocName) → is_named (names_at (insert_key lent_cmp ns n)) ≡ (name_eq q n.now || is_named (names_at ns))
  named_put [] n = refl
  named_put (m ∷ ns) n = by_order (name_cmp n.now m.now) refl (named_put ns n) where
    by_order : (o : Ordering) → name_cmp n.now m.now ≡ o → is_named (names_at (insert_key lent_cmp ns n)) ≡ (name_eq q n.now || is_named (names_at ns))
        → is_named (names_at (match_ordering o (n ∷ m ∷ ns) (m ∷ ns) (m ∷ insert_key lent_cmp ns n))) ≡ (name_eq q n.now || (name_eq q m.now || is_named (names_at ns)))
    by_order Less is rest = refl
    by_order Equal is rest =
        twice (name_eq q m.now) (is_named (names_at ns))
        ∙ ap (λ name. name_eq q name || (name_eq q m.now || is_named (names_at ns))) (sym (name_same n.now m.now is))
    by_order Greater is rest =
        ap (λ b. name_eq q m.now || b) rest ∙ exchanged (name_eq q m.now) (name_eq q n.now) (is_named (names_at ns))

  turn : (a b c : Bool) → ((a || b) || c) ≡ (b || (a || c))
  turn true true c = refl
  turn true false c = refl
  turn false b c = refl

  -- with one more of a list
  pub named_next : (all : List DocName) (i : ℕ) (ns : List (Bor DocName)) (n : Bor DocName) → i < length all → n.now ≡ get_or all i n.now
      → (is_named (names_at ns) || is_named (drop i all)) ≡ is_named all → (is_named (names_at (insert_key lent_cmp ns n)) || is_named (drop (i + 1) all)) ≡ is_named all
  named_next all i ns n within is before =
      ap (λ b. b || is_named (drop (i + 1) all)) (named_put ns n)
      ∙ turn (name_eq q n.now) (is_named (names_at ns)) (is_named (drop (i + 1) all))
      ∙ ap (λ names. is_named (names_at ns) || is_named names) (sym (drop_more all i n.now within ∙ ap (λ name. name ∷ drop (i + 1) all) (sym is)))
      ∙ before

-- the order of what is lent is that of the names
pub rise_lent : (ns : List (Bor DocName)) → IsStrictlySortedBy lent_cmp ns → IsStrictlySortedBy name_cmp (names_at ns)
unfolding IsStrictlySortedBy
rise_lent [] rise = tt
rise_lent (n ∷ ns) rise = (below ns rise.0, rise_lent ns rise.1) where
  below : (ms : List (Bor DocName)) → AllByRecursion (λ m. lent_cmp n m ≡ Less) ms → AllByRecursion (λ name. name_cmp n.now name ≡ Less) (names_at ms)
  below [] all = tt
  below (m ∷ ms) all = (all.0, below ms all.1)
