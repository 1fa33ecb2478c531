-- A `BTreeMap` as a finite map, at keys in any total order that tells them apart: what its clauses say of its entries is
-- what `get`, `insert` and `remove` say of the map. Its entries in order are the map's, and so are those of any list
-- whose keys rise.
use Rattle.std.specs.Prelude.{◌≡◌, cond, IsTrue, List, [], ◌∷◌, ◌++◌, map, length, Some, None, refl}
use Rattle.std.proofs.Common.{sym, ap, ◌∙◌}
use Rattle.std.specs.Ordering.{eq_by_cmp, ordering_reverse, match_ordering}
use Rattle.std.specs.declared.cmp.Ordering.{Ordering}
use Rattle.std.specs.declared.cmp.Ordering.TheVariants.{Less, Greater}
use Rattle.std.specs.Cmp.{IsTotalOrder, first_so, second_so}
use Rattle.std.specs.List.{AllByRecursion}
use Rattle.std.specs.List.Sorted.{IsStrictlySortedBy}
use Rattle.std.specs.Map.{lookup, keys_of}
use Rattle.std.specs.BTreeMap.{is_at, insert_entry}
use Rattle.std.specs.FinMap.{IsAntisymmetric, from_entries, get, insert, remove, entries, find, put, is_sorted, same_map, get-from_entries, get-insert, get-remove, entries-insert, empty, values, len, len-entries, len-empty}
use Rattle.std.specs.FinMap.Entries.{by_order, below_all}
use Rattle.std.proofs.lemmas.Cmp.{eq_by_cmp_equiv}
use Rattle.std.proofs.lemmas.List.{nil_from_length}
use Rattle.fs_path.proofs.Orders.{less_is}
use Rattle.fs_value.proofs.Rising.{rising_entries}

module _ {K X : Type 0} {R : K → K → Ordering} (o : IsTotalOrder R) where
  lookup-find : (es : List (K × X)) (q : K) → lookup (is_at (R q)) es ≡ find R q es
  lookup-find [] q = refl
  lookup-find (e ∷ es) q = ap (cond (eq_by_cmp R q e.0) (Some e.1)) (lookup-find es q)

  -- what `get` answers
  pub get_tree : (es : List (K × X)) (q : K) → lookup (is_at (R q)) es ≡ get (from_entries {R = R} es) q
  get_tree es q = lookup-find es q ∙ sym (get-from_entries o es q)

  -- what `insert` leaves
  pub insert_tree : IsAntisymmetric R → (es fs : List (K × X)) (k : K) (v : X)
      → ((q : K) → lookup (is_at (R q)) fs ≡ cond (is_at (R k) q) (Some v) (lookup (is_at (R q)) es)) → from_entries {R = R} fs ≡ insert (from_entries es) k v
  insert_tree same es fs k v is =
      same_map o same (from_entries fs) (insert (from_entries es) k v)
      (λ q. sym (get_tree fs q)
      ∙ is q
      ∙ ap (cond (is_at (R k) q) (Some v)) (get_tree es q)
      ∙ ap (λ b. cond b (Some v) (get (from_entries {R = R} es) q)) ((eq_by_cmp_equiv o).symm k q)
      ∙ sym (get-insert o (from_entries es) k v q))

  -- what `remove` leaves
  pub remove_tree : IsAntisymmetric R → (es fs : List (K × X)) (k : K)
      → ((q : K) → lookup (is_at (R q)) fs ≡ cond (is_at (R k) q) None (lookup (is_at (R q)) es)) → from_entries {R = R} fs ≡ remove (from_entries es) k
  remove_tree same es fs k is =
      same_map o same (from_entries fs) (remove (from_entries es) k)
      (λ q. sym (get_tree fs q)
      ∙ is q
      ∙ ap (cond (is_at (R k) q) None) (get_tree es q)
      ∙ ap (λ b. cond b None (get (from_entries {R = R} es) q)) ((eq_by_cmp_equiv o).symm k q)
      ∙ sym (get-remove o (from_entries es) k q))

  put_below : (k : K) (v : X) (es : List (K × X)) → IsTrue (below_all R k es) → put R k v es ≡ (k, v) ∷ es
  put_below k v [] below = refl
  put_below k v (e ∷ es) below = ap (λ r. by_order r ((k, v) ∷ e ∷ es) ((e.0, v) ∷ es) (e ∷ put R k v es)) (less_is _ (first_so _ (below_all R k es) below))

  -- the entries of the map of a list whose keys rise
  pub entries_rising : (es : List (K × X)) → IsTrue (is_sorted R es) → entries (from_entries {R = R} es) ≡ es
  entries_rising [] rise = nil_from_length _ (sym (len-entries (empty {X = X} {R = R})) ∙ len-empty R X)
  entries_rising (e ∷ es) rise =
      entries-insert o (from_entries es) e.0 e.1
      ∙ ap (put R e.0 e.1) (entries_rising es (second_so (below_all R e.0 es) _ rise))
      ∙ put_below e.0 e.1 es (first_so _ (is_sorted R es) rise)

  -- and of an ordered tree
  pub entries_tree : (es : List (K × X)) → IsStrictlySortedBy R (keys_of es) → entries (from_entries {R = R} es) ≡ es
  entries_tree es rise = entries_rising es (rising_entries R es rise)

  -- its values in order
  pub values_tree : (es : List (K × X)) → IsStrictlySortedBy R (keys_of es) → map (λ e. e.1) es ≡ values (from_entries {R = R} es)
  values_tree es rise = ap (map (λ e. e.1)) (sym (entries_tree es rise))

  -- and how many
  pub len_tree : (es : List (K × X)) → IsStrictlySortedBy R (keys_of es) → length es ≡ len (from_entries {R = R} es)
  len_tree es rise = ap length (sym (entries_tree es rise)) ∙ sym (len-entries (from_entries {R = R} es))

  less_than_middle : (k : K) (done : List (K × X)) (e : K × X) (more : List (K × X)) → AllByRecursion (λ l. R k l ≡ Less) (keys_of (done ++ e ∷ more)) → R k e.0 ≡ Less
  less_than_middle k [] e more below = below.0
  less_than_middle k (f ∷ done) e more below = less_than_middle k done e more below.1

  -- an entry whose key is above those before it goes last
  pub insert_last : (done : List (K × X)) (e : K × X) (more : List (K × X)) → IsStrictlySortedBy R (keys_of (done ++ e ∷ more)) → insert_entry R done e.0 e.1 ≡ done ++ e ∷ []
  unfolding IsStrictlySortedBy
  insert_last [] e more rise = refl
  insert_last (f ∷ done) e more rise =
      let above : R e.0 f.0 ≡ Greater = o.antisymm e.0 f.0 ∙ ap ordering_reverse (less_than_middle f.0 done e more rise.0) in
      ap (λ r. match_ordering r ((e.0, e.1) ∷ f ∷ done) ((f.0, e.1) ∷ done) (f ∷ insert_entry R done e.0 e.1)) above ∙ ap (λ es. f ∷ es) (insert_last done e more rise.1)
