-- Documents whose names rise, about a name, from what a search for it answers.
use Rattle.std.proofs.Common.{◌≡◌, ℕ, zero, suc, ◌+◌, ◌<◌, List, [], ◌∷◌, ◌++◌, map, length, take, drop, get_or, Some, None, refl, sym, ap, ◌∙◌, subst, arith}
use Rattle.std.specs.Prelude.{IsTrue}
use Rattle.std.specs.Borrow.{Bor}
use Rattle.std.specs.Cmp.{first_so, second_so}
use Rattle.std.specs.FinMap.{is_sorted}
use Rattle.std.specs.FinMap.Entries.{below_all}
use Rattle.std.specs.List.{AllWithin, HoldsAt}
use Rattle.std.specs.List.Sorted.{IsNonDecreasingBy, IsPartitionPoint}
use Rattle.std.specs.Ordering.{is_lt, ordering_index, ordering_reverse}
use Rattle.std.specs.declared.cmp.Ordering.TheVariants.{Less, Equal, Greater}
use Rattle.std.proofs.lemmas.List.{drop_more, length-map, take-append-drop}
use Rattle.std.proofs.lemmas.List.Sorted.{searchable_from_sorted}
use Rattle.fs_path.specs.NameOrder.{name_cmp, name_cmp_total, name_same}
use Rattle.fs_path.specs.declared.name.DocName.{DocName}
use Rattle.fs_path.proofs.Orders.{less_is}
use Rattle.fs_value.specs.Named.{by_name}
use Rattle.fs_value.specs.declared.document.Document.{Document}
use Rattle.fs_value.proofs.Search.{rising_sorted}
use Rattle.fs_queue.specs.Parted.{AreAbove, AreBelow, IsParted}

-- the documents that are lent
abbrev pub lent : List (Bor Document) → List Document
lent bs = map (λ b. b.now) bs

abbrev pub Rise : List Document → Type 0
Rise ds = IsTrue (is_sorted name_cmp (by_name ds))

-- ---- about one of them

less_within : (k : DocName) (ds : List Document) (d : Document) (more : List Document) → IsTrue (below_all name_cmp k (by_name (ds ++ d ∷ more))) → name_cmp k d.name ≡ Less
less_within k [] d more below = less_is _ (first_so _ (below_all name_cmp k (by_name more)) below)
less_within k (e ∷ ds) d more below = less_within k ds d more (second_so (is_lt (name_cmp k e.name)) _ below)

all_above : (k : DocName) (ds : List Document) → IsTrue (below_all name_cmp k (by_name ds)) → AreAbove k ds
all_above k [] below = tt
all_above k (d ∷ ds) below = (
  less_is _ (first_so _ (below_all name_cmp k (by_name ds)) below),
  all_above k ds (second_so (is_lt (name_cmp k d.name)) _ below),
)

front_below : (ds : List Document) (d : Document) (more : List Document) → Rise (ds ++ d ∷ more) → AreBelow d.name ds
front_below [] d more rise = tt
front_below (e ∷ ds) d more rise = (
  less_within e.name ds d more (first_so _ (is_sorted name_cmp (by_name (ds ++ d ∷ more))) rise),
  front_below ds d more (second_so (below_all name_cmp e.name (by_name (ds ++ d ∷ more))) _ rise),
)

back_above : (ds : List Document) (d : Document) (more : List Document) → Rise (ds ++ d ∷ more) → AreAbove d.name more
back_above [] d more rise = all_above d.name more (first_so _ (is_sorted name_cmp (by_name more)) rise)
back_above (e ∷ ds) d more rise = back_above ds d more (second_so (below_all name_cmp e.name (by_name (ds ++ d ∷ more))) _ rise)

module _ (name : DocName) where
  at_one : (ds : List Document) (i : ℕ) (d : Document) → Rise ds → i < length ds → name_cmp (get_or ds i d).name name ≡ Equal → IsParted name ds i (i + 1)
  at_one ds i d rise within ties =
      let one = get_or ds i d in
      let split : ds ≡ take i ds ++ one ∷ drop (i + 1) ds = sym (take-append-drop i ds) ∙ ap (λ xs. take i ds ++ xs) (drop_more ds i d within) in
      let apart = subst Rise split rise in
      let same : one.name ≡ name = name_same one.name name ties in
      record {
        there = Some one;
        bears = same;
        whole = split;
        are_below = subst (λ n. AreBelow n (take i ds)) same (front_below (take i ds) one (drop (i + 1) ds) apart);
        are_above = subst (λ n. AreAbove n (drop (i + 1) ds)) same (back_above (take i ds) one (drop (i + 1) ds) apart);
      }

  tied : (bs : List (Bor Document)) (i : ℕ) (d : Document) → i < length bs → HoldsAt (λ b. name_cmp b.now.name name ≡ Equal) bs i → name_cmp (get_or (lent bs) i d).name name ≡ Equal
  tied [] i d within ties = absurd (omega arith)
  tied (b ∷ bs) zero d within ties = ties b
  tied (b ∷ bs) (suc i) d within ties = tied bs i d (omega arith) ties

  pub found : (bs : List (Bor Document)) (i : ℕ) → Rise (lent bs) → i < length bs → HoldsAt (λ b. name_cmp b.now.name name ≡ Equal) bs i → IsParted name (lent bs) i (i + 1)
  found [] i rise within ties = absurd (omega arith)
  found (b ∷ bs) i rise within ties = at_one (lent (b ∷ bs)) i b.now rise (omega (arith, length-map (b ∷ bs) (λ (x : Bor Document). x.now))) (tied (b ∷ bs) i b.now within ties)

  -- ---- between two of them

  front_by : (bs : List (Bor Document)) (i : ℕ) → AllWithin (λ b. name_cmp b.now.name name ≡ Less) bs 0 i → AreBelow name (take i (lent bs))
  front_by [] zero less = tt
  front_by [] (suc i) less = tt
  front_by (b ∷ bs) zero less = tt
  front_by (b ∷ bs) (suc i) less = (less 0 b (omega arith) (omega arith), front_by bs i (λ k e low high. less (suc k) e (omega arith) (omega arith)))

  turned : (n : DocName) → name_cmp n name ≡ Greater → name_cmp name n ≡ Less
  turned n greater = name_cmp_total.antisymm name n ∙ ap ordering_reverse greater

  back_by : (bs : List (Bor Document)) (i : ℕ) → AllWithin (λ b. name_cmp b.now.name name ≡ Greater) bs i (length bs) → AreAbove name (drop i (lent bs))
  back_by [] zero greater = tt
  back_by [] (suc i) greater = tt
  back_by (b ∷ bs) zero greater = (turned b.now.name (greater 0 b (omega arith) (omega arith)), back_by bs zero (λ k e low high. greater (suc k) e (omega arith) (omega arith)))
  back_by (b ∷ bs) (suc i) greater = back_by bs i (λ k e low high. greater (suc k) e (omega arith) (omega arith))

  by_name_lent : (bs : List (Bor Document)) → map (λ (b : Bor Document). (b.now.name, b.now)) bs ≡ by_name (lent bs)
  by_name_lent [] = refl
  by_name_lent (b ∷ bs) = ap (λ es. (b.now.name, b.now) ∷ es) (by_name_lent bs)

  pub missed : (bs : List (Bor Document)) (i : ℕ) → Rise (lent bs)
      → (IsNonDecreasingBy (λ b. ordering_index (name_cmp b.now.name name)) bs → IsPartitionPoint (λ b. name_cmp b.now.name name ≡ Less) (λ b. name_cmp b.now.name name ≡ Greater) bs i)
      → IsParted name (lent bs) i i
  missed bs i rise apart =
      let sorted = rising_sorted name_cmp (λ (b : Bor Document). (b.now.name, b.now)) name_cmp_total bs (subst (λ es. IsTrue (is_sorted name_cmp es)) (sym (by_name_lent bs)) rise) in
      let parts = apart (searchable_from_sorted name_cmp_total (λ (b : Bor Document). b.now.name) bs name sorted) in
      record {
        there = None;
        bears = tt;
        whole = sym (take-append-drop i (lent bs));
        are_below = front_by bs i parts.0;
        are_above = back_by bs i parts.1;
      }
