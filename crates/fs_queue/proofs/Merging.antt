-- Documents in the order of names, with what is left in place of those that are written: a name more.
use Rattle.std.proofs.Common.{◌≡◌, ℕ, ◌+◌, ◌-◌, Bool, true, false, cond, List, [], ◌∷◌, ◌++◌, map, length, take, drop, Option, Some, None, refl, sym, ap, ◌∙◌, subst}
use Rattle.std.specs.Prelude.{IsTrue}
use Rattle.std.specs.Borrow.{Bor}
use Rattle.std.specs.Cmp.{second_so}
use Rattle.std.specs.FinMap.{entries, entries_sorted, find, get-entries, is_sorted, values}
use Rattle.std.specs.FinMap.{get}
use Rattle.std.specs.FinMap.Entries.{below_all, same_entries}
use Rattle.std.specs.List.{AllByRecursion}
use Rattle.std.specs.List.Sorted.{IsStrictlySortedBy}
use Rattle.std.specs.Map.{keys_of}
use Rattle.std.specs.Option.{option_to_list}
use Rattle.std.specs.Ordering.{is_eq, is_lt}
use Rattle.std.specs.declared.cmp.Ordering.TheVariants.{Less, Equal}
use Rattle.std.proofs.lemmas.Bool.{and_from, and_parts}
use Rattle.std.proofs.lemmas.Cmp.{tied_itself}
use Rattle.std.proofs.lemmas.List.{append_assoc, drop-drop, drop-map, map-append, take-map, take_rest}
use Rattle.fs_path.specs.NameOrder.{name_cmp, name_cmp_total, name_eq, name_is, name_itself, name_same}
use Rattle.fs_path.specs.declared.name.DocName.{DocName}
use Rattle.fs_path.proofs.Bools.{from_true}
use Rattle.fs_value.specs.Named.{by_name}
use Rattle.fs_value.specs.declared.document.Document.{Document}
use Rattle.fs_write.specs.Batch.{Bears, Docs}
use Rattle.fs_queue.specs.Overlay.{laid}
use Rattle.fs_queue.specs.Parted.{AreAbove, AreBelow, IsParted}
use Rattle.fs_queue.proofs.Parting.{Rise, lent}

abbrev Entries : Type 0
Entries = List (DocName × Option Document)

-- ---- another document at a name, or none

none_above : (name : DocName) (ds : List Document) → AreAbove name ds → find name_cmp name (by_name ds) ≡ None
none_above name [] above = refl
none_above name (d ∷ ds) above = ap (λ r. cond (is_eq r) (Some d) (find name_cmp name (by_name ds))) above.0 ∙ none_above name ds above.1

all_below : (name : DocName) (ds : List Document) → AreAbove name ds → IsTrue (below_all name_cmp name (by_name ds))
all_below name [] above = refl
all_below name (d ∷ ds) above = and_from (is_lt (name_cmp name d.name)) _ (ap is_lt above.0) (all_below name ds above.1)

module _ (name : DocName) (above : List Document) (are_above : AreAbove name above) where
  -- those in front, the one at the name, and those behind
  abbrev with_one : List Document → Option Document → List Document
  with_one front o = front ++ (option_to_list o ++ above)

  find_first : (q : DocName) (o : Option Document) → Bears o name → find name_cmp q (by_name (with_one [] o)) ≡ cond (name_eq q name) o (find name_cmp q (by_name above))
  find_first q (Some d) bears = ap (λ n. cond (name_eq q n) (Some d) (find name_cmp q (by_name above))) bears
  find_first q None bears = by_test (name_eq q name) refl where
    by_test : (b : Bool) → name_eq q name ≡ b → find name_cmp q (by_name above) ≡ cond b None (find name_cmp q (by_name above))
    by_test true ties = ap (λ n. find name_cmp n (by_name above)) (name_is q name ties) ∙ none_above name above are_above
    by_test false ties = refl

  module _ (o there : Option Document) (bears : Bears o name) (was : Bears there name) where
    find_put : (q : DocName) (front : List Document) → AreBelow name front
        → find name_cmp q (by_name (with_one front o)) ≡ cond (name_eq q name) o (find name_cmp q (by_name (with_one front there)))
    find_put q [] below =
        find_first q o bears
        ∙ shadowed (name_eq q name) (find name_cmp q (by_name above))
        ∙ ap (cond (name_eq q name) o) (sym (find_first q there was)) where
          shadowed : (b : Bool) (rest : Option Document) → cond b o rest ≡ cond b o (cond b there rest)
          shadowed true rest = refl
          shadowed false rest = refl
    find_put q (d ∷ front) below =
        ap (cond (name_eq q d.name) (Some d)) (find_put q front below.1)
        ∙ turned (name_eq q d.name) (name_eq q name) refl refl (find name_cmp q (by_name (with_one front there))) where
          turned : (a b : Bool) → name_eq q d.name ≡ a → name_eq q name ≡ b → (rest : Option Document) → cond a (Some d) (cond b o rest) ≡ cond b o (cond a (Some d) rest)
          turned true true ties same rest =
              let one : d.name ≡ name = sym (name_is q d.name ties) ∙ name_is q name same in
              let both : Equal ≡ Less = sym (tied_itself name_cmp_total name) ∙ ap (λ n. name_cmp n name) (sym one) ∙ below.0 in
              absurd (cc)
          turned true false ties same rest = refl
          turned false b ties same rest = refl

    below_put : (k : DocName) (front : List Document) → name_cmp k name ≡ Less → IsTrue (below_all name_cmp k (by_name (with_one front there))) → IsTrue (below_all name_cmp k (by_name (with_one front o)))
    below_put k [] less below = one_more o bears (rest there below) where
      rest : (p : Option Document) → IsTrue (below_all name_cmp k (by_name (with_one [] p))) → IsTrue (below_all name_cmp k (by_name above))
      rest None all = all
      rest (Some d) all = second_so (is_lt (name_cmp k d.name)) _ all

      one_more : (p : Option Document) → Bears p name → IsTrue (below_all name_cmp k (by_name above)) → IsTrue (below_all name_cmp k (by_name (with_one [] p)))
      one_more None named all = all
      one_more (Some d) named all = and_from (is_lt (name_cmp k d.name)) _ (ap (λ n. is_lt (name_cmp k n)) named ∙ ap is_lt less) all
    below_put k (d ∷ front) less below =
        let both = and_parts (is_lt (name_cmp k d.name)) (below_all name_cmp k (by_name (with_one front there))) below in
        and_from (is_lt (name_cmp k d.name)) _ both.0 (below_put k front less both.1)

    rise_put : (front : List Document) → AreBelow name front → Rise (with_one front there) → Rise (with_one front o)
    rise_put [] below rise = one_more o bears (rest there rise) where
      rest : (p : Option Document) → Rise (with_one [] p) → Rise above
      rest None all = all
      rest (Some d) all = second_so (below_all name_cmp d.name (by_name above)) _ all

      one_more : (p : Option Document) → Bears p name → Rise above → Rise (with_one [] p)
      one_more None named all = all
      one_more (Some d) named all =
          and_from (below_all name_cmp d.name (by_name above)) _ (subst (λ n. IsTrue (below_all name_cmp n (by_name above))) (sym named) (all_below name above are_above)) all
    rise_put (d ∷ front) below rise =
        let both = and_parts (below_all name_cmp d.name (by_name (with_one front there))) (is_sorted name_cmp (by_name (with_one front there))) rise in
        and_from (below_all name_cmp d.name (by_name (with_one front o))) _ (below_put d.name front below.0 both.0) (rise_put front below.1 both.1)

-- ---- what is left, one name after another

none_later : (k : DocName) (es : Entries) → AllByRecursion (λ l. name_cmp k l ≡ Less) (keys_of es) → find name_cmp k es ≡ None
none_later k [] later = refl
none_later k (e ∷ es) later = ap (λ r. cond (is_eq r) (Some e.1) (find name_cmp k es)) later.0 ∙ none_later k es later.1

-- The documents so far and the rest of them, in which what is left at the names to come stands for what is there, are what they are to be.
pub record Merges (docs : List Document) (all to_come : Entries) (shown rest : List Document) : Type 0 where
  pub rise : Rise (shown ++ rest)
  pub shows : (q : DocName) → laid (find name_cmp q to_come) (find name_cmp q (by_name (shown ++ rest))) ≡ laid (find name_cmp q all) (find name_cmp q (by_name docs))
  pub below : AllByRecursion (λ k. AreBelow k shown) (keys_of to_come)
  pub names_rise : IsStrictlySortedBy name_cmp (keys_of to_come)
  pub borne : AllByRecursion (λ (e : DocName × Option Document). Bears e.1 e.0) to_come

each_borne : (es : Entries) → IsStrictlySortedBy name_cmp (keys_of es) → ((q : DocName) → Bears (laid (find name_cmp q es) None) q) → AllByRecursion (λ (e : DocName × Option Document). Bears e.1 e.0) es
unfolding IsStrictlySortedBy
each_borne [] rise borne = tt
each_borne (e ∷ es) rise borne = (
  subst (λ b. Bears (laid (cond b (Some e.1) (find name_cmp e.0 es)) None) e.0) (name_itself e.0) (borne e.0),
  each_borne es rise.1 (λ q. later q (name_eq q e.0) refl (borne q)),
) where
  later : (q : DocName) (b : Bool) → name_eq q e.0 ≡ b → Bears (laid (cond b (Some e.1) (find name_cmp q es)) None) q → Bears (laid (find name_cmp q es) None) q
  later q true ties bears = subst (λ o. Bears (laid o None) q) (sym (ap (λ n. find name_cmp n es) (name_is q e.0 ties) ∙ none_later e.0 es rise.0)) tt
  later q false ties bears = bears

pub begun : (docs : List Document) (all : Entries) → Rise docs → IsStrictlySortedBy name_cmp (keys_of all) → ((q : DocName) → Bears (laid (find name_cmp q all) None) q) → Merges docs all all [] docs
begun docs all rise names_rise borne = record {
  rise = rise;
  shows = λ q. refl;
  below = none_shown (keys_of all);
  names_rise = names_rise;
  borne = each_borne all names_rise borne;
} where
  none_shown : (ks : List DocName) → AllByRecursion (λ k. AreBelow k []) ks
  none_shown [] = tt
  none_shown (k ∷ ks) = (tt, none_shown ks)

both_below : (k : DocName) (xs ys : List Document) → AreBelow k xs → AreBelow k ys → AreBelow k (xs ++ ys)
both_below k [] ys first second = second
both_below k (x ∷ xs) ys first second = (first.0, both_below k xs ys first.1 second)

below_later : (k l : DocName) (xs : List Document) → name_cmp k l ≡ Less → AreBelow k xs → AreBelow l xs
below_later k l [] less below = tt
below_later k l (x ∷ xs) less below = (name_cmp_total.trans x.name k l below.0 less, below_later k l xs less below.1)

one_below : (k l : DocName) (o : Option Document) → Bears o k → name_cmp k l ≡ Less → AreBelow l (option_to_list o)
one_below k l None bears less = tt
one_below k l (Some d) bears less = (ap (λ n. name_cmp n l) bears ∙ less, tt)

module _ (docs : List Document) (all : Entries) (e : DocName × Option Document) (es : Entries) (shown rest : List Document) (below passed : ℕ) (so_far : Merges docs all (e ∷ es) shown rest) (parted : IsParted e.0 rest below passed) where
  abbrev front : List Document
  front = shown ++ take below rest

  abbrev then : List Document
  then = front ++ option_to_list e.1

  front_below : AreBelow e.0 front
  front_below = both_below e.0 shown (take below rest) so_far.below.0 parted.are_below

  was : shown ++ rest ≡ front ++ (option_to_list parted.there ++ drop passed rest)
  was = ap (λ xs. shown ++ xs) parted.whole ∙ sym (append_assoc shown (take below rest) (option_to_list parted.there ++ drop passed rest))

  is : then ++ drop passed rest ≡ front ++ (option_to_list e.1 ++ drop passed rest)
  is = append_assoc front (option_to_list e.1) (drop passed rest)

  found : (q : DocName) → find name_cmp q (by_name (then ++ drop passed rest)) ≡ cond (name_eq q e.0) e.1 (find name_cmp q (by_name (shown ++ rest)))
  found q =
      ap (λ xs. find name_cmp q (by_name xs)) is
      ∙ find_put e.0 (drop passed rest) parted.are_above e.1 parted.there so_far.borne.0 parted.bears q front front_below
      ∙ ap (λ xs. cond (name_eq q e.0) e.1 (find name_cmp q (by_name xs))) (sym was)

  all_later : (ks : List DocName) → AllByRecursion (λ l. name_cmp e.0 l ≡ Less) ks → AllByRecursion (λ l. AreBelow l then) ks
  all_later [] later = tt
  all_later (l ∷ ks) later = (
    both_below l front (option_to_list e.1) (below_later e.0 l front later.0 front_below) (one_below e.0 l e.1 so_far.borne.0 later.0),
    all_later ks later.1,
  )

  pub merged : Merges docs all es then (drop passed rest)
  unfolding IsStrictlySortedBy
  merged = record {
    rise = subst Rise (sym is) (rise_put e.0 (drop passed rest) parted.are_above e.1 parted.there so_far.borne.0 parted.bears front front_below (subst Rise was so_far.rise));
    shows = λ q. ap (laid (find name_cmp q es)) (found q) ∙ here q (name_eq q e.0) refl (find name_cmp q (by_name (shown ++ rest))) ∙ so_far.shows q;
    below = all_later (keys_of es) so_far.names_rise.0;
    names_rise = so_far.names_rise.1;
    borne = so_far.borne.1;
  } where
    here : (q : DocName) (b : Bool) → name_eq q e.0 ≡ b → (there : Option Document) → laid (find name_cmp q es) (cond b e.1 there) ≡ laid (cond b (Some e.1) (find name_cmp q es)) there
    here q true ties there = ap (λ o. laid o e.1) (ap (λ n. find name_cmp n es) (name_is q e.0 ties) ∙ none_later e.0 es so_far.names_rise.0)
    here q false ties there = refl

-- the same of documents that are lent, of which those from a place on are left
pub lent_more : (docs shown front one then : List (Bor Document)) (all to_come es : Entries) (k : DocName) (o : Option Document) (from below passed : ℕ) → to_come ≡ (k, o) ∷ es
    → Merges (lent docs) all to_come (lent shown) (lent (drop from docs)) → IsParted k (lent (take (length docs - from) (drop from docs))) below passed
    → front ≡ shown ++ take below (take (length docs - from) (drop from docs)) → then ≡ front ++ one → lent one ≡ option_to_list o
    → Merges (lent docs) all es (lent then) (lent (drop (from + passed) docs))
lent_more docs shown front one then all to_come es k o from below passed first so_far parted before is left =
    let rest = drop from docs in
    let front_is : front ≡ shown ++ take below rest = before ∙ ap (λ xs. shown ++ take below xs) (take_rest docs from) in
    let shown_is : lent then ≡ (lent shown ++ take below (lent rest)) ++ option_to_list o =
    ap lent (is ∙ ap (λ xs. xs ++ one) front_is)
    ∙ map-append (λ (b : Bor Document). b.now) (shown ++ take below rest) one
    ∙ (λ i. map-append (λ (b : Bor Document). b.now) shown (take below rest) i ++ left i)
    ∙ ap (λ xs. (lent shown ++ xs) ++ option_to_list o) (sym (take-map (λ (b : Bor Document). b.now) below rest)) in
    let rest_is : drop passed (lent rest) ≡ lent (drop (from + passed) docs) = drop-map (λ (b : Bor Document). b.now) passed rest ∙ ap lent (drop-drop passed from docs) in
    subst (Merges (lent docs) all es (lent then)) rest_is
    (subst (λ xs. Merges (lent docs) all es xs (drop passed (lent rest))) (sym shown_is)
    (merged (lent docs) all (k, o) es (lent shown) (lent rest) below passed
    (subst (λ xs. Merges (lent docs) all xs (lent shown) (lent rest)) first so_far)
    (subst (λ xs. IsParted k (lent xs) below passed) (take_rest docs from) parted)))

pub rise_back : (xs ys : List Document) → Rise (xs ++ ys) → Rise ys
rise_back [] ys rise = rise
rise_back (x ∷ xs) ys rise = rise_back xs ys (second_so (below_all name_cmp x.name (by_name (xs ++ ys))) _ rise)

-- ---- and those of all names

again : (ds : List Document) → map (λ (e : DocName × Document). e.1) (by_name ds) ≡ ds
again [] = refl
again (d ∷ ds) = ap (λ xs. d ∷ xs) (again ds)

pub all_merged : (docs shown rest : List Document) (all : Entries) (after : Docs) → Merges docs all [] shown rest
    → ((q : DocName) → laid (find name_cmp q all) (find name_cmp q (by_name docs)) ≡ get after q) → shown ++ rest ≡ values after
all_merged docs shown rest all after done is =
    sym (again (shown ++ rest))
    ∙ ap (map (λ (e : DocName × Document). e.1))
    (same_entries name_cmp name_cmp_total name_same (by_name (shown ++ rest)) (entries after) (from_true _ done.rise) (entries_sorted after)
    (λ q. done.shows q ∙ is q ∙ get-entries after q))
