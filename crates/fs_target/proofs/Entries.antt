-- Entries by rising ids, as the finite maps that contracts see: what a place tells of its id, and what a change at it comes to.
use Rattle.std.proofs.Common.{◌≡◌, ℕ, zero, suc, ◌+◌, ◌<◌, ◌≤◌, Bool, true, false, cond, not, ◌&&◌, List, [], ◌∷◌, map, length, get_or, set, Option, Some, None, Result, Ok, Err, Ordering, Less, Equal, Greater, refl, sym, ap, ◌∙◌, subst, add-one, arith}
use Rattle.std.specs.Prelude.{◌==◌, IsTrue, MatchResult, insert as put_in, nat_lt, slice_get}
use Rattle.std.specs.Cmp.{first_so, second_so}
use Rattle.std.specs.FinMap.{entries, entries-insert, find as found_at, from_entries, get, get-from_entries, get-remove, insert, is_sorted, nat_cmp-IsAntisymmetric, put, remove, same_entries_map, same_map}
use Rattle.std.specs.FinMap.Entries.{below_all, find-where_key, is_sorted-where_key, where_key}
use Rattle.std.specs.List.{AllByRecursion, remove as take_out}
use Rattle.std.specs.List.Sorted.{IsBinarySearchResult, IsSearchInRange}
use Rattle.std.specs.Option.{option_map}
use Rattle.std.specs.Ordering.{eq_by_cmp, is_eq, is_lt, nat_cmp, ordering_reverse}
use Rattle.std.proofs.lemmas.Bool.Decides.{nat_tests}
use Rattle.std.proofs.lemmas.Cmp.{eq_by_cmp_equiv, nat_cmp_total, tied_itself}
use Rattle.std.proofs.lemmas.List.{get_or-map, length-map, map-set}
use Rattle.std.proofs.lemmas.Simd.{map-map}
use Rattle.std.proofs.lemmas.List.Sorted.{searchable_from_sorted}
use Rattle.fs_path.proofs.Bools.{from_true, to_true}
use Rattle.fs_path.proofs.Orders.{less_is}
use Rattle.fs_value.proofs.Places.{map-insert, put-apart, put-tied, put_sorted}
use Rattle.fs_value.proofs.Search.{find-apart, find-tied, rising_sorted}
use Rattle.fs_value.proofs.Tree.{entries_rising}
use Rattle.fs_listen.specs.Listening.{Listened}
use Rattle.fs_listen.proofs.Listed.{other_number}
use Rattle.fs_target.specs.Entries.{IsAbsentAt, IsThereAt, Rises, found, ids_of}
use Rattle.fs_target.specs.Held.{id_after}
use Rattle.fs_target.specs.Seen.{Seen, listed_in, seen}
use Rattle.fs_target.specs.declared.entry.Entry.{Entry}
use Rattle.fs_target.proofs.Each.{each_at, each_of, each_weaker, map_alike}

-- ---- a map of entries

of_put : {X : Type 0} (k : ℕ) (v : X) (es : List (ℕ × X)) → IsTrue (is_sorted nat_cmp es) → from_entries {R = nat_cmp} (put nat_cmp k v es) ≡ insert (from_entries es) k v
of_put k v es rise =
    same_entries_map _ _ (entries_rising nat_cmp_total (put nat_cmp k v es) (put_sorted nat_cmp nat_cmp_total k v es rise)
    ∙ sym (entries-insert nat_cmp_total (from_entries es) k v ∙ ap (put nat_cmp k v) (entries_rising nat_cmp_total es rise)))

-- ---- the entry of an id taken out

module _ {X : Type 0} (k : ℕ) where
  others : List (ℕ × X) → List (ℕ × X)
  others es = where_key nat_cmp (λ q. not (eq_by_cmp nat_cmp k q)) es

  others_next : (e : ℕ × X) (es : List (ℕ × X)) (same : Bool) → eq_by_cmp nat_cmp k e.0 ≡ same → others (e ∷ es) ≡ cond same (others es) (e ∷ others es)
  unfolding others
  others_next e es true is = ap (λ b. cond (not b) (e ∷ others es) (others es)) is
  others_next e es false is = ap (λ b. cond (not b) (e ∷ others es) (others es)) is

  others_above : (es : List (ℕ × X)) → IsTrue (below_all nat_cmp k es) → others es ≡ es
  unfolding others
  others_above [] below = refl
  others_above (e ∷ es) below =
      others_next e es false (ap is_eq (less_is _ (first_so _ (below_all nat_cmp k es) below)))
      ∙ ap (λ fs. e ∷ fs) (others_above es (second_so (is_lt (nat_cmp k e.0)) _ below))

  below_later : (j : ℕ) (es : List (ℕ × X)) (i : ℕ) (d : ℕ × X) → IsTrue (below_all nat_cmp j es) → i < length es → nat_cmp j (get_or es i d).0 ≡ Less
  below_later j [] i d below low = absurd (omega arith)
  below_later j (e ∷ es) zero d below low = less_is _ (first_so _ (below_all nat_cmp j es) below)
  below_later j (e ∷ es) (suc i) d below low = below_later j es i d (second_so (is_lt (nat_cmp j e.0)) _ below) (omega arith)

  others_at : (es : List (ℕ × X)) (i : ℕ) → IsTrue (is_sorted nat_cmp es) → i < length es → ((d : ℕ × X) → (get_or es i d).0 ≡ k) → others es ≡ take_out es i
  others_at [] i rise low is = absurd (omega arith)
  others_at (e ∷ es) zero rise low is =
      others_next e es true (ap (λ q. eq_by_cmp nat_cmp q e.0) (sym (is e)) ∙ ap is_eq (tied_itself nat_cmp_total e.0))
      ∙ others_above es (subst (λ q. IsTrue (below_all nat_cmp q es)) (is e) (first_so _ (is_sorted nat_cmp es) rise))
  others_at (e ∷ es) (suc i) rise low is =
      let below : nat_cmp e.0 k ≡ Less = subst (λ q. nat_cmp e.0 q ≡ Less) (is e) (below_later e.0 es i e (first_so _ (is_sorted nat_cmp es) rise) (omega arith)) in
      others_next e es false (ap is_eq (nat_cmp_total.antisymm k e.0 ∙ ap ordering_reverse below))
      ∙ ap (λ fs. e ∷ fs) (others_at es i (second_so (below_all nat_cmp e.0 es) _ rise) (omega arith) is)

  others_rise : (es : List (ℕ × X)) → IsTrue (is_sorted nat_cmp es) → IsTrue (is_sorted nat_cmp (others es))
  unfolding others
  others_rise es rise = to_true _ (is_sorted-where_key nat_cmp (λ q. not (eq_by_cmp nat_cmp k q)) es (from_true _ rise))

  of_others : (es : List (ℕ × X)) → from_entries {R = nat_cmp} (others es) ≡ remove (from_entries es) k
  unfolding others
  of_others es =
      same_map nat_cmp_total nat_cmp-IsAntisymmetric _ _
      (λ q. get-from_entries nat_cmp_total (others es) q
      ∙ find-where_key nat_cmp (λ x. not (eq_by_cmp nat_cmp k x)) q (λ x ties. ap (λ j. not (eq_by_cmp nat_cmp k j)) (sym (nat_cmp-IsAntisymmetric q x ties))) es
      ∙ turned _ (eq_by_cmp nat_cmp k q)
      ∙ ap (λ b. cond b None (found_at nat_cmp q es)) ((eq_by_cmp_equiv nat_cmp_total).symm k q)
      ∙ ap (cond (eq_by_cmp nat_cmp q k) None) (sym (get-from_entries nat_cmp_total es q))
      ∙ sym (get-remove nat_cmp_total (from_entries es) k q))
    where
      turned : (o : Option X) (b : Bool) → cond (not b) o None ≡ cond b None o
      turned o true = refl
      turned o false = refl

-- ---- tests of ids

lower : (a b : ℕ) → nat_cmp a b ≡ Less → nat_lt a b ≡ true
lower a b less = by_test (nat_lt a b) refl where
  by_test : (is : Bool) → nat_lt a b ≡ is → is ≡ true
  by_test true at = refl
  by_test false at = absurd (rest (a == b) (ap (λ t. cond t Less (cond (a == b) Equal Greater)) (sym at) ∙ less)) where
    rest : (same : Bool) → cond same Equal Greater ≡ Less → ⊥
    rest true e = absurd (cc)
    rest false e = absurd (cc)

not_itself : (a b : ℕ) → a ≡ b → nat_lt b a ≡ false
not_itself a b same = grind (arith, nat_tests)

not_lower : (a b : ℕ) → nat_cmp a b ≡ Less → nat_lt b a ≡ false
not_lower a b less = let low = lower a b less in grind (arith, nat_tests)

higher : (a b : ℕ) → nat_cmp a b ≡ Greater → nat_lt b a ≡ true
higher a b greater = lower b a (nat_cmp_total.antisymm b a ∙ ap ordering_reverse greater)

-- ---- a place of an id

ties : (id : ℕ) (ss : List Seen) (i : ℕ) → IsThereAt id ss i → (s : Seen) → nat_cmp (get_or ss i s).id id ≡ Equal
ties id ss i at s = ap (λ k. nat_cmp k id) (at.same s) ∙ tied_itself nat_cmp_total id

-- ---- a list without the element at a place

pub map-take_out : {A B : Type 0} (f : A → B) (xs : List A) (i : ℕ) → map f (take_out xs i) ≡ take_out (map f xs) i
map-take_out f [] zero = refl
map-take_out f [] (suc i) = refl
map-take_out f (x ∷ xs) zero = refl
map-take_out f (x ∷ xs) (suc i) = ap (λ ys. f x ∷ ys) (map-take_out f xs i)

-- ---- entries as contracts see them, each as something of its own at its id

module _ {X : Type 0} (g : Seen → X) where
  abbrev at_id : Seen → ℕ × X
  at_id s = (s.id, g s)

  below_alike : (k : ℕ) (ss : List Seen) → below_all nat_cmp k (map at_id ss) ≡ below_all nat_cmp k (map listed_in ss)
  below_alike k [] = refl
  below_alike k (s ∷ ss) = ap (λ b. is_lt (nat_cmp k s.id) && b) (below_alike k ss)

  sorted_alike : (ss : List Seen) → is_sorted nat_cmp (map at_id ss) ≡ is_sorted nat_cmp (map listed_in ss)
  sorted_alike [] = refl
  sorted_alike (s ∷ ss) = (λ i. below_alike s.id ss i && sorted_alike ss i)

  pub rising : (ss : List Seen) → Rises ss → IsTrue (is_sorted nat_cmp (map at_id ss))
  rising ss rise = subst IsTrue (sym (sorted_alike ss)) rise

  -- they are the entries of their map
  pub entries_of : (ss : List Seen) → Rises ss → entries (from_entries {R = nat_cmp} (map at_id ss)) ≡ map at_id ss
  entries_of ss rise = entries_rising nat_cmp_total (map at_id ss) (rising ss rise)

  found_map : (id : ℕ) (ss : List Seen) → found_at nat_cmp id (map at_id ss) ≡ option_map g (found id ss)
  found_map id [] = refl
  found_map id (s ∷ ss) = by_test (eq_by_cmp nat_cmp id s.id) (found_map id ss) where
    by_test : (same : Bool) → found_at nat_cmp id (map at_id ss) ≡ option_map g (found id ss)
        → cond same (Some (g s)) (found_at nat_cmp id (map at_id ss)) ≡ option_map g (cond same (Some s) (found id ss))
    by_test true rest = refl
    by_test false rest = rest

  -- what the map has at an id
  pub get_of : (id : ℕ) (ss : List Seen) → get (from_entries {R = nat_cmp} (map at_id ss)) id ≡ option_map g (found id ss)
  get_of id ss = get-from_entries nat_cmp_total (map at_id ss) id ∙ found_map id ss

  -- one more
  inserted : (id : ℕ) (ss : List Seen) (i : ℕ) (s : Seen) → IsAbsentAt id ss i → s.id ≡ id → map at_id (put_in ss i s) ≡ put nat_cmp id (g s) (map at_id ss)
  inserted id ss i s at same =
      map-insert at_id ss i s
      ∙ ap (λ k. put_in (map at_id ss) i (k, g s)) same
      ∙ sym (put-apart nat_cmp at_id nat_cmp_total id (g s) ss i at.within (λ k d low. at.before k d) at.after)

  pub map_insert : (id : ℕ) (ss : List Seen) (i : ℕ) (s : Seen) → Rises ss → IsAbsentAt id ss i → s.id ≡ id
      → from_entries {R = nat_cmp} (map at_id (put_in ss i s)) ≡ insert (from_entries (map at_id ss)) id (g s)
  map_insert id ss i s rise at same = ap (from_entries {R = nat_cmp}) (inserted id ss i s at same) ∙ of_put id (g s) (map at_id ss) (rising ss rise)

  -- another in its place
  replaced : (id : ℕ) (ss : List Seen) (i : ℕ) (s : Seen) → Rises ss → IsThereAt id ss i → s.id ≡ id → map at_id (set ss i s) ≡ put nat_cmp id (g s) (map at_id ss)
  replaced id ss i s rise at same =
      map-set at_id ss i s
      ∙ ap (λ k. set (map at_id ss) i (k, g s)) same
      ∙ sym (put-tied nat_cmp at_id nat_cmp_total nat_cmp-IsAntisymmetric id (g s) ss i (rising ss rise) at.within (λ d. ties id ss i at d))

  pub map_set : (id : ℕ) (ss : List Seen) (i : ℕ) (s : Seen) → Rises ss → IsThereAt id ss i → s.id ≡ id
      → from_entries {R = nat_cmp} (map at_id (set ss i s)) ≡ insert (from_entries (map at_id ss)) id (g s)
  map_set id ss i s rise at same = ap (from_entries {R = nat_cmp}) (replaced id ss i s rise at same) ∙ of_put id (g s) (map at_id ss) (rising ss rise)

  -- one less
  taken_out : (id : ℕ) (ss : List Seen) (i : ℕ) → Rises ss → IsThereAt id ss i → map at_id (take_out ss i) ≡ others id (map at_id ss)
  taken_out id ss i rise at = map-take_out at_id ss i ∙ sym (others_at id (map at_id ss) i (rising ss rise) within (key_at ss i at.within at.same)) where
    within : i < length (map at_id ss)
    within = subst (λ n. i < n) (sym (length-map ss at_id)) at.within

    key_at : (ts : List Seen) (j : ℕ) → j < length ts → ((t : Seen) → (get_or ts j t).id ≡ id) → (e : ℕ × X) → (get_or (map at_id ts) j e).0 ≡ id
    key_at [] j low is e = absurd (omega arith)
    key_at (t ∷ ts) zero low is e = is t
    key_at (t ∷ ts) (suc j) low is e = key_at ts j (omega arith) is e

  pub map_remove : (id : ℕ) (ss : List Seen) (i : ℕ) → Rises ss → IsThereAt id ss i
      → from_entries {R = nat_cmp} (map at_id (take_out ss i)) ≡ remove (from_entries (map at_id ss)) id
  map_remove id ss i rise at = ap (from_entries {R = nat_cmp}) (taken_out id ss i rise at) ∙ of_others id (map at_id ss)

-- ---- they rise still

pub rises_insert : (id : ℕ) (ss : List Seen) (i : ℕ) (s : Seen) → Rises ss → IsAbsentAt id ss i → s.id ≡ id → Rises (put_in ss i s)
rises_insert id ss i s rise at same =
    subst (λ es. IsTrue (is_sorted nat_cmp es)) (sym (inserted (λ (t : Seen). t.listened) id ss i s at same))
    (put_sorted nat_cmp nat_cmp_total id s.listened (map listed_in ss) rise)

pub rises_set : (id : ℕ) (ss : List Seen) (i : ℕ) (s : Seen) → Rises ss → IsThereAt id ss i → s.id ≡ id → Rises (set ss i s)
rises_set id ss i s rise at same =
    subst (λ es. IsTrue (is_sorted nat_cmp es)) (sym (replaced (λ (t : Seen). t.listened) id ss i s rise at same))
    (put_sorted nat_cmp nat_cmp_total id s.listened (map listed_in ss) rise)

pub rises_remove : (id : ℕ) (ss : List Seen) (i : ℕ) → Rises ss → IsThereAt id ss i → Rises (take_out ss i)
rises_remove id ss i rise at =
    subst (λ es. IsTrue (is_sorted nat_cmp es)) (sym (taken_out (λ (t : Seen). t.listened) id ss i rise at)) (others_rise id (map listed_in ss) rise)

-- where what each listens to is changed by itself
pub rises_changed : (change : Entry → Seen) (g : Seen → Listened) (ds : List Entry) → ((e : Entry) → listed_in (change e) ≡ (e.id, g (seen e))) → Rises (map seen ds)
    → Rises (map change ds)
rises_changed change g ds is rise =
    subst (λ es. IsTrue (is_sorted nat_cmp es))
    (map-map (at_id g) seen ds
    ∙ map_alike (λ (e : Entry). at_id g (seen e)) (λ e. listed_in (change e)) ds (each_of (λ (e : Entry). at_id g (seen e) ≡ listed_in (change e)) (λ e. sym (is e)) ds)
    ∙ sym (map-map listed_in change ds))
    (rising g (map seen ds) rise)

-- ---- what is found

found_alike : (id : ℕ) (ss : List Seen) → found id ss ≡ found_at nat_cmp id (map (λ (s : Seen). (s.id, s)) ss)
found_alike id ss = sym (found_map (λ s. s) id ss ∙ same (found id ss)) where
  same : (o : Option Seen) → option_map (λ (s : Seen). s) o ≡ o
  same None = refl
  same (Some s) = refl

pub found_there : (id : ℕ) (ss : List Seen) (i : ℕ) (d : Seen) → Rises ss → IsThereAt id ss i → found id ss ≡ Some (get_or ss i d)
found_there id ss i d rise at =
    found_alike id ss
    ∙ find-tied nat_cmp (λ (s : Seen). (s.id, s)) nat_cmp_total id ss i (d.id, d) (rising (λ s. s) ss rise) at.within (λ e. ties id ss i at e)
    ∙ ap (λ (e : ℕ × Seen). Some e.1) (get_or-map (λ (s : Seen). (s.id, s)) ss i d (d.id, d) at.within)

pub found_absent : (id : ℕ) (ss : List Seen) (i : ℕ) → IsAbsentAt id ss i → found id ss ≡ None
found_absent id ss i at =
    found_alike id ss ∙ find-apart nat_cmp (λ (s : Seen). (s.id, s)) nat_cmp_total id ss i (λ k d low. at.before k d) at.after

-- ---- entries of other ids

pub rises_rest : (e : Entry) (ds : List Entry) → Rises (map seen (e ∷ ds)) → Rises (map seen ds)
rises_rest e ds rise = second_so (below_all nat_cmp e.id (map listed_in (map seen ds))) _ rise

above : (e : Entry) (ds : List Entry) → IsTrue (below_all nat_cmp e.id (map listed_in (map seen ds))) → AllByRecursion (λ (d : Entry). nat_cmp e.id d.id ≡ Less) ds
above e [] below = tt
above e (d ∷ ds) below =
    (less_is _ (first_so _ (below_all nat_cmp e.id (map listed_in (map seen ds))) below), above e ds (second_so (is_lt (nat_cmp e.id d.id)) _ below))

module _ (id : ℕ) where
  -- those behind the one of an id, and each before it
  pub others_behind : (e : Entry) (ds : List Entry) → e.id ≡ id → Rises (map seen (e ∷ ds)) → AllByRecursion (λ (d : Entry). (id == d.id) ≡ false) ds
  others_behind e ds is rise =
      each_weaker (λ (d : Entry). nat_cmp e.id d.id ≡ Less) (λ (d : Entry). (id == d.id) ≡ false)
      (λ d less. other_number id d.id (ap (λ k. eq_by_cmp nat_cmp k d.id) (sym is) ∙ ap is_eq less)) ds (above e ds (first_so _ _ rise))

  pub other_before : (e : Entry) (ds : List Entry) (i : ℕ) (d : Entry) → i < length ds → (get_or ds i d).id ≡ id → Rises (map seen (e ∷ ds)) → (id == e.id) ≡ false
  other_before e ds i d within is rise =
      let less : nat_cmp e.id (get_or ds i d).id ≡ Less = each_at (λ (f : Entry). nat_cmp e.id f.id ≡ Less) ds i d within (above e ds (first_so _ _ rise)) in
      other_number id e.id (ap is_eq (nat_cmp_total.antisymm id e.id ∙ ap ordering_reverse (ap (nat_cmp e.id) (sym is) ∙ less)))

  -- all, where none is found
  pub others_all : (ds : List Entry) → found id (map seen ds) ≡ None → AllByRecursion (λ (d : Entry). (id == d.id) ≡ false) ds
  others_all [] none = tt
  others_all (d ∷ ds) none = by_test (others_all ds) (eq_by_cmp nat_cmp id d.id) refl where
    by_test : (found id (map seen ds) ≡ None → AllByRecursion (λ (e : Entry). (id == e.id) ≡ false) ds) → (same : Bool) → eq_by_cmp nat_cmp id d.id ≡ same
        → AllByRecursion (λ (e : Entry). (id == e.id) ≡ false) (d ∷ ds)
    by_test again true is = absurd (let both : Some (seen d) ≡ None = sym (ap (λ b. cond b (Some (seen d)) (found id (map seen ds))) is) ∙ none in cc)
    by_test again false is = (other_number id d.id is, again (sym (ap (λ b. cond b (Some (seen d)) (found id (map seen ds))) is) ∙ none))

-- ---- the first id above another

behind_there : (id : ℕ) (ss : List Seen) (i : ℕ) → Rises ss → i < length ss → ((s : Seen) → (get_or ss i s).id ≡ id)
    → slice_get (ids_of ss) (suc i) ≡ id_after (Some id) (ids_of ss)
behind_there id [] i rise low is = absurd (omega arith)
behind_there id (s ∷ ss) zero rise low is = next ss (first_so _ (is_sorted nat_cmp (map listed_in ss)) rise) ∙ sym (ap (λ b. cond b (Some s.id) (id_after (Some id) (ids_of ss))) (not_itself s.id id same)) where
  same : s.id ≡ id
  same = is s

  next : (ts : List Seen) → IsTrue (below_all nat_cmp s.id (map listed_in ts)) → slice_get (ids_of ts) zero ≡ id_after (Some id) (ids_of ts)
  next [] below = refl
  next (t ∷ ts) below =
      let less : nat_cmp s.id t.id ≡ Less = less_is _ (first_so _ (below_all nat_cmp s.id (map listed_in ts)) below) in
      sym (ap (λ b. cond b (Some t.id) (id_after (Some id) (ids_of ts))) (ap (λ k. nat_lt k t.id) (sym same) ∙ lower s.id t.id less))
behind_there id (s ∷ ss) (suc i) rise low is =
    let below : nat_cmp s.id id ≡ Less = subst (λ k. nat_cmp s.id k ≡ Less) (is s) (earlier s.id ss i (first_so _ (is_sorted nat_cmp (map listed_in ss)) rise) (omega arith)) in
    behind_there id ss i (second_so (below_all nat_cmp s.id (map listed_in ss)) _ rise) (omega arith) is
    ∙ sym (ap (λ b. cond b (Some s.id) (id_after (Some id) (ids_of ss))) (not_lower s.id id below))
  where
    earlier : (k : ℕ) (ts : List Seen) (j : ℕ) → IsTrue (below_all nat_cmp k (map listed_in ts)) → j < length ts → nat_cmp k (get_or ts j s).id ≡ Less
    earlier k [] j below within = absurd (omega arith)
    earlier k (t ∷ ts) zero below within = less_is _ (first_so _ (below_all nat_cmp k (map listed_in ts)) below)
    earlier k (t ∷ ts) (suc j) below within = earlier k ts j (second_so (is_lt (nat_cmp k t.id)) _ below) (omega arith)

pub id_after_there : (id : ℕ) (ss : List Seen) (i : ℕ) → Rises ss → IsThereAt id ss i → slice_get (ids_of ss) (i + 1) ≡ id_after (Some id) (ids_of ss)
id_after_there id ss i rise at = ap (slice_get (ids_of ss)) (add-one i) ∙ behind_there id ss i rise at.within at.same

first_above : (id : ℕ) (ss : List Seen) (i : ℕ) → ((k : ℕ) (s : Seen) → k < i → nat_cmp (get_or ss k s).id id ≡ Less)
    → ((k : ℕ) (s : Seen) → i ≤ k → k < length ss → nat_cmp (get_or ss k s).id id ≡ Greater) → slice_get (ids_of ss) i ≡ id_after (Some id) (ids_of ss)
first_above id [] i before after = refl
first_above id (s ∷ ss) zero before after =
    sym (ap (λ b. cond b (Some s.id) (id_after (Some id) (ids_of ss))) (higher s.id id (after 0 s (omega arith) (omega arith))))
first_above id (s ∷ ss) (suc i) before after =
    first_above id ss i (λ k t low. before (suc k) t (omega arith)) (λ k t low high. after (suc k) t (omega arith) (omega arith))
    ∙ sym (ap (λ b. cond b (Some s.id) (id_after (Some id) (ids_of ss))) (not_lower s.id id (before 0 s (omega arith))))

pub id_after_absent : (id : ℕ) (ss : List Seen) (i : ℕ) → IsAbsentAt id ss i → slice_get (ids_of ss) i ≡ id_after (Some id) (ids_of ss)
id_after_absent id ss i at = first_above id ss i at.before at.after

pub id_after_none : (ids : List ℕ) → slice_get ids 0 ≡ id_after None ids
id_after_none [] = refl
id_after_none (k ∷ ks) = refl

-- ---- what a search of entries has found

module _ (id : ℕ) where
  id_there : (es : List Entry) (i : ℕ) → i < length es → ((e : Entry) → nat_cmp (get_or es i e).id id ≡ Equal) → (s : Seen) → (get_or (map seen es) i s).id ≡ id
  id_there [] i within ties s = absurd (omega arith)
  id_there (e ∷ es) zero within ties s = nat_cmp-IsAntisymmetric e.id id (ties e)
  id_there (e ∷ es) (suc i) within ties s = id_there es i (omega arith) ties s

  against : (r : Ordering) (es : List Entry) (k : ℕ) → k < length es → ((e : Entry) → nat_cmp (get_or es k e).id id ≡ r) → (s : Seen) → nat_cmp (get_or (map seen es) k s).id id ≡ r
  against r [] k within is s = absurd (omega arith)
  against r (e ∷ es) zero within is s = is e
  against r (e ∷ es) (suc k) within is s = against r es k (omega arith) is s

  pub searched : (es : List Entry) (r : Result ℕ ℕ) → Rises (map seen es) → IsSearchInRange r (length es) → IsBinarySearchResult (λ (e : Entry). nat_cmp e.id id) es r
      → MatchResult r (IsThereAt id (map seen es)) (IsAbsentAt id (map seen es))
  searched es (Ok i) rise within found_it = record {
    within = subst (λ n. i < n) (sym (length-map es seen)) within;
    same = id_there es i within found_it;
  }
  searched es (Err i) rise within apart =
      let sorted = subst (λ ts. IsTrue (is_sorted nat_cmp ts)) (map-map listed_in seen es) rise in
      let parts = apart (searchable_from_sorted nat_cmp_total (λ (e : Entry). e.id) es id (rising_sorted nat_cmp (λ (e : Entry). listed_in (seen e)) nat_cmp_total es sorted)) in
      record {
        within = subst (λ n. i ≤ n) (sym (length-map es seen)) within;
        before = λ k s low. against Less es k (omega arith) (λ e. parts.0 k e (omega arith) low) s;
        after = λ k s low high. against Greater es k (subst (λ n. k < n) (length-map es seen) high) (λ e. parts.1 k e low (subst (λ n. k < n) (length-map es seen) high)) s;
      }

-- what it has found, of an id and entries that are given by equations
module _ (k id : ℕ) (es ds : List Entry) (i : ℕ) (same : k ≡ id) (are : es ≡ ds) where
  pub there_as : IsThereAt k (map seen es) i → IsThereAt id (map seen ds) i
  there_as at = subst (λ j. IsThereAt j (map seen ds) i) same (subst (λ xs. IsThereAt k (map seen xs) i) are at)

  pub absent_as : IsAbsentAt k (map seen es) i → IsAbsentAt id (map seen ds) i
  absent_as at = subst (λ j. IsAbsentAt j (map seen ds) i) same (subst (λ xs. IsAbsentAt k (map seen xs) i) are at)

-- the entry at the place of an id
pub within_there : (id : ℕ) (es : List Entry) (i : ℕ) → IsThereAt id (map seen es) i → i < length es
within_there id es i at = subst (λ n. i < n) (length-map es seen) at.within

pub same_there : (id : ℕ) (es : List Entry) (i : ℕ) (d : Entry) → IsThereAt id (map seen es) i → (get_or es i d).id ≡ id
same_there id es i d at = ap (λ (s : Seen). s.id) (sym (get_or-map seen es i d (seen d) (within_there id es i at))) ∙ at.same (seen d)

pub entry_there : (id : ℕ) (es : List Entry) (i : ℕ) (e : Entry) → Rises (map seen es) → IsThereAt id (map seen es) i → e ≡ get_or es i e → found id (map seen es) ≡ Some (seen e)
entry_there id es i e rise at is =
    found_there id (map seen es) i (seen e) rise at ∙ ap (λ (s : Seen). Some s) (get_or-map seen es i e (seen e) (within_there id es i at) ∙ ap seen (sym is))

-- its id, and none behind the last
pub id_at : (es : List Entry) (i : ℕ) (e : Entry) → i < length es → e ≡ get_or es i e → Some e.id ≡ slice_get (ids_of (map seen es)) i
id_at es i e within is = ap (λ (d : Entry). Some d.id) is ∙ at es i within where
  at : (fs : List Entry) (j : ℕ) → j < length fs → Some (get_or fs j e).id ≡ slice_get (ids_of (map seen fs)) j
  at [] j low = absurd (omega arith)
  at (f ∷ fs) zero low = refl
  at (f ∷ fs) (suc j) low = at fs j (omega arith)

pub none_at : (es : List Entry) (i : ℕ) → length es ≤ i → None ≡ slice_get (ids_of (map seen es)) i
none_at [] i high = refl
none_at (e ∷ es) zero high = absurd (omega arith)
none_at (e ∷ es) (suc i) high = none_at es i (omega arith)
