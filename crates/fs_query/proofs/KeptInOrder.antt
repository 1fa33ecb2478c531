-- What paths keep, whatever their order; and in order those that begin with a key stand together.
use Rattle.std.proofs.Common.{◌≡◌, ℕ, zero, suc, ◌+◌, ◌<◌, ◌≤◌, Bool, true, false, cond, List, [], ◌∷◌, ◌++◌, map, length, get_or, take, drop, Less, Equal, Greater, refl, sym, ap, ◌∙◌, subst, arith, append_assoc, append-nil}
use Rattle.std.specs.Borrow.{Bor}
use Rattle.std.specs.List.{AllWithin, Contains}
use Rattle.std.specs.List.Sorted.{IsPermutation, IsPartitionedBy}
use Rattle.std.specs.Ordering.{is_lt, is_eq, ordering_reverse}
use Rattle.std.specs.declared.cmp.Ordering.{Ordering}
use Rattle.std.proofs.lemmas.List.{get_or-drop, get_or_default, length-drop, map-append, take-append-drop}
use Rattle.std.proofs.lemmas.List.Sorted.{Contains-permutation, IsPermutation-sym, sorted_far, ranks_by}
use Rattle.fs_path.specs.TextOrder.{ids_cmp, ids_cmp_total, text_cmp, text_cmp_total, text_eq, text_same, text_ties}
use Rattle.fs_value.specs.Data.{Data, null, boolean, integer, timestamp, string, bytes, reference, array, object, Members, no_members, member}
use Rattle.fs_query.specs.PathsBehind.{NamesInOrder, is_before}
use Rattle.fs_query.specs.Project.{ends_here, rest_behind, rests, if_any, kept_of, kept}
use Rattle.fs_query.proofs.ProjectionLaws.{rest_in, in_rests, ends_in, in_ends}
use Rattle.fs_path.proofs.Orders.{less_is, not_less_first}

-- ---- whatever their order

record Same (ps qs : List (List (List ℕ))) : Type 0 where
  to : (p : List (List ℕ)) → Contains ps p → Contains qs p
  from : (p : List (List ℕ)) → Contains qs p → Contains ps p

same_rests : (key : List ℕ) (ps qs : List (List (List ℕ))) → Same ps qs → Same (rests key ps) (rests key qs)
same_rests key ps qs s = record {
  to = λ r h. in_rests key qs r (s.to (key ∷ r) (rest_in key ps r h));
  from = λ r h. in_rests key ps r (s.from (key ∷ r) (rest_in key qs r h));
}

alike : (a b : Bool) → (a ≡ true → b ≡ true) → (b ≡ true → a ≡ true) → a ≡ b
alike true b f g = sym (f refl)
alike false true f g = g refl
alike false false f g = refl

same_ends : (ps qs : List (List (List ℕ))) → Same ps qs → ends_here ps ≡ ends_here qs
same_ends ps qs s = alike (ends_here ps) (ends_here qs) (λ h. in_ends qs (s.to [] (ends_in ps h))) (λ h. in_ends ps (s.from [] (ends_in qs h)))

same_plain : (ps qs : List (List (List ℕ))) (key : List ℕ) (d : Data) → Same ps qs → cond {A = List (List ℕ × Data)} (ends_here ps) ((key, d) ∷ []) [] ≡ cond {A = List (List ℕ × Data)} (ends_here qs) ((key, d) ∷ []) []
same_plain ps qs key d s = let one : List ℕ × Data = (key, d) in ap (λ b. cond b (one ∷ []) []) (same_ends ps qs s)

mutual
  same_kept_of : (d : Data) (key : List ℕ) (ps qs : List (List (List ℕ))) → Same ps qs → kept_of ps key d ≡ kept_of qs key d
  same_kept_of (object ms) key ps qs s = let one : List ℕ × Data = (key, object ms) in λ i. cond (same_ends ps qs s i) (one ∷ []) (if_any key (same_kept ms ps qs s i))
  same_kept_of null key ps qs s = same_plain ps qs key null s
  same_kept_of (boolean b) key ps qs s = same_plain ps qs key (boolean b) s
  same_kept_of (integer n) key ps qs s = same_plain ps qs key (integer n) s
  same_kept_of (timestamp n) key ps qs s = same_plain ps qs key (timestamp n) s
  same_kept_of (string t) key ps qs s = same_plain ps qs key (string t) s
  same_kept_of (bytes t) key ps qs s = same_plain ps qs key (bytes t) s
  same_kept_of (reference n) key ps qs s = same_plain ps qs key (reference n) s
  same_kept_of (array ds) key ps qs s = same_plain ps qs key (array ds) s

  same_kept : (ms : Members) (ps qs : List (List (List ℕ))) → Same ps qs → kept ps ms ≡ kept qs ms
  same_kept no_members ps qs s = refl
  same_kept (member key d ms) ps qs s = λ i. same_kept_of d key (rests key ps) (rests key qs) (same_rests key ps qs s) i ++ same_kept ms ps qs s i

pub kept_moved : (ms : Members) (ps qs : List (List (List ℕ))) → IsPermutation ps qs → kept ps ms ≡ kept qs ms
kept_moved ms ps qs moved = same_kept ms ps qs (record { to = λ p h. Contains-permutation ps qs p moved h; from = λ p h. Contains-permutation qs ps p (IsPermutation-sym ps qs moved) h })

-- ---- in order

-- no path is after a later one
far : (refs : List (Bor (List (List ℕ)))) → NamesInOrder refs → (i j : ℕ) (d : Bor (List (List ℕ))) → i ≤ j → j < length refs → is_lt (ids_cmp (get_or refs j d).now (get_or refs i d).now) ≡ false
far refs up i j d l m = sorted_far (λ a b. is_lt (ids_cmp a.now b.now)) (ranks_by ids_cmp_total (λ (r : Bor (List (List ℕ))). r.now)) refs up i j d l m

-- a name that isn't before another, of which the other is before a key
earlier_name : (k m key : List ℕ) (o : Ordering) → text_cmp m k ≡ o → is_lt o ≡ false → is_lt (text_cmp m key) ≡ true → is_lt (text_cmp k key) ≡ true
earlier_name k m key Less e h b = absurd (cc)
earlier_name k m key Equal e h b = subst (λ z. is_lt (text_cmp z key) ≡ true) (text_same m k e) b
earlier_name k m key Greater e h b = ap is_lt (text_cmp_total.trans k m key (text_cmp_total.antisymm k m ∙ ap ordering_reverse e) (less_is (text_cmp m key) b))

before_earlier : (key : List ℕ) (p q : List (List ℕ)) → is_lt (ids_cmp q p) ≡ false → is_before key q ≡ true → is_before key p ≡ true
before_earlier key [] q h b = refl
before_earlier key (k ∷ ks) [] h b = absurd (cc)
before_earlier key (k ∷ ks) (m ∷ ms) h b = earlier_name k m key (text_cmp m k) refl (not_less_first (text_cmp m k) (ids_cmp ms ks) h) b

pub parted : (key : List ℕ) (refs : List (Bor (List (List ℕ)))) → NamesInOrder refs → IsPartitionedBy (λ r. is_before key r.now) refs
parted key refs up i j d l m b = before_earlier key (get_or refs i d).now (get_or refs j d).now (far refs up i j d l m) b

-- ---- those that begin with a key

differ : (k key : List ℕ) → is_eq (text_cmp k key) ≡ false → (ks : List (List ℕ)) → rest_behind key (k ∷ ks) ≡ []
differ k key e ks = ap (λ b. cond b (ks ∷ []) []) (text_ties k key ∙ e)

before_none : (key : List ℕ) (p : List (List ℕ)) → is_before key p ≡ true → rest_behind key p ≡ []
before_none key [] b = refl
before_none key (k ∷ ks) b = differ k key (not_eq (text_cmp k key) b) ks
  where
    not_eq : (o : Ordering) → is_lt o ≡ true → is_eq o ≡ false
    not_eq Less e = refl
    not_eq Equal e = absurd (cc)
    not_eq Greater e = refl

rests_before : (key : List ℕ) (refs : List (Bor (List (List ℕ)))) (i : ℕ) → AllWithin (λ r. is_before key r.now ≡ true) refs 0 i → i ≤ length refs → rests key (map (λ r. r.now) (take i refs)) ≡ []
rests_before key refs zero h l = refl
rests_before key [] (suc i) h l = refl
rests_before key (r ∷ refs) (suc i) h l =
    ap (λ rs. rs ++ rests key (map (λ r. r.now) (take i refs))) (before_none key r.now (h 0 r (omega arith) (omega arith)))
    ∙ rests_before key refs i (λ k d low high. h (suc k) d (omega arith) (omega arith)) (omega arith)

rests_append : (key : List ℕ) (ps qs : List (List (List ℕ))) → rests key (ps ++ qs) ≡ rests key ps ++ rests key qs
rests_append key [] qs = refl
rests_append key (p ∷ ps) qs = ap (λ rs. rest_behind key p ++ rs) (rests_append key ps qs) ∙ sym (append_assoc (rest_behind key p) (rests key ps) (rests key qs))

rests_split : (key : List ℕ) (refs : List (Bor (List (List ℕ)))) (i : ℕ) → rests key (map (λ r. r.now) refs) ≡ rests key (map (λ r. r.now) (take i refs)) ++ rests key (map (λ r. r.now) (drop i refs))
rests_split key refs i =
    ap (λ rs. rests key (map (λ r. r.now) rs)) (sym (take-append-drop i refs))
    ∙ ap (rests key) (map-append (λ r. r.now) (take i refs) (drop i refs))
    ∙ rests_append key (map (λ r. r.now) (take i refs)) (map (λ r. r.now) (drop i refs))

-- none stands in front of those that aren't before it
pub rests_from : (key : List ℕ) (refs : List (Bor (List (List ℕ)))) (i : ℕ) → AllWithin (λ r. is_before key r.now ≡ true) refs 0 i → i ≤ length refs
    → rests key (map (λ r. r.now) (drop i refs)) ≡ rests key (map (λ r. r.now) refs)
rests_from key refs i h l =
    sym (rests_split key refs i ∙ ap (λ rs. rs ++ rests key (map (λ r. r.now) (drop i refs))) (rests_before key refs i h l))

-- what is behind a path that is behind all of them is too
behind_name : (k m key : List ℕ) (o : Ordering) → text_cmp m key ≡ o → is_lt (text_cmp k key) ≡ false → is_eq (text_cmp k key) ≡ false → is_lt (text_cmp m k) ≡ false → is_eq o ≡ false
behind_name k m key Less e h g f = refl
behind_name k m key Equal e h g f =
    let same : m ≡ key = text_same m key e in
    absurd (greater (text_cmp k key) (text_cmp key k) (text_cmp_total.antisymm key k) h g (subst (λ z. is_lt (text_cmp z k) ≡ false) same f))
  where
    greater : (a b : Ordering) → b ≡ ordering_reverse a → is_lt a ≡ false → is_eq a ≡ false → is_lt b ≡ false → ⊥
    greater Less b e h g f = absurd (cc)
    greater Equal b e h g f = absurd (cc)
    greater Greater b e h g f = absurd (cc)
behind_name k m key Greater e h g f = refl

none_equal : (k key : List ℕ) (ks : List (List ℕ)) (b : Bool) → text_eq k key ≡ b → cond b (ks ∷ []) [] ≡ [] → is_eq (text_cmp k key) ≡ false
none_equal k key ks true e h = absurd (cc)
none_equal k key ks false e h = sym (text_ties k key) ∙ e

after_none : (key : List ℕ) (p q : List (List ℕ)) → is_before key p ≡ false → rest_behind key p ≡ [] → is_lt (ids_cmp q p) ≡ false → rest_behind key q ≡ []
after_none key [] q b h f = absurd (cc)
after_none key (k ∷ ks) [] b h f = refl
after_none key (k ∷ ks) (m ∷ ms) b h f =
    differ m key (behind_name k m key (text_cmp m key) refl b (none_equal k key ks (text_eq k key) refl h) (not_less_first (text_cmp m k) (ids_cmp ms ks) f)) ms

rests_none : (key : List ℕ) (refs : List (Bor (List (List ℕ)))) → AllWithin (λ r. rest_behind key r.now ≡ []) refs 0 (length refs) → rests key (map (λ r. r.now) refs) ≡ []
rests_none key [] h = refl
rests_none key (r ∷ refs) h =
    ap (λ rs. rs ++ rests key (map (λ r. r.now) refs)) (h 0 r (omega arith) (omega arith))
    ∙ rests_none key refs (λ k d low high. h (suc k) d (omega arith) (omega arith))

-- the first that doesn't begin with the key ends those that do
pub rests_end : (key : List ℕ) (refs : List (Bor (List (List ℕ)))) (j : ℕ) (p : Bor (List (List ℕ))) → NamesInOrder refs → AllWithin (λ r. is_before key r.now ≡ false) refs 0 (length refs)
    → j < length refs → p ≡ get_or refs j p → rest_behind key p.now ≡ [] → rests key (map (λ r. r.now) (take j refs)) ≡ rests key (map (λ r. r.now) refs)
rests_end key refs j p up begun l e none =
    sym (rests_split key refs j
    ∙ ap (λ rs. rests key (map (λ r. r.now) (take j refs)) ++ rs)
    (rests_none key (drop j refs) (λ k d low high.
    let within : j + k < length refs = omega (arith, length-drop j refs) in
    subst (λ z. rest_behind key z.now ≡ []) (sym (get_or-drop j refs k d))
    (after_none key (get_or refs j d).now (get_or refs (j + k) d).now
    (begun j d (omega arith) l)
    (subst (λ z. rest_behind key z.now ≡ []) (e ∙ get_or_default refs j p d l) none)
    (far refs up j (j + k) d (omega arith) within))))
    ∙ append-nil (rests key (map (λ r. r.now) (take j refs))))
