-- In an order of paths, each begins those right behind it, so that paths overlap exactly where two neighbours do.
use Rattle.std.proofs.Common.{◌≡◌, ℕ, Bool, true, false, List, [], ◌∷◌, length, take, refl, sym, ap, ◌∙◌, subst}
use Rattle.std.specs.Prelude.{◌||◌}
use Rattle.std.specs.Borrow.{Bor}
use Rattle.std.specs.List.{list_any, starts_with}
use Rattle.std.specs.List.Sorted.{IsPermutation}
use Rattle.std.specs.Ordering.{ordering_then, ordering_reverse, is_gt}
use Rattle.std.specs.declared.cmp.Ordering.{Ordering}
use Rattle.std.specs.declared.cmp.Ordering.TheVariants.{Less, Equal, Greater}
use Rattle.std.proofs.lemmas.Bool.{and_parts, and_from}
use Rattle.std.proofs.lemmas.List.Sorted.{IsPermutation-map}
use Rattle.std.proofs.lemmas.Slice.Eq.{bytes_eq-Decides}
use lib.Pointwise.{pointwise}
use Rattle.fs_path.specs.TextOrder.{text_cmp, text_cmp_total, text_eq, text_is, text_same, ids_cmp}
use Rattle.fs_path.specs.declared.field.FieldPath.{FieldPath}
use Rattle.fs_path.specs.FieldOrder.{paths_at, AreInOrder}
use Rattle.fs_path.specs.Related.{some_related}
use Rattle.fs_path.proofs.FieldOrder.{by_parts_total, sorted_at}
use Rattle.fs_path.proofs.Related.{neighbours_tell}
use Rattle.fs_write.specs.Neighbours.{neighbours_overlap}
use Rattle.fs_write.specs.Rules.{overlap, some_overlap}

-- ---- paths overlap whatever their order

or_flips : (a b : Bool) → (a || b) ≡ (b || a)
or_flips true true = refl
or_flips true false = refl
or_flips false true = refl
or_flips false false = refl

overlap_flips : (p q : FieldPath) → overlap p q ≡ overlap q p
overlap_flips p q = or_flips (starts_with text_eq p.parts q.parts) (starts_with text_eq q.parts p.parts)

-- ---- what stands between two paths of which one begins the other

record Tied (o a b : Ordering) : Type 0 where
  same : o ≡ Equal
  left : is_gt a ≡ false
  right : is_gt b ≡ false

-- a first name that is neither after nor before another is the other
tied_by : (o a b : Ordering) → is_gt (ordering_then o a) ≡ false → is_gt (ordering_then (ordering_reverse o) b) ≡ false → Tied o a b
tied_by Less a b g h = absurd (cc)
tied_by Equal a b g h = record { same = refl; left = g; right = h }
tied_by Greater a b g h = absurd (cc)

tied : (x y z : List ℕ) (a b : Ordering) → x ≡ z → is_gt (ordering_then (text_cmp x y) a) ≡ false → is_gt (ordering_then (text_cmp y z) b) ≡ false → Tied (text_cmp x y) a b
tied x y z a b e g h =
    tied_by (text_cmp x y) a b g (subst (λ o. is_gt (ordering_then o b) ≡ false) (ap (text_cmp y) (sym e) ∙ text_cmp_total.antisymm y x) h)

begins : (x y : List ℕ) (p q : List (List ℕ)) → x ≡ y → pointwise text_eq p q ≡ true → pointwise text_eq (x ∷ p) (y ∷ q) ≡ true
begins x y p q e h = and_from (text_eq x y) (pointwise text_eq p q) ((bytes_eq-Decides x y).1 e) h

-- what begins the later begins the one between
begins_between : (p q r : List (List ℕ)) → is_gt (ids_cmp p q) ≡ false → is_gt (ids_cmp q r) ≡ false → starts_with text_eq r p ≡ true → starts_with text_eq q p ≡ true
begins_between [] q r g h e = refl
begins_between (x ∷ p) [] r g h e = absurd (cc)
begins_between (x ∷ p) (y ∷ q) [] g h e = absurd (cc)
begins_between (x ∷ p) (y ∷ q) (z ∷ r) g h e =
    let both = and_parts (text_eq x z) (pointwise text_eq p (take (length p) r)) e in
    let t = tied x y z (ids_cmp p q) (ids_cmp q r) (text_is x z both.0) g h in
    begins x y p (take (length p) q) (text_same x y t.same) (begins_between p q r t.left t.right both.1)

-- where the later begins the earlier, so does the one between
begun_between : (p q r : List (List ℕ)) → is_gt (ids_cmp p q) ≡ false → is_gt (ids_cmp q r) ≡ false → starts_with text_eq p r ≡ true → starts_with text_eq p q ≡ true
begun_between p [] r g h e = refl
begun_between p (y ∷ q) [] g h e = absurd (cc)
begun_between [] (y ∷ q) (z ∷ r) g h e = absurd (cc)
begun_between (x ∷ p) (y ∷ q) (z ∷ r) g h e =
    let both = and_parts (text_eq z x) (pointwise text_eq r (take (length r) p)) e in
    let t = tied x y z (ids_cmp p q) (ids_cmp q r) (sym (text_is z x both.0)) g h in
    begins y x q (take (length q) p) (sym (text_same x y t.same)) (begun_between p q r t.left t.right both.1)

or_by : (a b c d : Bool) → (a || b) ≡ true → (a ≡ true → c ≡ true) → (b ≡ true → d ≡ true) → (c || d) ≡ true
or_by true b c d h f g = ap (λ v. v || d) (f refl)
or_by false b true d h f g = refl
or_by false b false d h f g = g h

overlap_between : (p q r : FieldPath) → is_gt (ids_cmp p.parts q.parts) ≡ false → is_gt (ids_cmp q.parts r.parts) ≡ false → overlap p r ≡ true → overlap p q ≡ true
overlap_between p q r g h e =
    or_by (starts_with text_eq p.parts r.parts) (starts_with text_eq r.parts p.parts) (starts_with text_eq p.parts q.parts) (starts_with text_eq q.parts p.parts) e
    (begun_between p.parts q.parts r.parts g h) (begins_between p.parts q.parts r.parts g h)

-- ---- paths in their order

some_is : (ps : List FieldPath) → some_related overlap ps ≡ some_overlap ps
some_is [] = refl
some_is (p ∷ ps) = ap (λ b. list_any (overlap p) ps || b) (some_is ps)

pub sorted_overlap : (refs sorted : List (Bor FieldPath)) → IsPermutation refs sorted → AreInOrder sorted → neighbours_overlap (paths_at sorted) ≡ some_overlap (paths_at refs)
sorted_overlap refs sorted moved up =
    neighbours_tell _ by_parts_total overlap overlap_between overlap_flips (paths_at refs) (paths_at sorted) (IsPermutation-map (λ (r : Bor FieldPath). r.now) refs sorted moved)
    (sorted_at sorted up)
    ∙ some_is (paths_at refs)
