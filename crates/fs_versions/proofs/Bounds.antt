-- The names of a collection lie between two: that of the collection, and that of the collection whose id has one zero byte more.
use Rattle.std.proofs.Common.{◌≡◌, ℕ, suc, ◌+◌, ◌-◌, ◌<◌, Bool, true, false, cond, ◌&&◌, eqb, leb, List, [], ◌∷◌, ◌++◌, length, take, get_or, Ordering, Less, Equal, Greater, Option, Some, None, Result, Ok, Err, refl, sym, ap, ◌∙◌, subst, arith}
use Rattle.std.proofs.lemmas.Bool.{and_parts}
use Rattle.std.proofs.lemmas.Bool.Decides.{nat_tests}
use Rattle.std.proofs.lemmas.Cmp.{tied_itself, nat_cmp_total}
use Rattle.std.proofs.lemmas.List.{get_or-map, length-map}
use Rattle.std.proofs.lemmas.List.Elements.{All-head, All-tail}
use Rattle.std.proofs.lemmas.Slice.Eq.{bytes_eq-Decides}
use Rattle.std.specs.Prelude.{IfOk, IfSome}
use Rattle.std.specs.declared.alloc.AllocError.{AllocError}
use Rattle.std.specs.declared.ops.Range.{Range}
use Rattle.std.specs.BTreeMap.Range.{entries_between, range_contains}
use Rattle.std.specs.Cmp.Lexicographic.{pointwise}
use Rattle.std.specs.List.{All, filter}
use Rattle.std.specs.Map.{keys_of}
use Rattle.std.specs.Ordering.{ordering_then, is_gt, is_lt}
use Rattle.std.specs.declared.ops.Bound.TheVariants.{Included, Excluded, Unbounded}
use Rattle.fs_path.specs.NameOrder.{name_cmp}
use Rattle.fs_path.specs.Scope.{covers, lies_in}
use Rattle.fs_path.specs.TextOrder.{text_cmp, text_eq, text_same, text_cmp_total, ids_cmp}
use Rattle.fs_path.specs.declared.name.DocName.{DocName}
use Rattle.fs_path.specs.declared.scope.Scope.{Scope}
use Rattle.fs_path.specs.declared.scope.Scope.TheVariants.{Collection}
use Rattle.fs_path.proofs.Orders.{not_less_first}
use Rattle.fs_versions.specs.Between.{beside, IsBeside, AreBounds, LieBetween}

-- ---- ids

longer : (id : List ℕ) → text_cmp (id ++ 0 ∷ []) id ≡ Greater
longer [] = refl
longer (b ∷ bs) = ap (λ o. ordering_then o (text_cmp (bs ++ 0 ∷ []) bs)) (tied_itself nat_cmp_total b) ∙ longer bs

shorter : (id : List ℕ) → text_cmp id (id ++ 0 ∷ []) ≡ Less
shorter [] = refl
shorter (b ∷ bs) = ap (λ o. ordering_then o (text_cmp bs (bs ++ 0 ∷ []))) (tied_itself nat_cmp_total b) ∙ shorter bs

-- the last ids decide, where a parent is before them
below : (parent xs ys : List (List ℕ)) → ids_cmp (parent ++ xs) (parent ++ ys) ≡ ids_cmp xs ys
below [] xs ys = refl
below (p ∷ ps) xs ys = ap (λ o. ordering_then o (ids_cmp (ps ++ xs) (ps ++ ys))) (tied_itself text_cmp_total p) ∙ below ps xs ys

module _ (id : List ℕ) where
  after_first : (last : List ℕ) → ids_cmp (id ∷ []) (id ∷ last ∷ []) ≡ Less
  after_first last = ap (λ o. ordering_then o Less) (tied_itself text_cmp_total id)

  before_next : (last : List ℕ) → ids_cmp ((id ++ 0 ∷ []) ∷ []) (id ∷ last ∷ []) ≡ Greater
  before_next last = ap (λ o. ordering_then o Less) (longer id)

  in_order : ids_cmp (id ∷ []) ((id ++ 0 ∷ []) ∷ []) ≡ Less
  in_order = ap (λ o. ordering_then o Equal) (shorter id)

  -- the ids of a document of the collection
  abbrev AreOf : List (List ℕ) → List (List ℕ) → Type 0
  AreOf parent ids = (last : List ℕ) × (ids ≡ parent ++ id ∷ last ∷ [])

  more_of : (p q : List ℕ) (ps qs : List (List ℕ)) → p ≡ q → AreOf ps qs → AreOf (p ∷ ps) (q ∷ qs)
  more_of p q ps qs same (last, is) = (last, ap (λ x. x ∷ qs) (sym same) ∙ ap (λ xs. p ∷ xs) is)

  shape : (parent ids : List (List ℕ)) → pointwise text_eq parent (take (length parent) ids) ≡ true → length ids ≡ length parent + 2
      → text_eq (get_or ids (length ids - 2) []) id ≡ true → AreOf parent ids
  shape [] [] starts count ends = absurd (omega arith)
  shape [] (a ∷ []) starts count ends = absurd (omega arith)
  shape [] (a ∷ b ∷ []) starts count ends = (b, ap (λ x. x ∷ b ∷ []) ((bytes_eq-Decides a id).0 ends))
  shape [] (a ∷ b ∷ c ∷ ids) starts count ends = absurd (omega arith)
  shape (p ∷ ps) [] starts count ends = absurd (omega arith)
  shape (p ∷ ps) (q ∷ qs) starts count ends =
      let parts = and_parts (text_eq p q) (pointwise text_eq ps (take (length ps) qs)) starts in
      let place : suc (length qs) - 2 ≡ suc (length qs - 2) = omega arith in
      more_of p q ps qs ((bytes_eq-Decides p q).0 parts.0)
      (shape ps qs parts.1 (omega arith) (subst (λ (k : ℕ). text_eq (get_or (q ∷ qs) k []) id ≡ true) place ends))

-- ---- names

-- the ids decide within a database
ids_decide : (n q : DocName) → IsBeside n q → name_cmp n q ≡ ids_cmp n.ids q.ids
ids_decide n q is =
    ap (λ o. ordering_then o (ordering_then (text_cmp n.database q.database) (ids_cmp n.ids q.ids))) (ap (text_cmp n.project) is.project ∙ tied_itself text_cmp_total n.project)
    ∙ ap (λ o. ordering_then o (ids_cmp n.ids q.ids)) (ap (text_cmp n.database) is.database ∙ tied_itself text_cmp_total n.database)

module _ (n : DocName) (parent : List (List ℕ)) (id : List ℕ) where
  abbrev from : DocName
  from = beside n (parent ++ id ∷ [])

  abbrev to : DocName
  to = beside n (parent ++ (id ++ 0 ∷ []) ∷ [])

  in_range : (q : DocName) → name_cmp from q ≡ Less → name_cmp to q ≡ Greater → range_contains name_cmp (Included from) (Excluded to) q ≡ true
  in_range q low high = rw (low, high) refl

  of_range : (q : DocName) → IsBeside n q → AreOf id parent q.ids → range_contains name_cmp (Included from) (Excluded to) q ≡ true
  of_range q is (last, ids) =
      in_range q
      (ids_decide from q (record { project = is.project; database = is.database })
      ∙ ap (ids_cmp (parent ++ id ∷ [])) ids
      ∙ below parent (id ∷ []) (id ∷ last ∷ [])
      ∙ after_first id last)
      (ids_decide to q (record { project = is.project; database = is.database })
      ∙ ap (ids_cmp (parent ++ (id ++ 0 ∷ []) ∷ [])) ids
      ∙ below parent ((id ++ 0 ∷ []) ∷ []) (id ∷ last ∷ [])
      ∙ before_next id last)

  covered : (q : DocName) → IsBeside n q → covers (Collection parent id) q ≡ true → range_contains name_cmp (Included from) (Excluded to) q ≡ true
  covered q is here =
      let outer = and_parts (lies_in parent id q.ids) (eqb (length q.ids) (length parent + 2)) here in
      let inner = and_parts (leb (length parent + 2) (length q.ids) && pointwise text_eq parent (take (length parent) q.ids)) (text_eq (get_or q.ids (length q.ids - 2) []) id) outer.0 in
      let starts = and_parts (leb (length parent + 2) (length q.ids)) (pointwise text_eq parent (take (length parent) q.ids)) inner.0 in
      let count : length q.ids ≡ length parent + 2 = grind (arith, nat_tests, outer.1) in
      of_range q is (shape id parent q.ids starts.1 count inner.1)

  pub collection_bounds : AreBounds (Collection parent id) n from to
  collection_bounds = record {
    forward = ap is_gt (ids_decide from to (record { project = refl; database = refl }) ∙ below parent (id ∷ []) ((id ++ 0 ∷ []) ∷ []) ∙ in_order id);
    within = covered;
  }

-- names that are made of a collection
pub made_bounds : (scope : Scope) (n from to : DocName) (parent : List (List ℕ)) (id a b : List ℕ) → scope ≡ Collection parent id → a ≡ id → b ≡ id ++ 0 ∷ []
    → from ≡ beside n (parent ++ a ∷ []) → to ≡ beside n (parent ++ b ∷ []) → AreBounds scope n from to
made_bounds scope n from to parent id a b is first next start end =
    let of_id : List ℕ → DocName = λ x. beside n (parent ++ x ∷ []) in
    subst (λ s. AreBounds s n from to) (sym is)
    (subst (λ m. AreBounds (Collection parent id) n m to) (sym (start ∙ ap of_id first))
    (subst (λ m. AreBounds (Collection parent id) n (of_id id) m) (sym (end ∙ ap of_id next)) (collection_bounds n parent id)))

-- ---- all names are of the database of the first, if the last is

neither : (o : Ordering) → is_gt o ≡ false → is_lt o ≡ false → o ≡ Equal
neither Less up down = absurd (cc)
neither Equal up down = refl
neither Greater up down = absurd (cc)

first_gt : (o r : Ordering) → is_gt (ordering_then o r) ≡ false → is_gt o ≡ false
first_gt Less r h = refl
first_gt Equal r h = refl
first_gt Greater r h = h

-- a text that isn't above x and one that isn't below it are x, if they are one, and what comes behind decides
tied : (a b x : List ℕ) (r s : Ordering) → b ≡ a → is_gt (ordering_then (text_cmp a x) r) ≡ false → is_lt (ordering_then (text_cmp b x) s) ≡ false
    → (x ≡ a) × (is_gt r ≡ false) × (is_lt s ≡ false)
tied a b x r s same up down =
    let alike : text_cmp a x ≡ Equal = neither (text_cmp a x) (first_gt _ r up) (ap (λ y. is_lt (text_cmp y x)) (sym same) ∙ not_less_first _ s down) in (
      sym (text_same a x alike),
      subst (λ o. is_gt (ordering_then o r) ≡ false) alike up,
      subst (λ o. is_lt (ordering_then o s) ≡ false) (ap (λ y. text_cmp y x) same ∙ alike) down,
    )

pub of_one : (first last q : DocName) → IsBeside first last → is_gt (name_cmp first q) ≡ false → is_lt (name_cmp last q) ≡ false → IsBeside first q
of_one first last q is up down =
    let project = tied first.project last.project q.project (ordering_then (text_cmp first.database q.database) (ids_cmp first.ids q.ids)) (ordering_then (text_cmp last.database q.database) (ids_cmp last.ids q.ids)) is.project up down in
    let database = tied first.database last.database q.database (ids_cmp first.ids q.ids) (ids_cmp last.ids q.ids) is.database project.1 project.2 in
    record { project = project.0; database = database.0 }

-- ---- the entries of a scope

module _ {X : Type 0} (p q : X → Bool) where
  step : (a b : Bool) (x : X) (ys zs : List X) → p x ≡ a → (a ≡ true → b ≡ true) → filter p ys ≡ zs → filter p (cond b (x ∷ ys) ys) ≡ cond a (x ∷ zs) zs
  step true true x ys zs is so same = ap (λ c. cond c (x ∷ filter p ys) (filter p ys)) is ∙ ap (λ l. x ∷ l) same
  step true false x ys zs is so same = absurd (let e = so refl in cc)
  step false true x ys zs is so same = ap (λ c. cond c (x ∷ filter p ys) (filter p ys)) is ∙ same
  step false false x ys zs is so same = same

  -- a filter that all which pass another pass
  filter_wider : (xs : List X) → All (λ x. p x ≡ true → q x ≡ true) xs → filter p (filter q xs) ≡ filter p xs
  filter_wider [] so = refl
  filter_wider (x ∷ xs) so =
      step (p x) (q x) x (filter q xs) (filter p xs) refl (All-head (λ x. p x ≡ true → q x ≡ true) x xs so) (filter_wider xs (All-tail (λ x. p x ≡ true → q x ≡ true) x xs so))

module _ {X : Type 0} (scope : Scope) (n : DocName) (es : List (DocName × X)) where
  lie_between : (from to : DocName) → AreBounds scope n from to → All (IsBeside n) (keys_of es) → LieBetween scope es from to
  lie_between from to bounds near = record {
    forward = bounds.forward;
    all = filter_wider (λ e. covers scope e.0) (λ e. range_contains name_cmp (Included from) (Excluded to) e.0) es
        (λ k d within here. bounds.within (get_or es k d).0 (subst (IsBeside n) (get_or-map (λ e. e.0) es k d d.0 within) (near k d.0 (subst (λ (m : ℕ). k < m) (sym (length-map es (λ e. e.0))) within))) here);
  }

  pub range_lies : (r : Result (Option (Range DocName)) AllocError) → All (IsBeside n) (keys_of es) → IfOk r (λ o. IfSome o (λ b. AreBounds scope n b.start b.end))
      → IfOk r (λ o. IfSome o (λ b. LieBetween scope es b.start b.end))
  range_lies (Err e) near made = tt
  range_lies (Ok None) near made = tt
  range_lies (Ok (Some b)) near made = lie_between b.start b.end made near

-- without bounds a walk goes over all
pub all_between : {X : Type 0} (es : List (DocName × X)) → entries_between name_cmp Unbounded Unbounded es ≡ es
all_between [] = refl
all_between (e ∷ es) = ap (λ fs. e ∷ fs) (all_between es)
