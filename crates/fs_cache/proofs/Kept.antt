-- Entries by rising names, of which a function keeps some.
use Rattle.std.proofs.Common.{◌≡◌, Bool, true, false, cond, List, [], ◌∷◌, Option, Some, None, refl, sym, ap, ◌∙◌, subst}
use Rattle.std.specs.Prelude.{IsTrue}
use Rattle.std.specs.BTreeMap.{is_at}
use Rattle.std.specs.Cmp.{first_so, second_so}
use Rattle.std.specs.Cmp.Derive.{both_true}
use Rattle.std.specs.FinMap.{FinMap, entries, entries_sorted, from_entries, get, get-entries, get-from_entries, is_sorted}
use Rattle.std.specs.FinMap.Entries.{below_all}
use Rattle.std.specs.List.{cons_option, filter_map}
use Rattle.std.specs.Map.{lookup}
use Rattle.std.specs.Map.Calls.{RetainsPairs}
use Rattle.std.specs.Option.{option_and_then, option_map}
use Rattle.std.specs.Ordering.{is_lt}
use Rattle.fs_path.proofs.Bools.{to_true}
use Rattle.fs_path.proofs.Orders.{below_less}
use Rattle.fs_path.specs.NameOrder.{name_cmp, name_cmp_total, name_eq, name_is}
use Rattle.fs_path.specs.declared.name.DocName.{DocName}
use Rattle.fs_value.proofs.Tree.{get_tree}

-- ---- rising names

module _ {X : Type 0} where
  pub rises : (m : FinMap {K = DocName} name_cmp X) → IsTrue (is_sorted name_cmp (entries m))
  rises m = to_true _ (entries_sorted m)

  pub lookup-entries : (m : FinMap name_cmp X) (q : DocName) → lookup (is_at (name_cmp q)) (entries m) ≡ get m q
  lookup-entries m q = get_tree name_cmp_total (entries m) q ∙ get-from_entries name_cmp_total (entries m) q ∙ sym (get-entries m q)

  pub rest_rises : (e : DocName × X) (es : List (DocName × X)) → IsTrue (is_sorted name_cmp (e ∷ es)) → IsTrue (is_sorted name_cmp es)
  rest_rises e es rise = second_so (below_all name_cmp e.0 es) (is_sorted name_cmp es) rise

  none_below : (k : DocName) (es : List (DocName × X)) → IsTrue (below_all name_cmp k es) → lookup (is_at (name_cmp k)) es ≡ None
  none_below k [] below = refl
  none_below k (e ∷ es) below =
      let both = below_less (name_cmp k e.0) (below_all name_cmp k es) below in
      ap (λ b. cond b (Some e.1) (lookup (is_at (name_cmp k)) es)) both.0 ∙ none_below k es both.1

  -- none is found behind the first entry under its name
  pub none_behind : (e : DocName × X) (es : List (DocName × X)) (q : DocName) → IsTrue (is_sorted name_cmp (e ∷ es)) → name_eq q e.0 ≡ true → lookup (is_at (name_cmp q)) es ≡ None
  none_behind e es q rise ties =
      ap (λ k. lookup (is_at (name_cmp k)) es) (name_is q e.0 ties) ∙ none_below e.0 es (first_so (below_all name_cmp e.0 es) (is_sorted name_cmp es) rise)

-- ---- those that a function keeps

-- each under its name
abbrev pub keep : {X Y : Type 0} → (DocName → X → Option Y) → DocName × X → Option (DocName × Y)
keep f e = option_map (λ y. (e.0, y)) (f e.0 e.1)

module _ {X Y : Type 0} (f : DocName → X → Option Y) where
  pub lookup-keep : (es : List (DocName × X)) (q : DocName) → IsTrue (is_sorted name_cmp es)
      → lookup (is_at (name_cmp q)) (filter_map (keep f) es) ≡ option_and_then (f q) (lookup (is_at (name_cmp q)) es)
  lookup-keep [] q rise = refl
  lookup-keep (e ∷ es) q rise = one (f e.0 e.1) (name_eq q e.0) refl refl (lookup-keep es q (rest_rises e es rise)) where
    kept : List (DocName × Y)
    kept = filter_map (keep f) es

    one : (o : Option Y) (b : Bool) → f e.0 e.1 ≡ o → name_eq q e.0 ≡ b → lookup (is_at (name_cmp q)) kept ≡ option_and_then (f q) (lookup (is_at (name_cmp q)) es)
        → lookup (is_at (name_cmp q)) (cons_option (option_map (λ y. (e.0, y)) o) kept) ≡ option_and_then (f q) (cond b (Some e.1) (lookup (is_at (name_cmp q)) es))
    one None true is ties rest = rest ∙ ap (option_and_then (f q)) (none_behind e es q rise ties) ∙ sym is ∙ ap (λ k. f k e.1) (sym (name_is q e.0 ties))
    one None false is ties rest = rest
    one (Some y) true is ties rest = ap (λ b. cond b (Some y) (lookup (is_at (name_cmp q)) kept)) ties ∙ sym is ∙ ap (λ k. f k e.1) (sym (name_is q e.0 ties))
    one (Some y) false is ties rest = ap (λ b. cond b (Some y) (lookup (is_at (name_cmp q)) kept)) ties ∙ rest

  below_kept : (k : DocName) (es : List (DocName × X)) → IsTrue (below_all name_cmp k es) → IsTrue (below_all name_cmp k (filter_map (keep f) es))
  below_kept k [] below = refl
  below_kept k (e ∷ es) below =
      one (f e.0 e.1) (first_so (is_lt (name_cmp k e.0)) (below_all name_cmp k es) below) (below_kept k es (second_so (is_lt (name_cmp k e.0)) (below_all name_cmp k es) below)) where
        one : (o : Option Y) → IsTrue (is_lt (name_cmp k e.0)) → IsTrue (below_all name_cmp k (filter_map (keep f) es))
            → IsTrue (below_all name_cmp k (cons_option (option_map (λ y. (e.0, y)) o) (filter_map (keep f) es)))
        one None less rest = rest
        one (Some y) less rest = both_true less rest

  pub rising_kept : (es : List (DocName × X)) → IsTrue (is_sorted name_cmp es) → IsTrue (is_sorted name_cmp (filter_map (keep f) es))
  rising_kept [] rise = refl
  rising_kept (e ∷ es) rise =
      one (f e.0 e.1) (below_kept e.0 es (first_so (below_all name_cmp e.0 es) (is_sorted name_cmp es) rise)) (rising_kept es (rest_rises e es rise)) where
        one : (o : Option Y) → IsTrue (below_all name_cmp e.0 (filter_map (keep f) es)) → IsTrue (is_sorted name_cmp (filter_map (keep f) es))
            → IsTrue (is_sorted name_cmp (cons_option (option_map (λ y. (e.0, y)) o) (filter_map (keep f) es)))
        one None below rest = rest
        one (Some y) below rest = both_true below rest

  -- the map of those that are kept
  pub get-kept : (m : FinMap name_cmp X) (q : DocName) → get (from_entries {R = name_cmp} (filter_map (keep f) (entries m))) q ≡ option_and_then (f q) (get m q)
  get-kept m q =
      sym (get_tree name_cmp_total (filter_map (keep f) (entries m)) q) ∙ lookup-keep (entries m) q (rises m) ∙ ap (option_and_then (f q)) (lookup-entries m q)

-- those that are changed and then kept by a test
abbrev pub changed : {X : Type 0} → (X → X) → (DocName → X → Bool) → DocName → X → Option X
changed change stays k v = cond (stays k (change v)) (Some (change v)) None

-- by a closure that stays as it was
module _ {F X : Type 0} (T : F → DocName → X → Bool → X → F → Type 0) (change : X → X) (stays : DocName → X → Bool) (g : F)
    (calls : (k : DocName) (v : X) (b : Bool) (w : X) (g' : F) → T g k v b w g' → (b ≡ stays k w) × (w ≡ change v) × (g' ≡ g)) where
  pub retained : (es kept : List (DocName × X)) → RetainsPairs T g es kept → kept ≡ filter_map (keep (changed change stays)) es
  retained [] kept is = is
  retained (e ∷ es) kept r =
      let called = calls e.0 e.1 r.0 r.1 r.2 r.4 in
      let rest = retained es r.3 (subst (λ h. RetainsPairs T h es r.3) called.2 r.5) in
      r.6
      ∙ ap (λ b. cond b ((e.0, r.1) ∷ r.3) r.3) called.0
      ∙ (λ i. cond (stays e.0 (called.1 i)) ((e.0, called.1 i) ∷ rest i) (rest i))
      ∙ one (stays e.0 (change e.1))
    where
      more : List (DocName × X)
      more = filter_map (keep (changed change stays)) es

      one : (b : Bool) → cond b ((e.0, change e.1) ∷ more) more ≡ cons_option (option_map (λ w. (e.0, w)) (cond b (Some (change e.1)) None)) more
      one true = refl
      one false = refl
