-- What stands at places, as the documents of a finite map.
use Rattle.std.proofs.Common.{◌≡◌, ℤ, Bool, true, false, cond, List, [], ◌∷◌, Option, Some, None, refl, sym, ap, ◌∙◌, subst, arith}
use Rattle.std.specs.Prelude.{IsTrue, is_some}
use Rattle.std.specs.BTreeMap.{is_at}
use Rattle.std.specs.Cmp.{first_so, second_so}
use Rattle.std.specs.FinMap.{FinMap, empty, entries, entries_sorted, find, from_entries, get, get-empty, get-entries, get-from_entries, get-insert, insert, is_sorted, same_map}
use Rattle.std.specs.FinMap.Entries.{below_all}
use Rattle.std.specs.Cmp.Derive.{both_true}
use Rattle.std.specs.List.{cons_option, filter_map}
use Rattle.std.specs.Map.{lookup}
use Rattle.std.specs.Option.{option_map}
use Rattle.std.specs.Ordering.{eq_by_cmp, is_lt}
use Rattle.std.proofs.lemmas.Cmp.{eq_by_cmp_equiv}
use Rattle.std.proofs.lemmas.Int.{ints}
use Rattle.fs_path.proofs.Bools.{to_true}
use Rattle.fs_path.specs.NameOrder.{name_cmp, name_cmp_total, name_is, name_itself, name_same}
use Rattle.fs_path.specs.declared.name.DocName.{DocName}
use Rattle.fs_value.specs.declared.document.Document.{Document}
use Rattle.fs_value.proofs.Tree.{get_tree}
use Rattle.fs_write.specs.Batch.{AreNamed, Bears, with_document}
use Rattle.fs_write.proofs.Stages.{get-with_document}
use Rattle.fs_history.proofs.Names.{none_below}
use Rattle.fs_target.specs.Places.{StandNamed, docs_in, is_until, lasts, stood}
use Rattle.fs_target.specs.declared.place.Place.{Place}

abbrev pub Placed : Type 0
Placed = FinMap name_cmp Place

-- ---- a look-up

-- none is found behind the first entry under its name
none_behind : {X : Type 0} (name : DocName) (e : DocName × X) (es : List (DocName × X)) → IsTrue (is_sorted name_cmp (e ∷ es)) → eq_by_cmp name_cmp name e.0 ≡ true → find name_cmp name es ≡ None
none_behind name e es rise ties =
    ap (λ n. find name_cmp n es) (name_is name e.0 ties) ∙ none_below e.0 es (first_so (below_all name_cmp e.0 es) (is_sorted name_cmp es) rise)

-- entries that a function keeps, each under its key
abbrev pub keep : {X Y : Type 0} → (DocName → X → Option Y) → DocName × X → Option (DocName × Y)
keep f e = option_map (λ y. (e.0, y)) (f e.0 e.1)

-- what it makes of what is found
abbrev pub then_at : {X Y : Type 0} → (DocName → X → Option Y) → DocName → Option X → Option Y
then_at f name None = None
then_at f name (Some x) = f name x

module _ {X Y : Type 0} (f : DocName → X → Option Y) where
  pub find_kept : (name : DocName) (es : List (DocName × X)) → IsTrue (is_sorted name_cmp es) → find name_cmp name (filter_map (keep f) es) ≡ then_at f name (find name_cmp name es)
  find_kept name [] rise = refl
  find_kept name (e ∷ es) rise = one (find_kept name es (second_so (below_all name_cmp e.0 es) (is_sorted name_cmp es) rise)) (f e.0 e.1) (eq_by_cmp name_cmp name e.0) refl refl where
    one : find name_cmp name (filter_map (keep f) es) ≡ then_at f name (find name_cmp name es) → (o : Option Y) (b : Bool) → f e.0 e.1 ≡ o → eq_by_cmp name_cmp name e.0 ≡ b
        → find name_cmp name (cons_option (option_map (λ y. (e.0, y)) o) (filter_map (keep f) es)) ≡ then_at f name (cond b (Some e.1) (find name_cmp name es))
    one rest None true is ties =
        rest ∙ ap (then_at f name) (none_behind name e es rise ties) ∙ sym is ∙ ap (λ n. f n e.1) (sym (name_is name e.0 ties))
    one rest None false is ties = rest
    one rest (Some y) true is ties =
        ap (λ b. cond b (Some y) (find name_cmp name (filter_map (keep f) es))) ties ∙ sym is ∙ ap (λ n. f n e.1) (sym (name_is name e.0 ties))
    one rest (Some y) false is ties = ap (λ b. cond b (Some y) (find name_cmp name (filter_map (keep f) es))) ties ∙ rest

  below_kept : (name : DocName) (es : List (DocName × X)) → IsTrue (below_all name_cmp name es) → IsTrue (below_all name_cmp name (filter_map (keep f) es))
  below_kept name [] below = refl
  below_kept name (e ∷ es) below =
      one (below_kept name es (second_so (is_lt (name_cmp name e.0)) (below_all name_cmp name es) below)) (first_so (is_lt (name_cmp name e.0)) (below_all name_cmp name es) below) (f e.0 e.1) where
        one : IsTrue (below_all name_cmp name (filter_map (keep f) es)) → IsTrue (is_lt (name_cmp name e.0)) → (o : Option Y)
            → IsTrue (below_all name_cmp name (cons_option (option_map (λ y. (e.0, y)) o) (filter_map (keep f) es)))
        one rest less None = rest
        one rest less (Some y) = both_true less rest

  pub rising_kept : (es : List (DocName × X)) → IsTrue (is_sorted name_cmp es) → IsTrue (is_sorted name_cmp (filter_map (keep f) es))
  rising_kept [] rise = refl
  rising_kept (e ∷ es) rise =
      one (rising_kept es (second_so (below_all name_cmp e.0 es) (is_sorted name_cmp es) rise)) (below_kept e.0 es (first_so (below_all name_cmp e.0 es) (is_sorted name_cmp es) rise)) (f e.0 e.1) where
        one : IsTrue (is_sorted name_cmp (filter_map (keep f) es)) → IsTrue (below_all name_cmp e.0 (filter_map (keep f) es)) → (o : Option Y)
            → IsTrue (is_sorted name_cmp (cons_option (option_map (λ y. (e.0, y)) o) (filter_map (keep f) es)))
        one rest below None = rest
        one rest below (Some y) = both_true below rest

  -- the map of those that are kept
  pub get-kept : (m : FinMap name_cmp X) (name : DocName) → get (from_entries {R = name_cmp} (filter_map (keep f) (entries m))) name ≡ then_at f name (get m name)
  get-kept m name =
      get-from_entries name_cmp_total (filter_map (keep f) (entries m)) name
      ∙ find_kept name (entries m) (to_true _ (entries_sorted m))
      ∙ ap (then_at f name) (sym (get-entries m name))

-- ---- what stands at places

same_stood : (o : Option Place) (name : DocName) → then_at (λ (_ : DocName) (x : Place). x.document) name o ≡ stood o
same_stood None name = refl
same_stood (Some p) name = refl

pub get-docs_in : (places : Placed) (name : DocName) → get (docs_in places) name ≡ stood (get places name)
get-docs_in places name = get-kept (λ (_ : DocName) (x : Place). x.document) places name ∙ same_stood (get places name) name

pub docs-empty : docs_in empty ≡ empty
docs-empty = same_map name_cmp_total name_same (docs_in empty) empty (λ q. get-docs_in empty q ∙ ap stood (get-empty name_cmp q) ∙ sym (get-empty name_cmp q))

-- what is put at a place
put_there : (b : Bool) (p : Place) (there : Option Place) → stood (cond b (Some p) there) ≡ cond b p.document (stood there)
put_there true p there = refl
put_there false p there = refl

pub docs-insert : (places : Placed) (name : DocName) (p : Place) → docs_in (insert places name p) ≡ with_document (docs_in places) name p.document
docs-insert places name p =
    same_map name_cmp_total name_same (docs_in (insert places name p)) (with_document (docs_in places) name p.document)
    (λ q. get-docs_in (insert places name p) q
    ∙ ap stood (get-insert name_cmp_total places name p q)
    ∙ put_there (eq_by_cmp name_cmp q name) p (get places q)
    ∙ ap (λ b. cond b p.document (stood (get places q))) ((eq_by_cmp_equiv name_cmp_total).symm q name)
    ∙ ap (cond (is_at (name_cmp name) q) p.document) (sym (get-docs_in places q))
    ∙ sym (get-with_document (docs_in places) name p.document q))

-- a place at which the same stands as there did
same_there : (places : Placed) (name q : DocName) (p : Place) (b : Bool) → p.document ≡ stood (get places name) → eq_by_cmp name_cmp q name ≡ b → stood (cond b (Some p) (get places q)) ≡ stood (get places q)
same_there places name q p true same ties = same ∙ ap (λ n. stood (get places n)) (sym (name_is q name ties))
same_there places name q p false same ties = refl

pub docs-same : (places : Placed) (name : DocName) (p : Place) → p.document ≡ stood (get places name) → docs_in (insert places name p) ≡ docs_in places
docs-same places name p same =
    same_map name_cmp_total name_same (docs_in (insert places name p)) (docs_in places)
    (λ q. get-docs_in (insert places name p) q
    ∙ ap stood (get-insert name_cmp_total places name p q)
    ∙ same_there places name q p (eq_by_cmp name_cmp q name) same refl
    ∙ sym (get-docs_in places q))

-- nothing is taken out where no place is
pub docs-none : (places : Placed) (name : DocName) → get places name ≡ None → with_document (docs_in places) name None ≡ docs_in places
docs-none places name none =
    same_map name_cmp_total name_same (with_document (docs_in places) name None) (docs_in places)
    (λ q. get-with_document (docs_in places) name None q ∙ gone q (is_at (name_cmp name) q) refl) where
      gone : (q : DocName) (b : Bool) → is_at (name_cmp name) q ≡ b → cond b None (get (docs_in places) q) ≡ get (docs_in places) q
      gone q true ties = sym (get-docs_in places q ∙ ap (λ n. stood (get places n)) (sym (name_is name q ties)) ∙ ap stood none)
      gone q false ties = refl

pub not_put : (places : Placed) (name : DocName) (o : Option Document) → get places name ≡ None → (IsTrue (is_some o) → IsTrue (is_some (get places name))) → docs_in places ≡ with_document (docs_in places) name o
not_put places name None none place = sym (docs-none places name none)
not_put places name (Some d) none place = absurd (let e : false ≡ true = sym (ap is_some none) ∙ place refl in cc)

-- a place stays where another is put, if that stays as long
stays : (time : ℤ) (b : Bool) (p : Place) (there : Option Place) → (b ≡ true → IsTrue (is_until time there) → IsTrue (lasts time p.until)) → IsTrue (is_until time there) → IsTrue (is_until time (cond b (Some p) there))
stays time true p there long some = long refl some
stays time false p there long some = some

pub kept_inserted : (places : Placed) (name : DocName) (p : Place) (q : DocName) (time : ℤ) → (IsTrue (is_until time (get places name)) → IsTrue (lasts time p.until))
    → IsTrue (is_until time (get places q)) → IsTrue (is_until time (get (insert places name p) q))
kept_inserted places name p q time long some =
    subst (λ t. IsTrue (is_until time t)) (sym (get-insert name_cmp_total places name p q))
    (stays time (eq_by_cmp name_cmp q name) p (get places q) (λ ties had. long (subst (λ n. IsTrue (is_until time (get places n))) (name_is q name ties) had)) some)

pub there_inserted : (places : Placed) (name : DocName) (p : Place) (time : ℤ) → IsTrue (lasts time p.until) → IsTrue (is_until time (get (insert places name p) name))
there_inserted places name p time long =
    subst (λ t. IsTrue (is_until time t)) (sym (get-insert name_cmp_total places name p name ∙ ap (λ b. cond b (Some p) (get places name)) (name_itself name))) long

pub lasts_itself : (time : ℤ) → IsTrue (lasts time (Some time))
lasts_itself time = grind (arith, ints)

-- where there is no place, none stays
pub none_until : (time : ℤ) (o : Option Place) (p : Place) → o ≡ None → IsTrue (is_until time o) → IsTrue (lasts time p.until)
none_until time o p none until = absurd (let both : false ≡ true = sym (ap (is_until time) none) ∙ until in cc)

-- what stays until a time is there
pub until_some : (time : ℤ) (o : Option Place) → IsTrue (is_until time o) → IsTrue (is_some o)
until_some time None until = until
until_some time (Some p) until = refl

-- a document has a place
pub placed_where : (places : Placed) (name : DocName) → IsTrue (is_some (get (docs_in places) name)) → IsTrue (is_some (get places name))
placed_where places name some = there (get places name) (subst (λ o. IsTrue (is_some o)) (get-docs_in places name) some) where
  there : (o : Option Place) → IsTrue (is_some (stood o)) → IsTrue (is_some o)
  there None some = some
  there (Some p) some = refl

-- ---- of a tree

pub none_there : (es : List (DocName × Place)) (name : DocName) → is_some (lookup (is_at (name_cmp name)) es) ≡ false → get (from_entries {R = name_cmp} es) name ≡ None
none_there es name none = sym (get_tree name_cmp_total es name) ∙ is_none (lookup (is_at (name_cmp name)) es) none where
  is_none : (o : Option Place) → is_some o ≡ false → o ≡ None
  is_none None is = refl
  is_none (Some p) is = absurd (cc)

-- each document bears its name
pub named_tree : (es : List (DocName × Place)) → StandNamed es → AreNamed (docs_in (from_entries es))
named_tree es named name =
    subst (λ o. Bears o name) (sym (get-docs_in (from_entries es) name ∙ ap stood (sym (get_tree name_cmp_total es name)))) (named name)

named_there : (b : Bool) (p : Place) (there : Option Place) (q : DocName) → (b ≡ true → Bears p.document q) → Bears (stood there) q → Bears (stood (cond b (Some p) there)) q
named_there true p there q named others = named refl
named_there false p there q named others = others

pub named_put : (es fs : List (DocName × Place)) (name : DocName) (p : Place)
    → ((q : DocName) → lookup (is_at (name_cmp q)) fs ≡ cond (is_at (name_cmp name) q) (Some p) (lookup (is_at (name_cmp q)) es))
    → Bears p.document name → StandNamed es → StandNamed fs
named_put es fs name p is bears named q =
    subst (λ t. Bears (stood t) q) (sym (is q))
    (named_there (is_at (name_cmp name) q) p (lookup (is_at (name_cmp q)) es) q (λ ties. subst (Bears p.document) (name_is name q ties) bears) (named q))

-- where the same stands
pub named_same : (es fs : List (DocName × Place)) (name : DocName) (p d : Place)
    → ((q : DocName) → lookup (is_at (name_cmp q)) fs ≡ cond (is_at (name_cmp name) q) (Some p) (lookup (is_at (name_cmp q)) es))
    → lookup (is_at (name_cmp name)) es ≡ Some d → p.document ≡ d.document → StandNamed es → StandNamed fs
named_same es fs name p d is there same named =
    named_put es fs name p is (subst (λ o. Bears o name) (ap stood there ∙ sym same) (named name)) named
