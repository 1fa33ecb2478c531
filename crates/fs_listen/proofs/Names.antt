-- The names that are told of, and what is shown at them.
use Rattle.std.proofs.Common.{◌≡◌, Bool, true, false, cond, not, ◌||◌, List, [], ◌∷◌, ◌++◌, Option, Some, None, refl, sym, ap, ◌∙◌}
use Rattle.std.specs.Prelude.{IfSome, is_some}
use Rattle.std.specs.FinMap.{find, get, entries, from_entries, get-entries, get-from_entries, contains_key-keys}
use Rattle.std.specs.List.{AllByRecursion, list_any, flat_map}
use Rattle.std.specs.Ordering.{eq_by_cmp}
use Rattle.fs_path.specs.NameOrder.{name_cmp, name_cmp_total, name_eq}
use Rattle.fs_path.specs.declared.name.DocName.{DocName}
use Rattle.fs_value.proofs.Alike.{documents_are}
use Rattle.fs_value.specs.declared.document.Document.{Document}
use Rattle.fs_write.specs.Batch.{Docs}
use Rattle.fs_listen.specs.Told.{Views, is_differing, names_of, same_there, shown_in}

-- ---- what is the same

pub same_there_is : (a b : Option Document) → same_there a b ≡ true → a ≡ b
same_there_is None None is = refl
same_there_is None (Some b) is = absurd (cc)
same_there_is (Some a) None is = absurd (cc)
same_there_is (Some a) (Some b) is = ap Some (documents_are a b is)

either : (a b : Bool) → (not a || b) ≡ false → (a ≡ true) × (b ≡ false)
either true b none = (refl, none)
either false b none = absurd (cc)

-- where no target's views differ, those of each are the same
pub alike : (name : DocName) (vs : List Views) → is_differing name vs ≡ false
    → AllByRecursion (λ (v : Views). get v.sent name ≡ get v.new name) vs
alike name [] none = tt
alike name (v ∷ vs) none =
    let both = either (same_there (get v.sent name) (get v.new name)) (is_differing name vs) none in
    (same_there_is _ _ both.0, alike name vs both.1)

-- ---- what is shown

-- none where nothing is shown
pub none_shown : (name : DocName) (vs : List Views) → shown_in name vs ≡ None → AllByRecursion (λ (v : Views). get v.new name ≡ None) vs
none_shown name [] none = tt
none_shown name (v ∷ vs) none = by_view (none_shown name vs) (get v.new name) refl where
  by_view : (shown_in name vs ≡ None → AllByRecursion (λ (w : Views). get w.new name ≡ None) vs) → (o : Option Document) → get v.new name ≡ o → (get v.new name ≡ None) × AllByRecursion (λ (w : Views). get w.new name ≡ None) vs
  by_view again None is = (is, again (ap (λ o. cond (is_some o) o (shown_in name vs)) (sym is) ∙ none))
  by_view again (Some d) is = absurd (let shown : Some d ≡ None = ap (λ o. cond (is_some o) o (shown_in name vs)) (sym is) ∙ none in cc)

-- what is shown is there, where each new view shows what is there
pub shown_there : (docs : Docs) (name : DocName) (vs : List Views) (d : Document) → AllByRecursion (λ (v : Views). IfSome (get v.new name) (λ x. get docs name ≡ Some x)) vs
    → shown_in name vs ≡ Some d → get docs name ≡ Some d
shown_there docs name [] d agree shown = absurd (cc)
shown_there docs name (v ∷ vs) d agree shown = by_view (shown_there docs name vs d agree.1) (get v.new name) agree.0 shown where
  by_view : (shown_in name vs ≡ Some d → get docs name ≡ Some d) → (o : Option Document) → IfSome o (λ x. get docs name ≡ Some x) → cond (is_some o) o (shown_in name vs) ≡ Some d → get docs name ≡ Some d
  by_view again None none is = again is
  by_view again (Some x) there is = there ∙ is

-- ---- names that aren't told of

neither : (b : Bool) (x : Document) (rest : Option Document) → cond b (Some x) rest ≡ None → (b ≡ false) × (rest ≡ None)
neither true x rest none = absurd (cc)
neither false x rest none = (refl, none)

not_in_both : (name : DocName) (es fs : List (DocName × Document)) → find name_cmp name (es ++ fs) ≡ None
    → (find name_cmp name es ≡ None) × (find name_cmp name fs ≡ None)
not_in_both name [] fs none = (refl, none)
not_in_both name (e ∷ es) fs none =
    let parts = neither (eq_by_cmp name_cmp name e.0) e.1 (find name_cmp name (es ++ fs)) none in
    let rest = not_in_both name es fs parts.1 in
    (ap (λ b. cond b (Some e.1) (find name_cmp name es)) parts.0 ∙ rest.0, rest.1)

not_in_any : (side : Views → Docs) (name : DocName) (vs : List Views) → find name_cmp name (flat_map (λ (v : Views). entries (side v)) vs) ≡ None
    → AllByRecursion (λ (v : Views). get (side v) name ≡ None) vs
not_in_any side name [] none = tt
not_in_any side name (v ∷ vs) none =
    let both = not_in_both name (entries (side v)) (flat_map (λ (w : Views). entries (side w)) vs) none in
    (get-entries (side v) name ∙ both.0, not_in_any side name vs both.1)

none_is : (o : Option Document) → is_some o ≡ false → o ≡ None
none_is None is = refl
none_is (Some d) is = absurd (cc)

-- at a name that isn't among those of the views, no view has a document
pub unnamed : (name : DocName) (vs : List Views) → list_any (name_eq name) (names_of vs) ≡ false
    → AllByRecursion (λ (v : Views). get v.sent name ≡ None) vs × AllByRecursion (λ (v : Views). get v.new name ≡ None) vs
unnamed name vs none =
    let olds = flat_map (λ (v : Views). entries v.sent) vs in
    let news = flat_map (λ (v : Views). entries v.new) vs in
    let got = none_is _ (contains_key-keys (from_entries {R = name_cmp} (olds ++ news)) name ∙ none) in
    let both = not_in_both name olds news (sym (get-from_entries name_cmp_total (olds ++ news) name) ∙ got) in
    (not_in_any (λ (v : Views). v.sent) name vs both.0, not_in_any (λ (v : Views). v.new) name vs both.1)
