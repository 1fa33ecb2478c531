-- The documents of what a client has: at each name, and as a list by rising names.
use Rattle.std.proofs.Common.{◌≡◌, Bool, true, false, cond, List, [], ◌∷◌, map, Option, Some, None, refl, sym, ap, ◌∙◌, subst}
use Rattle.std.specs.Prelude.{IfSome, IsTrue}
use Rattle.std.specs.BTreeMap.{is_at}
use Rattle.std.specs.FinMap.{entries, from_entries, get, is_sorted, values}
use Rattle.std.specs.List.{cons_option, filter_map}
use Rattle.std.specs.Map.{lookup, values_of}
use Rattle.std.specs.Option.{option_and_then, option_map, unwrap_or}
use Rattle.fs_path.specs.NameOrder.{name_cmp, name_cmp_total, name_eq, name_itself}
use Rattle.fs_path.specs.declared.name.DocName.{DocName}
use Rattle.fs_value.specs.Named.{StandAtNames, by_name}
use Rattle.fs_value.specs.declared.document.Document.{Document}
use Rattle.fs_value.proofs.Named.{by_own_names}
use Rattle.fs_value.proofs.Tree.{entries_rising, get_tree}
use Rattle.fs_cache.specs.Cached.{Had, documents_of}
use Rattle.fs_cache.specs.Places.{AreNamed, Places, place_at, standing_in}
use Rattle.fs_cache.specs.declared.cached.CachedDocument.{CachedDocument}
use Rattle.fs_cache.proofs.Kept.{get-kept, keep, lookup-entries, lookup-keep, none_behind, rest_rises, rises, rising_kept}
use Rattle.fs_cache.proofs.Laid.{get-standing_in, same_docs}

abbrev doc : DocName → CachedDocument → Option Document
doc name c = Some c.document

-- ---- at a name

docs_kept : (es : List (DocName × CachedDocument)) → map (λ (e : DocName × CachedDocument). (e.0, e.1.document)) es ≡ filter_map (keep doc) es
docs_kept [] = refl
docs_kept (e ∷ es) = ap (λ ds. (e.0, e.1.document) ∷ ds) (docs_kept es)

pub get-documents_of : (docs : Had) (q : DocName) → get (documents_of docs) q ≡ option_map (λ c. c.document) (get docs q)
get-documents_of docs q = ap (λ es. get (from_entries {R = name_cmp} es) q) (docs_kept (entries docs)) ∙ get-kept doc docs q ∙ same (get docs q) where
  same : (o : Option CachedDocument) → option_and_then (doc q) o ≡ option_map (λ c. c.document) o
  same None = refl
  same (Some c) = refl

-- ---- those that stand at places

-- in the order of the places
abbrev pub shown : List (Option CachedDocument) → List Document
shown ps = filter_map (option_map (λ c. c.document)) ps

abbrev stands : DocName → Option CachedDocument → Option CachedDocument
stands name place = place

standing_entries : (places : Places) → IsTrue (is_sorted name_cmp places) → entries (standing_in places) ≡ filter_map (keep stands) places
standing_entries places rise =
    ap (λ docs. entries docs)
    (same_docs (standing_in places) (from_entries (filter_map (keep stands) places))
    (λ q. get-standing_in places q ∙ same q (place_at places q) ∙ sym (lookup-keep stands places q rise) ∙ get_tree name_cmp_total (filter_map (keep stands) places) q))
    ∙ entries_rising name_cmp_total (filter_map (keep stands) places) (rising_kept stands places rise)
  where
    same : (q : DocName) (p : Option (Option CachedDocument)) → unwrap_or p None ≡ option_and_then (stands q) p
    same q None = refl
    same q (Some o) = refl

entries_of : (docs : Had) → entries (documents_of docs) ≡ filter_map (keep doc) (entries docs)
entries_of docs =
    ap (λ es. entries (from_entries {R = name_cmp} es)) (docs_kept (entries docs))
    ∙ entries_rising name_cmp_total (filter_map (keep doc) (entries docs)) (rising_kept doc (entries docs) (rises docs))

shown_entries : (places : Places) → map (λ (e : DocName × Document). e.1) (filter_map (keep doc) (filter_map (keep stands) places)) ≡ shown (values_of places)
shown_entries [] = refl
shown_entries (e ∷ es) = one e.1 (shown_entries es) where
  one : (o : Option CachedDocument) → map (λ (d : DocName × Document). d.1) (filter_map (keep doc) (filter_map (keep stands) es)) ≡ shown (values_of es)
      → map (λ (d : DocName × Document). d.1) (filter_map (keep doc) (cons_option (option_map (λ c. (e.0, c)) o) (filter_map (keep stands) es)))
      ≡ cons_option (option_map (λ c. c.document) o) (shown (values_of es))
  one None rest = rest
  one (Some c) rest = ap (λ ds. c.document ∷ ds) rest

pub shown_standing : (places : Places) → IsTrue (is_sorted name_cmp places) → shown (values_of places) ≡ values (documents_of (standing_in places))
shown_standing places rise =
    sym (ap (map (λ (e : DocName × Document). e.1)) (entries_of (standing_in places) ∙ ap (filter_map (keep doc)) (standing_entries places rise)) ∙ shown_entries places)

-- ---- by their names

stand_at : (es : List (DocName × Document)) → IsTrue (is_sorted name_cmp es) → ((q : DocName) → IfSome (lookup (is_at (name_cmp q)) es) (λ d. d.name ≡ q)) → StandAtNames es
stand_at [] rise named = tt
stand_at (e ∷ es) rise named = (
  subst (λ b. IfSome (cond b (Some e.1) (lookup (is_at (name_cmp e.0)) es)) (λ d. d.name ≡ e.0)) (name_itself e.0) (named e.0),
  stand_at es (rest_rises e es rise) (λ q. one q (name_eq q e.0) refl (named q)),
) where
  one : (q : DocName) (b : Bool) → name_eq q e.0 ≡ b → IfSome (cond b (Some e.1) (lookup (is_at (name_cmp q)) es)) (λ d. d.name ≡ q) → IfSome (lookup (is_at (name_cmp q)) es) (λ d. d.name ≡ q)
  one q true ties named = subst (λ o. IfSome o (λ d. d.name ≡ q)) (sym (none_behind e es q rise ties)) tt
  one q false ties named = named

pub documents_named : (docs : Had) → AreNamed docs → (q : DocName) → IfSome (get (documents_of docs) q) (λ d. d.name ≡ q)
documents_named docs named q = subst (λ o. IfSome o (λ d. d.name ≡ q)) (sym (get-documents_of docs q)) (one (get docs q) (named q)) where
  one : (o : Option CachedDocument) → IfSome o (λ c. c.document.name ≡ q) → IfSome (option_map (λ c. c.document) o) (λ d. d.name ≡ q)
  one None named = tt
  one (Some c) named = named

pub documents_rise : (docs : Had) → AreNamed docs → IsTrue (is_sorted name_cmp (by_name (values (documents_of docs))))
documents_rise docs named =
    let all = documents_of docs in
    subst (λ es. IsTrue (is_sorted name_cmp es))
    (sym (by_own_names (entries all)
    (stand_at (entries all) (rises all) (λ q. subst (λ o. IfSome o (λ d. d.name ≡ q)) (sym (lookup-entries all q)) (documents_named docs named q)))))
    (rises all)
