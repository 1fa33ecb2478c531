-- Documents of which some are others, as lists: their entries are those of the others that stand there.
use Rattle.std.proofs.Common.{◌≡◌, ◌⊎◌, inl, inr, Bool, true, false, cond, List, [], ◌∷◌, Option, Some, None, refl, sym, ap, ◌∙◌}
use Rattle.std.specs.Prelude.{IsTrue, is_some, T}
use Rattle.std.specs.Cmp.{first_so, second_so}
use Rattle.std.specs.FinMap.{entries, entries_sorted, entries-from_sorted, find, from_sorted, get, get-entries, get-from_sorted, is_sorted, same_map}
use Rattle.std.specs.FinMap.Entries.{below_all, find-where_key, is_sorted-where_key}
use Rattle.std.specs.List.{Contains, filter}
use Rattle.fs_path.proofs.Bools.{to_true}
use Rattle.fs_path.specs.NameOrder.{name_cmp, name_cmp_total, name_eq, name_is, name_itself, name_same}
use Rattle.fs_path.specs.declared.name.DocName.{DocName}
use Rattle.fs_value.specs.declared.document.Document.{Document}
use Rattle.fs_write.specs.Batch.{Docs}
use Rattle.fs_query.proofs.Rising.{has_cases, has_none}
use Rattle.fs_history.proofs.Names.{none_below}

abbrev pub IsPart : Docs → Docs → Type 0
IsPart part docs = (name : DocName) (d : Document) → get part name ≡ Some d → get docs name ≡ Some d

abbrev pub stands_in : Docs → DocName × Document → Bool
stands_in part e = is_some (get part e.0)

pub part_entries : (part docs : Docs) → IsPart part docs → entries part ≡ filter (stands_in part) (entries docs)
part_entries part docs is =
    ap entries (sym (same_map name_cmp_total name_same (from_sorted there) part found)) ∙ entries-from_sorted name_cmp there rise
  where
    there : List (DocName × Document)
    there = filter (stands_in part) (entries docs)

    rise : T (is_sorted name_cmp there)
    rise = is_sorted-where_key name_cmp (λ name. is_some (get part name)) (entries docs) (entries_sorted docs)

    by_part : (name : DocName) (o : Option Document) → get part name ≡ o → cond (is_some o) (get docs name) None ≡ o
    by_part name None none = refl
    by_part name (Some d) some = is name d some

    found : (name : DocName) → get (from_sorted {R = name_cmp} there) name ≡ get part name
    found name =
        get-from_sorted name_cmp there name rise
        ∙ find-where_key name_cmp (λ n. is_some (get part n)) name (λ other ties. ap (λ n. is_some (get part n)) (sym (name_same name other ties))) (entries docs)
        ∙ ap (λ o. cond (is_some (get part name)) o None) (sym (get-entries docs name))
        ∙ by_part name (get part name) refl

find_entry : (es : List (DocName × Document)) (e : DocName × Document) → IsTrue (is_sorted name_cmp es) → Contains es e → find name_cmp e.0 es ≡ Some e.1
find_entry [] e rise has = absurd (has_none e has)
find_entry (f ∷ es) e rise has =
    by_place (find_entry es e (second_so (below_all name_cmp f.0 es) _ rise)) (has_cases f es e has)
  where
    behind : find name_cmp e.0 es ≡ Some e.1 → (same : Bool) → name_eq e.0 f.0 ≡ same → cond same (Some f.1) (find name_cmp e.0 es) ≡ Some e.1
    behind found true ties =
        let none : find name_cmp e.0 es ≡ None = ap (λ n. find name_cmp n es) (name_is e.0 f.0 ties) ∙ none_below f.0 es (first_so (below_all name_cmp f.0 es) _ rise) in
        absurd (cc)
    behind found false ties = found

    by_place : (Contains es e → find name_cmp e.0 es ≡ Some e.1) → (f ≡ e) ⊎ Contains es e → find name_cmp e.0 (f ∷ es) ≡ Some e.1
    by_place again (inl same) =
        ap (λ (g : DocName × Document). cond (name_eq e.0 g.0) (Some g.1) (find name_cmp e.0 es)) same
        ∙ ap (λ b. cond b (Some e.1) (find name_cmp e.0 es)) (name_itself e.0)
    by_place again (inr later) = behind (again later) (name_eq e.0 f.0) refl

-- what stands in the list stands at its name
pub entry_found : (docs : Docs) (e : DocName × Document) → Contains (entries docs) e → get docs e.0 ≡ Some e.1
entry_found docs e has = get-entries docs e.0 ∙ find_entry (entries docs) e (to_true _ (entries_sorted docs)) has
