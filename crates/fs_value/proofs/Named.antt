-- Documents that stand at their own names in a tree.
use Rattle.std.specs.Prelude.{◌≡◌, IsTrue, IfSome, T, Bool, true, false, cond, List, [], ◌∷◌, map, Option, Some, refl}
use Rattle.std.proofs.Common.{sym, ◌∙◌, subst}
use Rattle.std.specs.Ordering.{is_eq, match_ordering}
use Rattle.std.specs.declared.cmp.Ordering.{Ordering}
use Rattle.std.specs.declared.cmp.Ordering.TheVariants.{Less, Equal, Greater}
use Rattle.std.specs.Map.{lookup, remove_entry}
use Rattle.std.specs.BTreeMap.{is_at, insert_entry}
use Rattle.std.specs.FinMap.{is_sorted, from_sorted, from_entries, same_entries_map, entries-from_sorted}
use Rattle.fs_path.specs.declared.name.DocName.{DocName}
use Rattle.fs_path.specs.NameOrder.{name_cmp, name_cmp_total, name_same}
use Rattle.fs_value.specs.Named.{by_name, StandAtNames}
use Rattle.fs_value.specs.declared.document.Document.{Document}
use Rattle.fs_value.proofs.Tree.{entries_rising}

-- a document that is put at its own name
inserted_at : (r : Ordering) (k : DocName) (d : Document) (e : DocName × Document) (es rest : List (DocName × Document)) → d.name ≡ k → (r ≡ Equal → k ≡ e.0)
    → StandAtNames (e ∷ es) → StandAtNames rest → StandAtNames (match_ordering r ((k, d) ∷ e ∷ es) ((e.0, d) ∷ es) (e ∷ rest))
inserted_at Less k d e es rest own same named others = (own, named)
inserted_at Equal k d e es rest own same named others = (own ∙ same refl, named.1)
inserted_at Greater k d e es rest own same named others = (named.0, others)

pub named_inserted : (es : List (DocName × Document)) (k : DocName) (d : Document) → d.name ≡ k → StandAtNames es → StandAtNames (insert_entry name_cmp es k d)
named_inserted [] k d own named = (own, tt)
named_inserted (e ∷ es) k d own named = inserted_at (name_cmp k e.0) k d e es (insert_entry name_cmp es k d) own (name_same k e.0) named (named_inserted es k d own named.1)

removed_at : (b : Bool) (e : DocName × Document) (es rest : List (DocName × Document)) → StandAtNames (e ∷ es) → StandAtNames rest → StandAtNames (cond b es (e ∷ rest))
removed_at true e es rest named others = named.1
removed_at false e es rest named others = (named.0, others)

pub named_removed : (test : DocName → Bool) (es : List (DocName × Document)) → StandAtNames es → StandAtNames (remove_entry test es)
named_removed test [] named = tt
named_removed test (e ∷ es) named = removed_at (test e.0) e es (remove_entry test es) named (named_removed test es named.1)

-- the documents of the entries, each at its name again
pub by_own_names : (es : List (DocName × Document)) → StandAtNames es → by_name (map (λ e. e.1) es) ≡ es
by_own_names [] named = refl
by_own_names (e ∷ es) named = (λ i. (named.0 i, e.1) ∷ by_own_names es named.1 i)

found_at : (r : Ordering) (q : DocName) (e : DocName × Document) (rest : Option Document) → (r ≡ Equal → q ≡ e.0) → e.1.name ≡ e.0
    → IfSome rest (λ d. d.name ≡ q) → IfSome (cond (is_eq r) (Some e.1) rest) (λ d. d.name ≡ q)
found_at Less q e rest same own others = others
found_at Equal q e rest same own others = own ∙ sym (same refl)
found_at Greater q e rest same own others = others

-- what is found at a name bears it
pub found_named : (es : List (DocName × Document)) (q : DocName) → StandAtNames es → IfSome (lookup (is_at (name_cmp q)) es) (λ d. d.name ≡ q)
found_named [] q named = tt
found_named (e ∷ es) q named = found_at (name_cmp q e.0) q e (lookup (is_at (name_cmp q)) es) (name_same q e.0) named.0 (found_named es q named.1)

-- a list whose keys rise is one map, whichever way it is made
pub one_map : (es : List (DocName × Document)) → IsTrue (is_sorted name_cmp es) → from_sorted {R = name_cmp} es ≡ from_entries {R = name_cmp} es
one_map es rise = same_entries_map _ _ (entries-from_sorted name_cmp es (subst T (sym rise) tt) ∙ sym (entries_rising name_cmp_total es rise))
