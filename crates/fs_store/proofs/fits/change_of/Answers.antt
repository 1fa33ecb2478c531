use Rattle.std.proofs.Common.{rules, ◌≡◌, ℕ, List, Some, None, length, get_or, Result, Ok, Err, sym, ap, ◌∙◌, subst}
use Rattle.std.specs.Prelude.{IsTrue, MatchResult}
use Rattle.std.specs.FinMap.{find, is_sorted}
use Rattle.std.specs.List.Sorted.{IsBinarySearchResult, IsSearchInRange}
use Rattle.std.proofs.lemmas.Fn.{always_returns_same}
use Rattle.fs_path.specs.declared.name.DocName.{DocName}
use Rattle.fs_path.specs.NameOrder.{name_cmp, name_cmp_total}
use Rattle.fs_value.proofs.Search.{searched}
use Rattle.fs_write.specs.Batch.{changes_by_name}
use Rattle.fs_write.specs.declared.change.Change.{Change}
use Rattle.fs_store.proofs.fits.change_of.Goals as goal

Found : DocName → List Change → Result ℕ ℕ → Type 0
Found name cs r = MatchResult r (λ i. (d : Change) → find name_cmp name (changes_by_name cs) ≡ Some (get_or cs i d)) (λ i. find name_cmp name (changes_by_name cs) ≡ None)

-- what a search has found
sought : (name : DocName) (cs : List Change) (r s : Result ℕ ℕ) → r ≡ s → IsTrue (is_sorted name_cmp (changes_by_name cs))
    → IsSearchInRange r (length cs) → IsBinarySearchResult (λ c. name_cmp c.name name) cs r → Found name cs s
unfolding Found
sought name cs r s is rise within ties = subst (Found name cs) is (searched name_cmp (λ c. (c.name, c)) name_cmp_total name cs r rise within ties)

pub returns-in-Ok : goal.returns-in-Ok
unfolding Found
returns-in-Ok c =
    let name = c.args.name.now in
    let ties = c.binary_search_by.ensures.position (λ d. name_cmp d.name name) (always_returns_same _ _ _ (λ a r f' called. search rules)) in
    let found = sought name c.args.changes.now c.binary_search_by.result (Ok c.in-Ok.i) c.in-Ok.is c.requires c.binary_search_by.ensures.bound ties in
    ap Some c.index-changes-i.is ∙ sym (found c.index-changes-i.result)

pub returns-in-Err : goal.returns-in-Err
unfolding Found
returns-in-Err c =
    let name = c.args.name.now in
    let ties = c.binary_search_by.ensures.position (λ d. name_cmp d.name name) (always_returns_same _ _ _ (λ a r f' called. search rules)) in
    sym (sought name c.args.changes.now c.binary_search_by.result (Err c.in-Err.field-0) c.in-Err.is c.requires c.binary_search_by.ensures.bound ties)
