use Rattle.std.proofs.Common.{rules, ◌≡◌, ℕ, List, Some, None, length, get_or, Result, Ok, Err, sym, ap, ◌∙◌, subst}
use Rattle.std.specs.Prelude.{IsTrue, MatchResult}
use Rattle.std.specs.FinMap.{find, is_sorted}
use Rattle.std.specs.List.Sorted.{IsBinarySearchResult, IsSearchInRange}
use Rattle.std.proofs.lemmas.Fn.{always_returns_same}
use Rattle.fs_path.specs.declared.name.DocName.{DocName}
use Rattle.fs_path.specs.NameOrder.{name_cmp, name_cmp_total}
use Rattle.fs_value.specs.Named.{by_name}
use Rattle.fs_value.specs.declared.document.Document.{Document}
use Rattle.fs_value.proofs.Search.{searched}
use Rattle.fs_value.proofs.document.Documents.find.Goals as goal

Found : DocName → List Document → Result ℕ ℕ → Type 0
Found key ds r = MatchResult r (λ i. (d : Document) → find name_cmp key (by_name ds) ≡ Some (get_or ds i d)) (λ i. find name_cmp key (by_name ds) ≡ None)

-- the same of the slice that is searched
sought : (key : DocName) (ds slice : List Document) (r s : Result ℕ ℕ) → slice ≡ ds → r ≡ s → IsTrue (is_sorted name_cmp (by_name ds))
    → IsSearchInRange r (length slice) → IsBinarySearchResult (λ d. name_cmp d.name key) slice r → Found key ds s
unfolding Found
sought key ds slice r s e is rise within ties =
    subst (Found key ds) is
    (searched name_cmp (λ x. (x.name, x)) name_cmp_total key ds r rise (subst (λ (l : List Document). IsSearchInRange r (length l)) e within) (subst (λ l. IsBinarySearchResult (λ d. name_cmp d.name key) l r) e ties))

pub returns-in-Ok : goal.returns-in-Ok
unfolding Found
returns-in-Ok c =
    let key = c.args.name.now in
    let ties = c.binary_search_by.ensures.position (λ d. name_cmp d.name key) (always_returns_same _ _ _ (λ a r f' called. search rules)) in
    let found = sought key c.args.self.now c.deref.result.now c.binary_search_by.result (Ok c.in-Ok.i) (c.deref.ensures.value ∙ c.self.view_is) c.in-Ok.is c.requires c.binary_search_by.ensures.bound ties in
    ap Some (c.index.ensures ∙ ap (λ l. get_or l c.in-Ok.i c.index.result.now) c.self.view_is) ∙ sym (found c.index.result.now)

pub returns-in-Err : goal.returns-in-Err
unfolding Found
returns-in-Err c =
    let key = c.args.name.now in
    let ties = c.binary_search_by.ensures.position (λ d. name_cmp d.name key) (always_returns_same _ _ _ (λ a r f' called. search rules)) in
    sym (sought key c.args.self.now c.deref.result.now c.binary_search_by.result (Err c.in-Err.field-0) (c.deref.ensures.value ∙ c.self.view_is) c.in-Err.is c.requires c.binary_search_by.ensures.bound ties)
