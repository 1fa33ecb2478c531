use Rattle.std.proofs.Common.{ℕ, List, length, map, Result, Ok, Err, sym, subst, rules, ◌<◌, ◌≤◌}
use Rattle.std.specs.Prelude.{IsTrue, MatchResult}
use Rattle.std.specs.FinMap.{is_sorted}
use Rattle.std.specs.List.Sorted.{IsBinarySearchResult, IsSearchInRange}
use Rattle.std.proofs.lemmas.List.{length-map}
use Rattle.std.proofs.lemmas.Fn.{always_returns_same}
use Rattle.std.proofs.lemmas.List.Sorted.{searchable_from_sorted}
use Rattle.fs_path.specs.TextOrder.{text_cmp, text_cmp_total, text_same}
use Rattle.fs_value.specs.FieldPlace.{IsFoundAt, IsMissingAt}
use Rattle.fs_value.specs.View.{field_view}
use Rattle.fs_value.specs.declared.fields.Field.{Field}
use Rattle.fs_value.proofs.Search.{rising_sorted, find-tied, find-apart}
use Rattle.fs_value.proofs.Places.{key-tied, put-tied, put-apart}
use Rattle.fs_value.proofs.fields.Fields.place.Goals as goal

-- what a search of fields whose keys rise has found
searched : (key : List ℕ) (fs : List Field) (r : Result ℕ ℕ) → IsTrue (is_sorted text_cmp (map field_view fs))
    → IsSearchInRange r (length fs) → IsBinarySearchResult (λ f. text_cmp f.key key) fs r
    → MatchResult r (IsFoundAt key (map field_view fs)) (IsMissingAt key (map field_view fs))
searched key fs (Ok i) rise within ties = record {
  within = subst (λ (n : ℕ). i < n) (sym (length-map fs field_view)) within;
  found = λ f. find-tied text_cmp field_view text_cmp_total key fs i f rise within ties;
  same = λ f. key-tied text_cmp field_view text_cmp_total text_same key fs i f within ties;
  puts = λ d. put-tied text_cmp field_view text_cmp_total text_same key d fs i rise within ties;
}
searched key fs (Err i) rise within apart =
    let parts = apart (searchable_from_sorted text_cmp_total (λ (f : Field). f.key) fs key (rising_sorted text_cmp field_view text_cmp_total fs rise)) in
    record {
      within = subst (λ (n : ℕ). i ≤ n) (sym (length-map fs field_view)) within;
      missing = find-apart text_cmp field_view text_cmp_total key fs i parts.0 parts.1;
      puts = λ d. put-apart text_cmp field_view text_cmp_total key d fs i within parts.0 parts.1;
    }

pub returns : goal.returns
returns c =
    let key = c.args.key.now in
    let ties = c.binary_search_by.ensures.position (λ f. text_cmp f.key key) (always_returns_same _ _ _ (λ a r f' called. search rules)) in
    let bound = c.binary_search_by.ensures.bound in
    let found = searched key c.self.inside.items.items c.binary_search_by.result c.self.invariant (subst (λ fs. IsSearchInRange c.binary_search_by.result (length fs)) c.deref.ensures.value bound) (subst (λ fs. IsBinarySearchResult (λ f. text_cmp f.key key) fs c.binary_search_by.result) c.deref.ensures.value ties) in
    subst (λ fs. MatchResult c.binary_search_by.result (IsFoundAt key fs) (IsMissingAt key fs)) c.self.view_is found
