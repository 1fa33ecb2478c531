-- A target that has none of what stands at places any longer, nor of what is to stand there, and what is left.
use Rattle.std.proofs.Common.{◌≡◌, ℕ, Bool, true, false, cond, ◌||◌, List, Option, Some, None, refl, sym, ap, ◌∙◌}
use Rattle.std.specs.Prelude.{IsTrue}
use Rattle.std.specs.FinMap.{get, is_sorted}
use Rattle.std.specs.List.{filter_map}
use Rattle.std.specs.Option.{is_some, option_and_then, unwrap_or}
use Rattle.fs_path.specs.NameOrder.{name_cmp}
use Rattle.fs_path.specs.declared.name.DocName.{DocName}
use Rattle.fs_cache.specs.Cached.{Had, all_left_by, left_by}
use Rattle.fs_cache.specs.Places.{HavePlaces, Places, laid_on, place_at, standing_in}
use Rattle.fs_cache.specs.declared.cached.CachedDocument.{CachedDocument}
use Rattle.fs_cache.proofs.Kept.{changed, keep, lookup-keep}
use Rattle.fs_cache.proofs.Laid.{get-laid_on, get-standing_in, same_docs}
use Rattle.fs_cache.proofs.Leaving.{get-all_left_by}

-- the places that stay: something stands there, or is to
abbrev pub stays : Places → DocName → Option CachedDocument → Bool
stays changes name place = is_some place || is_some (place_at changes name)

module _ (gone : List ℕ) (places kept changes : Places) (rise : IsTrue (is_sorted name_cmp places)) (is : kept ≡ filter_map (keep (changed (left_by gone) (stays changes))) places) where
  place_kept : (q : DocName) → place_at kept q ≡ option_and_then (changed (left_by gone) (stays changes) q) (place_at places q)
  place_kept q = ap (λ es. place_at es q) is ∙ lookup-keep (changed (left_by gone) (stays changes)) places q rise

  pub standing_forgotten : standing_in kept ≡ all_left_by gone (standing_in places)
  standing_forgotten =
      same_docs (standing_in kept) (all_left_by gone (standing_in places))
      (λ q. get-standing_in kept q
      ∙ ap (λ p. unwrap_or p None) (place_kept q)
      ∙ one q (place_at places q)
      ∙ ap (left_by gone) (sym (get-standing_in places q))
      ∙ sym (get-all_left_by gone (standing_in places) q))
    where
      some_kept : (b : Bool) (o : Option CachedDocument) → unwrap_or (cond (is_some o || b) (Some o) None) None ≡ o
      some_kept true None = refl
      some_kept false None = refl
      some_kept b (Some c) = refl

      one : (q : DocName) (p : Option (Option CachedDocument)) → unwrap_or (option_and_then (changed (left_by gone) (stays changes) q) p) None ≡ left_by gone (unwrap_or p None)
      one q None = refl
      one q (Some o) = some_kept (is_some (place_at changes q)) (left_by gone o)

  pub kept_have_places : HavePlaces places changes → HavePlaces kept changes
  kept_have_places have q some = ap is_some (place_kept q) ∙ one (place_at places q) (have q some) where
    there : (b : Bool) (o : Option CachedDocument) → b ≡ true → is_some (cond (is_some o || b) (Some o) None) ≡ true
    there true None some = refl
    there false None some = some
    there b (Some c) some = refl

    one : (p : Option (Option CachedDocument)) → is_some p ≡ true → is_some (option_and_then (changed (left_by gone) (stays changes) q) p) ≡ true
    one None has = has
    one (Some o) has = there (is_some (place_at changes q)) (left_by gone o) some

-- all that is to stand stays
abbrev pub all_stay : DocName → Option CachedDocument → Bool
all_stay name next = true

module _ (gone : List ℕ) (changes kept : Places) (rise : IsTrue (is_sorted name_cmp changes)) (is : kept ≡ filter_map (keep (changed (left_by gone) all_stay)) changes) where
  change_kept : (q : DocName) → place_at kept q ≡ option_and_then (changed (left_by gone) all_stay q) (place_at changes q)
  change_kept q = ap (λ es. place_at es q) is ∙ lookup-keep (changed (left_by gone) all_stay) changes q rise

  pub laid_forgotten : (docs : Had) → laid_on (all_left_by gone docs) kept ≡ all_left_by gone (laid_on docs changes)
  laid_forgotten docs =
      same_docs (laid_on (all_left_by gone docs) kept) (all_left_by gone (laid_on docs changes))
      (λ q. get-laid_on (all_left_by gone docs) kept q
      ∙ (λ i. unwrap_or (change_kept q i) (get-all_left_by gone docs q i))
      ∙ one q (place_at changes q)
      ∙ ap (left_by gone) (sym (get-laid_on docs changes q))
      ∙ sym (get-all_left_by gone (laid_on docs changes) q))
    where
      one : (q : DocName) (p : Option (Option CachedDocument)) → unwrap_or (option_and_then (changed (left_by gone) all_stay q) p) (left_by gone (get docs q)) ≡ left_by gone (unwrap_or p (get docs q))
      one q None = refl
      one q (Some o) = refl
