-- Documents with others in place of some: at each name what is laid there, or else what was.
use Rattle.std.proofs.Common.{◌≡◌, Bool, true, false, cond, [], ◌∷◌, Option, Some, None, refl, sym, ap, ◌∙◌}
use Rattle.std.specs.Prelude.{IsTrue}
use Rattle.std.specs.BTreeMap.{is_at}
use Rattle.std.specs.FinMap.{empty, get, get-empty, get-insert, get-remove, same_map}
use Rattle.std.specs.Option.{is_some, unwrap_or}
use Rattle.fs_path.specs.NameOrder.{name_cmp, name_cmp_total, name_eq, name_eq_equiv, name_is, name_itself, name_same}
use Rattle.fs_path.specs.declared.name.DocName.{DocName}
use Rattle.fs_cache.specs.Cached.{Had, with_cached}
use Rattle.fs_cache.specs.Places.{IsPut, Places, laid_on, place_at, standing_in}
use Rattle.fs_cache.specs.declared.cached.CachedDocument.{CachedDocument}

-- two that look up alike are one
pub same_docs : (docs others : Had) → ((q : DocName) → get docs q ≡ get others q) → docs ≡ others
same_docs docs others is = same_map name_cmp_total name_same docs others is

-- ---- look-ups

pub get-with_cached : (docs : Had) (name : DocName) (o : Option CachedDocument) (q : DocName) → get (with_cached docs name o) q ≡ cond (name_eq q name) o (get docs q)
get-with_cached docs name None q = get-remove name_cmp_total docs name q
get-with_cached docs name (Some c) q = get-insert name_cmp_total docs name c q

pub get-laid_on : (docs : Had) (places : Places) (q : DocName) → get (laid_on docs places) q ≡ unwrap_or (place_at places q) (get docs q)
get-laid_on docs [] q = refl
get-laid_on docs (e ∷ es) q =
    get-with_cached (laid_on docs es) e.0 e.1 q ∙ ap (cond (name_eq q e.0) e.1) (get-laid_on docs es q) ∙ one (name_eq q e.0)
  where
    one : (b : Bool) → cond b e.1 (unwrap_or (place_at es q) (get docs q)) ≡ unwrap_or (cond b (Some e.1) (place_at es q)) (get docs q)
    one true = refl
    one false = refl

pub get-standing_in : (places : Places) (q : DocName) → get (standing_in places) q ≡ unwrap_or (place_at places q) None
get-standing_in places q = get-laid_on empty places q ∙ ap (unwrap_or (place_at places q)) (get-empty name_cmp q)

pub ruleset look_ups = (get-with_cached, get-laid_on, get-standing_in)

-- ---- a change at one name

-- nothing is taken out where none is
pub none_taken : (docs : Had) (name : DocName) → get docs name ≡ None → with_cached docs name None ≡ docs
none_taken docs name none = same_docs (with_cached docs name None) docs (λ q. get-with_cached docs name None q ∙ one q (name_eq q name) refl) where
  one : (q : DocName) (b : Bool) → name_eq q name ≡ b → cond b None (get docs q) ≡ get docs q
  one q true ties = sym none ∙ ap (get docs) (sym (name_is q name ties))
  one q false ties = refl

module _ (es fs : Places) (name : DocName) where
  pub laid_put : (docs : Had) (o : Option CachedDocument) → IsPut es fs name (Some o) → laid_on docs fs ≡ with_cached (laid_on docs es) name o
  laid_put docs o put =
      same_docs (laid_on docs fs) (with_cached (laid_on docs es) name o)
      (λ q. get-laid_on docs fs q
      ∙ ap (λ p. unwrap_or p (get docs q)) (put q)
      ∙ one q (is_at (name_cmp name) q)
      ∙ ap (cond (is_at (name_cmp name) q) o) (sym (get-laid_on docs es q))
      ∙ ap (λ b. cond b o (get (laid_on docs es) q)) (name_eq_equiv.symm name q)
      ∙ sym (get-with_cached (laid_on docs es) name o q))
    where
      one : (q : DocName) (b : Bool) → unwrap_or (cond b (Some o) (place_at es q)) (get docs q) ≡ cond b o (unwrap_or (place_at es q) (get docs q))
      one q true = refl
      one q false = refl

  -- where there is no place nothing stands
  pub standing_removed : IsPut es fs name None → standing_in fs ≡ with_cached (standing_in es) name None
  standing_removed put =
      same_docs (standing_in fs) (with_cached (standing_in es) name None)
      (λ q. get-standing_in fs q
      ∙ ap (λ p. unwrap_or p None) (put q)
      ∙ one q (is_at (name_cmp name) q)
      ∙ ap (cond (is_at (name_cmp name) q) None) (sym (get-standing_in es q))
      ∙ ap (λ b. cond b None (get (standing_in es) q)) (name_eq_equiv.symm name q)
      ∙ sym (get-with_cached (standing_in es) name None q))
    where
      one : (q : DocName) (b : Bool) → unwrap_or (cond b None (place_at es q)) None ≡ cond b None (unwrap_or (place_at es q) None)
      one q true = refl
      one q false = refl

  pub other_put : (w : Option (Option CachedDocument)) → IsPut es fs name w → (q : DocName) → name_eq q name ≡ false → place_at fs q ≡ place_at es q
  other_put w put q apart = put q ∙ ap (λ b. cond b w (place_at es q)) (name_eq_equiv.symm name q ∙ apart)

  -- there is a place then
  pub there_put : (o : Option CachedDocument) → IsPut es fs name (Some o) → IsTrue (is_some (place_at fs name))
  there_put o put = ap is_some (put name) ∙ ap (λ b. is_some (cond b (Some o) (place_at es name))) (name_itself name)

  -- a place that is made where there is none
  pub standing_made : IsPut es fs name (Some None) → place_at es name ≡ None → standing_in fs ≡ standing_in es
  standing_made put none = laid_put empty None put ∙ none_taken (standing_in es) name (get-standing_in es name ∙ ap (λ p. unwrap_or p None) none)

  -- a place that is given back where nothing stands
  pub standing_given_back : IsPut es fs name None → get (standing_in es) name ≡ None → standing_in fs ≡ standing_in es
  standing_given_back put none = standing_removed put ∙ none_taken (standing_in es) name none

pub none_there : {X : Type 0} (o : Option X) → is_some o ≡ false → o ≡ None
none_there None is = refl
none_there (Some x) is = absurd (cc)
