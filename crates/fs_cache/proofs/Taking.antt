-- What is to stand at places, put there one after another: what is staged stays.
use Rattle.std.proofs.Common.{◌≡◌, Bool, true, false, cond, ◌∷◌, Option, Some, refl, sym, ap, ◌∙◌, subst}
use Rattle.std.specs.Prelude.{IsTrue}
use Rattle.std.specs.FinMap.{get, is_sorted}
use Rattle.std.specs.Option.{is_some, unwrap_or}
use Rattle.fs_path.specs.NameOrder.{name_cmp, name_eq, name_itself}
use Rattle.fs_path.specs.declared.name.DocName.{DocName}
use Rattle.fs_cache.specs.Cached.{with_cached}
use Rattle.fs_cache.specs.Places.{HavePlaces, Places, place_at, staged_in, standing_in}
use Rattle.fs_cache.specs.declared.cached.CachedDocument.{CachedDocument}
use Rattle.fs_cache.proofs.Kept.{none_behind}
use Rattle.fs_cache.proofs.Laid.{get-laid_on, get-with_cached, same_docs}

-- the first is put
module _ (old new : Places) (e : DocName × Option CachedDocument) (es : Places) where
  pub first_has_place : HavePlaces old (e ∷ es) → IsTrue (is_some (place_at old e.0))
  first_has_place have = have e.0 (subst (λ b. IsTrue (is_some (cond b (Some e.1) (place_at es e.0)))) (sym (name_itself e.0)) refl)

  module _ (rise : IsTrue (is_sorted name_cmp (e ∷ es))) where
    pub staged_put : standing_in new ≡ with_cached (standing_in old) e.0 e.1 → staged_in new es ≡ staged_in old (e ∷ es)
    staged_put put =
        same_docs (staged_in new es) (staged_in old (e ∷ es))
        (λ q. get-laid_on (standing_in new) es q
        ∙ ap (λ docs. unwrap_or (place_at es q) (get docs q)) put
        ∙ ap (unwrap_or (place_at es q)) (get-with_cached (standing_in old) e.0 e.1 q)
        ∙ one q (name_eq q e.0) refl
        ∙ sym (get-laid_on (standing_in old) (e ∷ es) q))
      where
        one : (q : DocName) (b : Bool) → name_eq q e.0 ≡ b
            → unwrap_or (place_at es q) (cond b e.1 (get (standing_in old) q)) ≡ unwrap_or (cond b (Some e.1) (place_at es q)) (get (standing_in old) q)
        one q true ties = ap (λ p. unwrap_or p e.1) (none_behind e es q rise ties)
        one q false ties = refl

    pub others_have_places : ((other : DocName) → name_eq other e.0 ≡ false → place_at new other ≡ place_at old other) → HavePlaces old (e ∷ es) → HavePlaces new es
    others_have_places stay have q some = one (name_eq q e.0) refl where
      one : (b : Bool) → name_eq q e.0 ≡ b → IsTrue (is_some (place_at new q))
      one true ties = absurd (let none : true ≡ false = sym some ∙ ap is_some (none_behind e es q rise ties) in cc)
      one false apart = ap is_some (stay q apart) ∙ have q (ap (λ b. is_some (cond b (Some e.1) (place_at es q))) apart ∙ some)
