-- Targets that have documents no longer: what is left at each name, of what stands at places and of what is to stand there.
use Rattle.std.proofs.Common.{◌≡◌, ◌==◌, ℕ, Bool, true, false, not, cond, ◌||◌, List, [], ◌∷◌, Option, Some, None, refl, sym, ap, ◌∙◌, subst}
use Rattle.std.specs.Prelude.{IfSome, IsTrue}
use Rattle.std.specs.BTreeMap.{is_at}
use Rattle.std.specs.FinMap.{get}
use Rattle.std.specs.List.{filter, list_any}
use Rattle.std.specs.Option.{is_some, option_and_then, unwrap_or}
use Rattle.fs_path.specs.NameOrder.{name_cmp, name_eq, name_eq_equiv, name_is}
use Rattle.fs_path.specs.declared.name.DocName.{DocName}
use Rattle.fs_cache.specs.Cached.{Had, all_left_by, is_number, left_by, of_targets, without}
use Rattle.fs_cache.specs.Places.{HavePlaces, IsPut, Places, is_left, is_left_of, place_at, staged_in, standing_in}
use Rattle.fs_cache.specs.declared.cached.CachedDocument.{CachedDocument}
use Rattle.fs_cache.proofs.Kept.{get-kept}
use Rattle.fs_cache.proofs.Laid.{get-laid_on, get-standing_in, none_there, same_docs}

-- ---- at one name

-- one target
pub without_one : (target : ℕ) (ts : List ℕ) → filter (λ t. not (t == target)) ts ≡ without (target ∷ []) ts
without_one target [] = refl
without_one target (t ∷ ts) = one (t == target) (without_one target ts) where
  one : (b : Bool) → filter (λ s. not (s == target)) ts ≡ without (target ∷ []) ts
      → cond (not b) (t ∷ filter (λ s. not (s == target)) ts) (filter (λ s. not (s == target)) ts) ≡ cond (not (b || false)) (t ∷ without (target ∷ []) ts) (without (target ∷ []) ts)
  one true rest = rest
  one false rest = ap (λ ss. t ∷ ss) rest

-- none of the targets
none_gone : (gone ts : List ℕ) → list_any (is_number gone) ts ≡ false → without gone ts ≡ ts
none_gone gone [] none = refl
none_gone gone (t ∷ ts) none = one (is_number gone t) (none_gone gone ts) none where
  one : (b : Bool) → (list_any (is_number gone) ts ≡ false → without gone ts ≡ ts) → (b || list_any (is_number gone) ts) ≡ false → cond (not b) (t ∷ without gone ts) (without gone ts) ≡ t ∷ ts
  one true rest none = absurd (cc)
  one false rest none = ap (λ ss. t ∷ ss) (rest none)

not_left : (gone : List ℕ) (o : Option CachedDocument) → is_left gone o ≡ false → left_by gone o ≡ o
not_left gone None stays = refl
not_left gone (Some c) stays = one c.targets refl stays where
  one : (ts : List ℕ) → c.targets ≡ ts → is_left_of gone ts ≡ false → of_targets c.document (without gone ts) ≡ Some c
  one [] is stays = absurd (cc)
  one (t ∷ ts) is stays = ap (of_targets c.document) (none_gone gone (t ∷ ts) stays) ∙ ap (λ xs. Some (record c { targets = xs })) (sym is)

-- what is left at a name
pub get-all_left_by : (gone : List ℕ) (docs : Had) (q : DocName) → get (all_left_by gone docs) q ≡ left_by gone (get docs q)
get-all_left_by gone docs q = get-kept (λ _ (c : CachedDocument). left_by gone (Some c)) docs q ∙ same (get docs q) where
  same : (o : Option CachedDocument) → option_and_then (λ (c : CachedDocument). left_by gone (Some c)) o ≡ left_by gone o
  same None = refl
  same (Some c) = refl

-- ---- place by place

-- something was to stand at a name, or what is staged there is another now
abbrev pub is_another : List ℕ → Places → Places → DocName → Bool
is_another gone places changes q = is_some (place_at changes q) || is_left gone (get (staged_in places changes) q)

-- what is to stand at places is what is left there, and it is said for those of the first names that aren't to be gone over still
pub record AreLeft (gone : List ℕ) (places changes all : Places) (first names : List DocName) : Type 0 where
  pub left : (q : DocName) → IfSome (place_at all q) (λ o. o ≡ left_by gone (get (staged_in places changes) q))
  pub placed : HavePlaces places all
  pub done : (q : DocName) → IsTrue (list_any (name_eq q) first) → IsTrue (is_another gone places changes q) → IsTrue (is_some (place_at all q) || list_any (name_eq q) names)

module _ (gone : List ℕ) (places changes : Places) where
  module _ (all : Places) (first : List DocName) (name : DocName) (names : List DocName) (so_far : AreLeft gone places changes all first (name ∷ names)) where
    -- what is left at the next
    pub left_put : (new : Places) (next : Option CachedDocument) → IsPut all new name (Some next) → next ≡ left_by gone (get (staged_in places changes) name) → IsTrue (is_some (place_at places name))
        → AreLeft gone places changes new first names
    left_put new next put is there = record {
      left = λ q. subst (λ o. IfSome o (λ p. p ≡ left_by gone (get (staged_in places changes) q))) (sym (put q)) (left_at q (is_at (name_cmp name) q) refl);
      placed = λ q some. placed_at q (is_at (name_cmp name) q) refl (sym (ap is_some (put q)) ∙ some);
      done =
          λ q among another.
          ap (λ o. is_some o || list_any (name_eq q) names) (put q)
          ∙ done_at q (is_at (name_cmp name) q) refl (so_far.done q among another);
    } where
      left_at : (q : DocName) (b : Bool) → is_at (name_cmp name) q ≡ b → IfSome (cond b (Some next) (place_at all q)) (λ p. p ≡ left_by gone (get (staged_in places changes) q))
      left_at q true ties = is ∙ ap (λ n. left_by gone (get (staged_in places changes) n)) (name_is name q ties)
      left_at q false ties = so_far.left q

      placed_at : (q : DocName) (b : Bool) → is_at (name_cmp name) q ≡ b → is_some (cond b (Some next) (place_at all q)) ≡ true → IsTrue (is_some (place_at places q))
      placed_at q true ties some = subst (λ n. IsTrue (is_some (place_at places n))) (name_is name q ties) there
      placed_at q false ties some = so_far.placed q some

      done_at : (q : DocName) (b : Bool) → is_at (name_cmp name) q ≡ b → (is_some (place_at all q) || list_any (name_eq q) (name ∷ names)) ≡ true
          → (is_some (cond b (Some next) (place_at all q)) || list_any (name_eq q) names) ≡ true
      done_at q true ties done = refl
      done_at q false ties done = ap (λ b. is_some (place_at all q) || (b || list_any (name_eq q) names)) (sym (sym (name_eq_equiv.symm name q) ∙ ties)) ∙ done

    -- where nothing is another
    pub left_stays : is_another gone places changes name ≡ false → AreLeft gone places changes all first names
    left_stays stays = record { left = so_far.left; placed = so_far.placed; done = λ q among another. one q (name_eq q name) refl another (so_far.done q among another) } where
      one : (q : DocName) (b : Bool) → name_eq q name ≡ b → is_another gone places changes q ≡ true → (is_some (place_at all q) || (b || list_any (name_eq q) names)) ≡ true
          → (is_some (place_at all q) || list_any (name_eq q) names) ≡ true
      one q true ties another done = absurd (let e : true ≡ false = sym another ∙ ap (is_another gone places changes) (name_is q name ties) ∙ stays in cc)
      one q false ties another done = done

  -- at the end
  module _ (all : Places) (first : List DocName) (whole : AreLeft gone places changes all first []) (has : (q : DocName) → is_some (place_at places q) ≡ list_any (name_eq q) first) (have : HavePlaces places changes) where
    stays_at : (q : DocName) (p : Option (Option CachedDocument)) (b : Bool) → place_at changes q ≡ p → is_left gone (get (staged_in places changes) q) ≡ b → (is_some p || b) ≡ false
        → get (standing_in places) q ≡ left_by gone (get (staged_in places changes) q)
    stays_at q (Some o) b is left none = absurd (cc)
    stays_at q None true is left none = absurd (cc)
    stays_at q None false is left none =
        sym (get-laid_on (standing_in places) changes q ∙ ap (λ p. unwrap_or p (get (standing_in places) q)) is) ∙ sym (not_left gone (get (staged_in places changes) q) left)

    no_place : (q : DocName) → place_at places q ≡ None → get (standing_in places) q ≡ left_by gone (get (staged_in places changes) q)
    no_place q none = stands ∙ ap (left_by gone) (sym staged) where
      unchanged : (b : Bool) → is_some (place_at changes q) ≡ b → b ≡ false
      unchanged true some = absurd (let e : true ≡ false = sym (have q some) ∙ ap is_some none in cc)
      unchanged false some = refl

      stands : get (standing_in places) q ≡ None
      stands = get-standing_in places q ∙ ap (λ p. unwrap_or p None) none

      staged : get (staged_in places changes) q ≡ None
      staged =
          get-laid_on (standing_in places) changes q
          ∙ ap (λ p. unwrap_or p (get (standing_in places) q)) (none_there (place_at changes q) (unchanged (is_some (place_at changes q)) refl))
          ∙ stands

    not_said : (q : DocName) (another there : Bool) → is_another gone places changes q ≡ another → is_some (place_at places q) ≡ there → place_at all q ≡ None
        → get (standing_in places) q ≡ left_by gone (get (staged_in places changes) q)
    not_said q true true is there none =
        absurd (let e : false ≡ true = sym (ap (λ o. is_some o || false) none) ∙ whole.done q (sym (has q) ∙ there) is in cc)
    not_said q true false is there none = no_place q (none_there (place_at places q) there)
    not_said q false there is place none = stays_at q (place_at changes q) (is_left gone (get (staged_in places changes) q)) refl refl is

    pub staged_left : staged_in places all ≡ all_left_by gone (staged_in places changes)
    staged_left =
        same_docs (staged_in places all) (all_left_by gone (staged_in places changes))
        (λ q. get-laid_on (standing_in places) all q ∙ one q (place_at all q) refl (whole.left q) ∙ sym (get-all_left_by gone (staged_in places changes) q))
      where
        one : (q : DocName) (p : Option (Option CachedDocument)) → place_at all q ≡ p → IfSome p (λ o. o ≡ left_by gone (get (staged_in places changes) q))
            → unwrap_or p (get (standing_in places) q) ≡ left_by gone (get (staged_in places changes) q)
        one q (Some o) is left = left
        one q None is left = not_said q (is_another gone places changes q) (is_some (place_at places q)) refl refl is
