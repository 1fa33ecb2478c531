-- The document that a target has of what stands at one name, after what becomes of that.
use Rattle.std.proofs.Common.{◌≡◌, ℕ, Bool, true, false, cond, ◌||◌, List, [], ◌∷◌, ◌++◌, Option, Some, None, refl, sym, ap, ◌∙◌}
use Rattle.std.specs.Prelude.{◌&&◌, is_some, not}
use Rattle.fs_value.specs.declared.document.Document.{Document}
use Rattle.fs_cache.specs.Cached.{changed_for, is_number, left_by, of_targets, targets_of, without}
use Rattle.fs_cache.specs.declared.cached.CachedDocument.{CachedDocument}
use Rattle.fs_local.specs.Gathered.{had_of}
use Rattle.fs_local.proofs.Numbers.{in_append, in_without}

module _ (id : ℕ) where
  had_of_targets : (d : Document) (ids : List ℕ) → had_of id (of_targets d ids) ≡ cond (is_number ids id) (Some d) None
  had_of_targets d [] = refl
  had_of_targets d (t ∷ ts) = refl

  none_either : (b : Bool) → None ≡ cond {A = Option Document} b None None
  none_either true = refl
  none_either false = refl

  pub had_left : (gone : List ℕ) (o : Option CachedDocument) → had_of id (left_by gone o) ≡ cond (is_number gone id) None (had_of id o)
  had_left gone None = none_either (is_number gone id)
  had_left gone (Some c) =
      had_of_targets c.document (without gone c.targets)
      ∙ ap (λ b. cond b (Some c.document) None) (in_without gone c.targets id)
      ∙ by_tests (is_number c.targets id) (is_number gone id)
    where
      by_tests : (has left : Bool) → cond (has && not left) (Some c.document) None ≡ cond left None (cond has (Some c.document) None)
      by_tests true true = refl
      by_tests true false = refl
      by_tests false true = refl
      by_tests false false = refl

  -- the targets of which it is told
  in_changed : (ids gone : List ℕ) (o : Option CachedDocument)
      → is_number (without (gone ++ ids) (targets_of o) ++ ids) id ≡ ((is_number (targets_of o) id && not (is_number gone id || is_number ids id)) || is_number ids id)
  in_changed ids gone o =
      in_append (without (gone ++ ids) (targets_of o)) ids id
      ∙ ap (λ b. b || is_number ids id) (in_without (gone ++ ids) (targets_of o) id ∙ ap (λ b. is_number (targets_of o) id && not b) (in_append gone ids id))

  had_told : (d : Document) (ids gone : List ℕ) (o : Option CachedDocument)
      → had_of id (of_targets d (without (gone ++ ids) (targets_of o) ++ ids)) ≡ cond ((is_number (targets_of o) id && not (is_number gone id || is_number ids id)) || is_number ids id) (Some d) None
  had_told d ids gone o = had_of_targets d (without (gone ++ ids) (targets_of o) ++ ids) ∙ ap (λ b. cond b (Some d) None) (in_changed ids gone o)

  some_had : (o : Option CachedDocument) → is_some (had_of id o) ≡ is_number (targets_of o) id
  some_had None = refl
  some_had (Some c) = by_test (is_number c.targets id) where
    by_test : (has : Bool) → is_some (cond has (Some c.document) None) ≡ has
    by_test true = refl
    by_test false = refl

  -- it is told of the target
  pub changed_named : (d : Document) (ids gone : List ℕ) (o : Option CachedDocument) → is_number ids id ≡ true → had_of id (changed_for d ids gone o) ≡ Some d
  changed_named d [] gone o named = absurd (cc)
  changed_named d (t ∷ ts) gone o named =
      had_told d (t ∷ ts) gone o
      ∙ ap (λ b. cond ((is_number (targets_of o) id && not (is_number gone id || b)) || b) (Some d) None) named
      ∙ by_test (is_number (targets_of o) id && not (is_number gone id || true))
    where
      by_test : (b : Bool) → cond (b || true) (Some d) None ≡ Some d
      by_test true = refl
      by_test false = refl

  -- it isn't
  pub changed_others : (d : Document) (ids gone : List ℕ) (o : Option CachedDocument) → is_number ids id ≡ false → is_some (had_of id (changed_for d ids gone o)) ≡ is_some (cond (is_number gone id) None (had_of id o))
  changed_others d [] gone o none = ap is_some (had_left gone o)
  changed_others d (t ∷ ts) gone o none =
      ap is_some (had_told d (t ∷ ts) gone o ∙ ap (λ b. cond ((is_number (targets_of o) id && not (is_number gone id || b)) || b) (Some d) None) none)
      ∙ by_tests (is_number (targets_of o) id) (some_had o) (is_number gone id)
    where
      by_tests : (has : Bool) → is_some (had_of id o) ≡ has → (left : Bool) → is_some (cond ((has && not (left || false)) || false) (Some d) None) ≡ is_some (cond left None (had_of id o))
      by_tests true some true = refl
      by_tests true some false = sym some
      by_tests false some true = refl
      by_tests false some false = sym some
