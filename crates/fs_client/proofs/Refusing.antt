-- Targets that the server refused, one after another: what is listened to then, and which causes are there.
use Rattle.std.proofs.Common.{◌≡◌, ℕ, Bool, true, false, cond, List, [], ◌∷◌, Option, Some, None, refl, sym, ap, ◌∙◌, is_some}
use Rattle.std.specs.Prelude.{◌&&◌, ◌||◌}
use Rattle.std.specs.FinMap.{FinMap, from_entries, get, get-insert, get-remove, insert, nat_cmp-IsAntisymmetric, remove, same_map}
use Rattle.std.specs.Ordering.{eq_by_cmp, nat_cmp}
use Rattle.std.proofs.lemmas.Cmp.{nat_cmp_total}
use Rattle.fs_query.specs.declared.listen.Cause.{Cause}
use Rattle.fs_listen.proofs.Listed.{number_is}
use Rattle.fs_local.specs.State.{Targets}
use Rattle.fs_local.specs.Told.{refused_at, refused_targets}
use Rattle.fs_local.specs.declared.listened.Listened.{Listened}
use Rattle.fs_client.specs.Listed.{among, caused, caused_one, without_all}

either : {X : Type 0} (b : Bool) (x : X) → x ≡ cond b x x
either true x = refl
either false x = refl

-- ---- which causes are there

module _ (targets : FinMap nat_cmp Listened) (id : ℕ) (ids : List ℕ) (cause : Cause) (before : Option Cause) (q : ℕ) where
  abbrev same : Bool
  same = eq_by_cmp nat_cmp q id

  abbrev there : Bool
  there = is_some (get targets q)

  as_id : (b : Bool) → is_some (get targets id) ≡ b → same ≡ true → there ≡ b
  as_id b is ties = ap (λ (k : ℕ). is_some (get targets k)) (number_is q id ties) ∙ is

  -- of one that is listened to
  pub caused_more : is_some (get targets id) ≡ true → caused_one targets (id ∷ ids) cause before q ≡ caused_one targets ids cause (cond same (Some cause) before) q
  caused_more has = by_test same refl where
    by_test : (b : Bool) → same ≡ b → caused_one targets (id ∷ ids) cause before q ≡ caused_one targets ids cause (cond same (Some cause) before) q
    by_test true is =
        ap (λ (b : Bool). cond ((b || among q ids) && there) (Some cause) before) is
        ∙ ap (λ (b : Bool). cond b (Some cause) before) (as_id true has is)
        ∙ either (among q ids && there) (Some cause)
        ∙ ap (λ (b : Bool). cond (among q ids && there) (Some cause) (cond b (Some cause) before)) (sym is)
    by_test false is =
        ap (λ (b : Bool). cond ((b || among q ids) && there) (Some cause) before) is
        ∙ ap (λ (b : Bool). cond (among q ids && there) (Some cause) (cond b (Some cause) before)) (sym is)

  -- of one that isn't
  pub caused_none : is_some (get targets id) ≡ false → caused_one targets (id ∷ ids) cause before q ≡ caused_one targets ids cause before q
  caused_none has = by_test same refl where
    neither : (b : Bool) → cond (b && false) (Some cause) before ≡ before
    neither true = refl
    neither false = refl

    by_test : (b : Bool) → same ≡ b → caused_one targets (id ∷ ids) cause before q ≡ caused_one targets ids cause before q
    by_test true is =
        ap (λ (b : Bool). cond ((same || among q ids) && b) (Some cause) before) (as_id false has is)
        ∙ neither (same || among q ids)
        ∙ sym (ap (λ (b : Bool). cond (among q ids && b) (Some cause) before) (as_id false has is) ∙ neither (among q ids))
    by_test false is = ap (λ (b : Bool). cond ((b || among q ids) && there) (Some cause) before) is

  -- where it is listened to no longer
  caused_removed : is_some (get targets id) ≡ true → caused_one targets (id ∷ ids) cause before q ≡ caused_one (remove targets id) ids cause (cond same (Some cause) before) q
  caused_removed has = caused_more has ∙ by_test same refl where
    gone : get (remove targets id) q ≡ cond same None (get targets q)
    gone = get-remove nat_cmp_total targets id q

    by_test : (b : Bool) → same ≡ b → caused_one targets ids cause (cond same (Some cause) before) q ≡ caused_one (remove targets id) ids cause (cond same (Some cause) before) q
    by_test true is =
        ap (λ (b : Bool). cond (among q ids && there) (Some cause) (cond b (Some cause) before)) is
        ∙ sym (either (among q ids && there) (Some cause))
        ∙ either (among q ids && is_some (get (remove targets id) q)) (Some cause)
        ∙ ap (λ (b : Bool). cond (among q ids && is_some (get (remove targets id) q)) (Some cause) (cond b (Some cause) before)) (sym is)
    by_test false is =
        ap (λ (o : Option Listened). cond (among q ids && is_some o) (Some cause) (cond same (Some cause) before)) (sym (gone ∙ ap (λ (b : Bool). cond b None (get targets q)) is))

-- ---- what is there then

absent_stays : (targets : FinMap nat_cmp Listened) (id : ℕ) → get targets id ≡ None → remove targets id ≡ targets
absent_stays targets id none =
    same_map nat_cmp_total nat_cmp-IsAntisymmetric _ _ (λ q. get-remove nat_cmp_total targets id q ∙ by_test q (eq_by_cmp nat_cmp q id) refl) where
      by_test : (q : ℕ) (b : Bool) → eq_by_cmp nat_cmp q id ≡ b → cond (eq_by_cmp nat_cmp q id) None (get targets q) ≡ get targets q
      by_test q true is = ap (λ (b : Bool). cond b None (get targets q)) is ∙ sym (ap (get targets) (number_is q id is) ∙ none)
      by_test q false is = ap (λ (b : Bool). cond b None (get targets q)) is

module _ (cause : Cause) (causes : FinMap nat_cmp Cause) where
  abbrev AreCaused : List ℕ → Targets → Type 0
  AreCaused ids ts = (q : ℕ) → get causes q ≡ caused_one ts.listened ids cause (get ts.causes q) q

  pub refused_is : (ids : List ℕ) (ts : Targets) → AreCaused ids ts → record ts { listened = without_all ids ts.listened; causes = causes } ≡ refused_targets ids cause ts
  refused_is [] ts are = ap (λ (m : FinMap nat_cmp Cause). record ts { causes = m }) (same_map nat_cmp_total nat_cmp-IsAntisymmetric causes ts.causes are)
  refused_is (id ∷ ids) ts are =
      by_place (refused_is ids) (get ts.listened id) refl
    where
      by_place : ((next : Targets) → AreCaused ids next → record next { listened = without_all ids next.listened; causes = causes } ≡ refused_targets ids cause next)
          → (o : Option Listened) → get ts.listened id ≡ o → record ts { listened = without_all ids (remove ts.listened id); causes = causes } ≡ refused_targets ids cause (refused_at o id cause ts)
      by_place later None none =
          ap (λ (m : FinMap nat_cmp Listened). record ts { listened = without_all ids m; causes = causes }) (absent_stays ts.listened id none)
          ∙ later ts (λ q. are q ∙ caused_none ts.listened id ids cause (get ts.causes q) q (ap is_some none))
      by_place later (Some l) some =
          later (record ts { listened = remove ts.listened id; causes = insert ts.causes id cause })
          (λ q. are q
          ∙ caused_removed ts.listened id ids cause (get ts.causes q) q (ap is_some some)
          ∙ ap (λ (o : Option Cause). caused_one (remove ts.listened id) ids cause o q) (sym (get-insert nat_cmp_total ts.causes id cause q)))

-- ---- one more of them

module _ (targets : FinMap nat_cmp Listened) (cause : Cause) (id : ℕ) (ids : List ℕ) (es : List (ℕ × Cause)) where
  pub caused_next : (fs : List (ℕ × Cause)) (q : ℕ) → is_some (get targets id) ≡ true → from_entries {R = nat_cmp} fs ≡ insert (from_entries es) id cause
      → caused targets ids cause fs q ≡ caused targets (id ∷ ids) cause es q
  caused_next fs q has is =
      ap (λ (m : FinMap nat_cmp Cause). caused_one targets ids cause (get m q) q) is
      ∙ ap (λ (o : Option Cause). caused_one targets ids cause o q) (get-insert nat_cmp_total (from_entries es) id cause q)
      ∙ sym (caused_more targets id ids cause (get (from_entries {R = nat_cmp} es) q) q has)

  pub caused_past : (q : ℕ) → is_some (get targets id) ≡ false → caused targets ids cause es q ≡ caused targets (id ∷ ids) cause es q
  caused_past q has = sym (caused_none targets id ids cause (get (from_entries {R = nat_cmp} es) q) q has)
