-- The ids of a client's targets count from 1 and none is above the last, and those that were refused aren't listened to.
use Rattle.std.proofs.Common.{◌≡◌, ℕ, ◌<◌, ◌≤◌, Bool, true, false, cond, List, [], ◌∷◌, Option, Some, None, refl, sym, ap, ◌∙◌, subst, arith}
use Rattle.std.specs.Prelude.{is_some, nat_le}
use Rattle.std.specs.FinMap.{FinMap, get, get-empty, get-insert, get-remove, insert}
use Rattle.std.specs.Ordering.{eq_by_cmp, nat_cmp}
use Rattle.std.specs.Option.{option_map}
use Rattle.std.proofs.lemmas.Bool.{leb-false}
use Rattle.std.proofs.lemmas.Cmp.{nat_cmp_total}
use Rattle.fs_query.specs.declared.listen.Cause.{Cause}
use Rattle.fs_query.specs.declared.target.Target.{Target}
use Rattle.fs_listen.proofs.Listed.{number_is}
use Rattle.fs_local.specs.Connect.{each}
use Rattle.fs_local.specs.Listen.{listen_refusal, or_rule, place_refusal, with_target}
use Rattle.fs_local.specs.Stands.{AreNumbered, IsNumbered}
use Rattle.fs_local.specs.State.{Client, Targets, none_listened}
use Rattle.fs_local.specs.Told.{current_at, refused_at, refused_targets, with_current}
use Rattle.fs_local.specs.Unlisten.{without_target}
use Rattle.fs_local.specs.declared.listened.Listened.{Listened}
use Rattle.fs_local.specs.declared.error.ClientError.{ClientError}
use Rattle.fs_local.specs.declared.error.ClientError.TheVariants as error
use Rattle.fs_local.proofs.TargetsAt.{get_each}

pub numbered_none : (limit : ℕ) → AreNumbered (none_listened limit)
numbered_none limit = record {
  listened = λ id there. absurd (let none : false ≡ true = sym (ap is_some (get-empty {X = Listened} nat_cmp id)) ∙ there in cc);
  refused = λ id there. absurd (let none : false ≡ true = sym (ap is_some (get-empty {X = Cause} nat_cmp id)) ∙ there in cc);
}

none_alike : {X Y : Type 0} (o : Option X) (p : Option Y) → is_some p ≡ is_some o → o ≡ None → p ≡ None
none_alike o None alike none = refl
none_alike o (Some y) alike none = absurd (let both : true ≡ false = alike ∙ ap is_some none in cc)

-- where the same are listened to
alike_numbered : (ts : Targets) (listened : FinMap nat_cmp Listened) → AreNumbered ts → ((id : ℕ) → is_some (get listened id) ≡ is_some (get ts.listened id)) → AreNumbered (record ts { listened = listened })
alike_numbered ts listened numbered alike = record {
  listened = λ id there. numbered.listened id (sym (alike id) ∙ there);
  refused = λ id there. let was = numbered.refused id there in (was.0, none_alike (get ts.listened id) (get listened id) (alike id) was.1);
}

pub numbered_each : (change : Listened → Listened) (ts : Targets) → AreNumbered ts → AreNumbered (each change ts)
numbered_each change ts numbered = alike_numbered ts (each change ts).listened numbered (λ id. ap is_some (get_each change ts id) ∙ same (get ts.listened id)) where
  same : (o : Option Listened) → is_some (option_map change o) ≡ is_some o
  same None = refl
  same (Some l) = refl

one_current : (o : Option Listened) (id : ℕ) (ts : Targets) → get ts.listened id ≡ o → AreNumbered ts → AreNumbered (current_at o id ts)
one_current None id ts is numbered = numbered
one_current (Some l) id ts is numbered =
    alike_numbered ts (insert ts.listened id (record l { current = true })) numbered
    (λ q. ap is_some (get-insert nat_cmp_total ts.listened id (record l { current = true }) q) ∙ by_test q (eq_by_cmp nat_cmp q id) refl)
  where
    by_test : (q : ℕ) (same : Bool) → eq_by_cmp nat_cmp q id ≡ same → is_some (cond same (Some (record l { current = true })) (get ts.listened q)) ≡ is_some (get ts.listened q)
    by_test q true ties = sym (ap is_some (ap (get ts.listened) (number_is q id ties) ∙ is))
    by_test q false ties = refl

pub numbered_current : (ids : List ℕ) (ts : Targets) → AreNumbered ts → AreNumbered (with_current ids ts)
numbered_current [] ts numbered = numbered
numbered_current (id ∷ ids) ts numbered = numbered_current ids (current_at (get ts.listened id) id ts) (one_current (get ts.listened id) id ts refl numbered)

-- ---- one more, and one less

place_above : (id : ℕ) (ts : Targets) (o : Option ClientError) → cond (nat_le id ts.last) (Some (error.NotRising id ts.last)) o ≡ None → ts.last < id
place_above id ts o none = by_test (nat_le id ts.last) refl none where
  by_test : (low : Bool) → nat_le id ts.last ≡ low → cond low (Some (error.NotRising id ts.last)) o ≡ None → ts.last < id
  by_test true is none = absurd (cc)
  by_test false is none = leb-false id ts.last is

-- a target that isn't refused is above the last
pub above_last : (id : ℕ) (t : Target) (c : Client) → listen_refusal id t c ≡ None → c.targets.last < id
above_last id t c none = by_place (place_refusal id c.targets) refl none where
  by_place : (o : Option ClientError) → place_refusal id c.targets ≡ o → or_rule t o ≡ None → c.targets.last < id
  by_place (Some e) is none = absurd (cc)
  by_place None is none = place_above id c.targets _ is

pub numbered_with : (id : ℕ) (t : Target) (ts : Targets) → ts.last < id → AreNumbered ts → AreNumbered (with_target id t ts)
numbered_with id t ts above numbered = record {
  listened = λ q there. within q (eq_by_cmp nat_cmp q id) refl (sym (ap is_some (get-insert nat_cmp_total ts.listened id new q)) ∙ there);
  refused = λ q there.
      let was = numbered.refused q there in
      ((was.0.0, omega (arith, was.0.1)), get-insert nat_cmp_total ts.listened id new q ∙ absent q was.0.1 was.1 (eq_by_cmp nat_cmp q id) refl);
} where
  new : Listened
  new = record { target = t; shown = false; current = false }

  within : (q : ℕ) (same : Bool) → eq_by_cmp nat_cmp q id ≡ same → is_some (cond same (Some new) (get ts.listened q)) ≡ true → IsNumbered id q
  within q true ties there = let same = number_is q id ties in (omega arith, omega arith)
  within q false ties there = let was = numbered.listened q there in (was.0, omega (arith, was.1))

  absent : (q : ℕ) → q ≤ ts.last → get ts.listened q ≡ None → (same : Bool) → eq_by_cmp nat_cmp q id ≡ same → cond same (Some new) (get ts.listened q) ≡ None
  absent q low none true ties = let same = number_is q id ties in absurd (omega arith)
  absent q low none false ties = none

fewer_some : {X : Type 0} (gone : Bool) (o : Option X) → is_some (cond gone None o) ≡ true → is_some o ≡ true
fewer_some true o there = absurd (cc)
fewer_some false o there = there

fewer_none : {X : Type 0} (gone : Bool) (o : Option X) → o ≡ None → cond gone None o ≡ None
fewer_none true o none = refl
fewer_none false o none = none

pub numbered_without : (id : ℕ) (ts : Targets) → AreNumbered ts → AreNumbered (without_target id ts)
numbered_without id ts numbered = record {
  listened = λ q there. numbered.listened q (fewer_some (eq_by_cmp nat_cmp q id) (get ts.listened q) (sym (ap is_some (get-remove nat_cmp_total ts.listened id q)) ∙ there));
  refused = λ q there. let was = numbered.refused q there in (was.0, get-remove nat_cmp_total ts.listened id q ∙ fewer_none (eq_by_cmp nat_cmp q id) (get ts.listened q) was.1);
}

-- ---- those that are refused

one_refused : (o : Option Listened) (id : ℕ) (cause : Cause) (ts : Targets) → get ts.listened id ≡ o → AreNumbered ts → AreNumbered (refused_at o id cause ts)
one_refused None id cause ts is numbered = numbered
one_refused (Some l) id cause ts is numbered = record {
  listened = fewer.listened;
  refused = λ q there. by_test q (eq_by_cmp nat_cmp q id) refl (sym (ap is_some (get-insert nat_cmp_total ts.causes id cause q)) ∙ there);
} where
  fewer : AreNumbered (without_target id ts)
  fewer = numbered_without id ts numbered

  by_test : (q : ℕ) (same : Bool) → eq_by_cmp nat_cmp q id ≡ same → is_some (cond same (Some cause) (get ts.causes q)) ≡ true → IsNumbered ts.last q × (get (without_target id ts).listened q ≡ None)
  by_test q true ties there = (
    subst (IsNumbered ts.last) (sym (number_is q id ties)) (numbered.listened id (ap is_some is)),
    get-remove nat_cmp_total ts.listened id q ∙ ap (λ b. cond b None (get ts.listened q)) ties,
  )
  by_test q false ties there = fewer.refused q there

pub numbered_refused : (ids : List ℕ) (cause : Cause) (ts : Targets) → AreNumbered ts → AreNumbered (refused_targets ids cause ts)
numbered_refused [] cause ts numbered = numbered
numbered_refused (id ∷ ids) cause ts numbered = numbered_refused ids cause (refused_at (get ts.listened id) id cause ts) (one_refused (get ts.listened id) id cause ts refl numbered)
