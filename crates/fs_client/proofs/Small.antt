-- Ids that stay small: those of the targets that a client listens to, by what becomes of them.
use Rattle.std.proofs.Common.{◌≡◌, ℕ, ◌<◌, ◌^◌, Bool, true, false, cond, List, [], map, Option, Some, None, refl, sym, ap, ◌∙◌, subst, is_some}
use Rattle.std.specs.FinMap.{FinMap, entries, from_entries, get, get-empty, get-insert, get-remove, insert, remove}
use Rattle.std.specs.Option.{option_map}
use Rattle.std.specs.Ordering.{eq_by_cmp, nat_cmp}
use Rattle.std.proofs.lemmas.Cmp.{nat_cmp_total}
use Rattle.fs_listen.proofs.Listed.{number_is}
use Rattle.fs_local.proofs.Mapped.{get_mapped}
use Rattle.fs_local.specs.declared.listened.Listened.{Listened}
use Rattle.fs_client.specs.Listed.{AreSmall}

pub small_insert : (m : FinMap nat_cmp Listened) (id : ℕ) (l : Listened) → id < 2 ^ 31 → AreSmall m → AreSmall (insert m id l)
small_insert m id l low small q is = by_test (eq_by_cmp nat_cmp q id) refl where
  by_test : (same : Bool) → eq_by_cmp nat_cmp q id ≡ same → q < 2 ^ 31
  by_test true at = subst (λ n. n < 2 ^ 31) (sym (number_is q id at)) low
  by_test false at = small q (ap is_some (ap (λ b. cond b (Some l) (get m q)) (sym at) ∙ sym (get-insert nat_cmp_total m id l q)) ∙ is)

pub small_remove : (m : FinMap nat_cmp Listened) (id : ℕ) → AreSmall m → AreSmall (remove m id)
small_remove m id small q is = by_test (eq_by_cmp nat_cmp q id) refl where
  there : (same : Bool) → eq_by_cmp nat_cmp q id ≡ same → cond same None (get m q) ≡ get (remove m id) q
  there same at = ap (λ b. cond b None (get m q)) (sym at) ∙ sym (get-remove nat_cmp_total m id q)

  by_test : (same : Bool) → eq_by_cmp nat_cmp q id ≡ same → q < 2 ^ 31
  by_test true at = absurd (let none = ap is_some (there true at) ∙ is in cc)
  by_test false at = small q (ap is_some (there false at) ∙ is)

pub small_none : (es : List (ℕ × Listened)) → es ≡ [] → AreSmall (from_entries es)
small_none es none id is = absurd (let there = ap (λ (fs : List (ℕ × Listened)). is_some (get (from_entries {R = nat_cmp} fs) id)) (sym none) ∙ is in let not_there = ap (λ (o : Option Listened). is_some o) (get-empty nat_cmp id) in cc)

pub small_each : (change : Listened → Listened) (m : FinMap nat_cmp Listened) → AreSmall m → AreSmall (from_entries (map (λ (e : ℕ × Listened). (e.0, change e.1)) (entries m)))
small_each change m small q is = small q (same (get m q) (ap is_some (sym (get_mapped nat_cmp change nat_cmp_total m q)) ∙ is)) where
  same : (o : Option Listened) → is_some (option_map change o) ≡ true → is_some o ≡ true
  same None at = at
  same (Some l) at = refl
