-- No event changes the configuration or the limits.
use Rattle.std.proofs.Common.{◌≡◌, Bool, true, false, cond, List, [], ◌∷◌, Option, Some, None, Result, Ok, Err, refl, ap, ◌∙◌}
use Rattle.std.specs.Prelude.{slice_get}
use Rattle.fs_status.specs.declared.refusal.Refusal.{Refusal}
use Rattle.fs_write.specs.Batch.{Docs}
use Rattle.fs_write.specs.declared.write_result.WriteResult.{WriteResult}
use Rattle.fs_machine.specs.Event.{Event, after, step}
use Rattle.fs_machine.specs.Open.{is_full, with_session}
use Rattle.fs_machine.specs.Request.{arrival_refusal, arrived}
use Rattle.fs_machine.specs.Settle.{decided_if, decided_with, outcome_of, pending_of}
use Rattle.fs_machine.specs.State.{Machine}
use Rattle.fs_machine.specs.declared.unreleased.Unreleased.{Unreleased}
use Rattle.fs_machine.proofs.Carried.{asked_alone, retried_alone}
use Rattle.fs_machine.proofs.Listening.{loaded_rest, raised_rest}

pub record AreKept (m n : Machine) : Type 0 where
  pub config : n.config ≡ m.config
  pub limits : n.limits ≡ m.limits

opened_keeps : (m : Machine) (full : Bool) → AreKept m (cond full m (with_session m))
opened_keeps m true = record { config = refl; limits = refl }
opened_keeps m false = record { config = refl; limits = refl }

decided_with_keeps : (m : Machine) (u : Unreleased) (r : Result (Docs × List WriteResult) Refusal) → AreKept m (decided_with m u r)
decided_with_keeps m u (Ok done) = record { config = refl; limits = refl }
decided_with_keeps m u (Err refusal) = record { config = refl; limits = refl }

decided_keeps : (m : Machine) (found : Option Unreleased) → AreKept m (decided_if m found)
decided_keeps m None = record { config = refl; limits = refl }
decided_keeps m (Some u) = decided_with_keeps m u (outcome_of m.past u)

step_keeps : (m : Machine) (e : Event) → AreKept m (step m e)
step_keeps m Event.opening = opened_keeps m (is_full m)
step_keeps m (Event.leaving session) = record { config = refl; limits = refl }
step_keeps m (Event.asking session e) = let alone = asked_alone m (arrived m session e) (arrival_refusal m session e.request) in record { config = alone.config; limits = alone.limits }
step_keeps m (Event.retrying place) = let alone = retried_alone m place (slice_get m.parked place) in record { config = alone.config; limits = alone.limits }
step_keeps m (Event.deciding id) = decided_keeps m (pending_of m.past id)
step_keeps m (Event.advancing now) = record { config = refl; limits = refl }
step_keeps m Event.releasing = record { config = refl; limits = refl }
step_keeps m (Event.compacting to) = record { config = refl; limits = refl }
step_keeps m (Event.loading session target at) =
    let rest = loaded_rest m session target at in record { config = ap (λ (x : Machine). x.config) rest; limits = ap (λ (x : Machine). x.limits) rest }
step_keeps m (Event.matching shard to) = record { config = refl; limits = refl }
step_keeps m (Event.raising session) = let rest = raised_rest m session in record { config = ap (λ (x : Machine). x.config) rest; limits = ap (λ (x : Machine). x.limits) rest }
step_keeps m (Event.taking session) = record { config = refl; limits = refl }

pub settings_kept : (m : Machine) (es : List Event) → AreKept m (after m es)
settings_kept m [] = record { config = refl; limits = refl }
settings_kept m (e ∷ es) =
    let first = step_keeps m e in
    let rest = settings_kept (step m e) es in
    record { config = rest.config ∙ first.config; limits = rest.limits ∙ first.limits }
