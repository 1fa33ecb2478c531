-- The commits that events let out are the batches that the history has more.
use Rattle.std.proofs.Common.{◌≡◌, List, [], ◌∷◌, refl, sym, ap, ◌∙◌}
use Rattle.std.specs.Prelude.{slice_get}
use Rattle.fs_machine.specs.Event.{Event, after, step}
use Rattle.fs_machine.specs.Laws.{let_out_by, let_out_in}
use Rattle.fs_machine.specs.Open.{is_full}
use Rattle.fs_machine.specs.Release.{joined}
use Rattle.fs_machine.specs.Settle.{pending_of}
use Rattle.fs_machine.specs.State.{Machine}
use Rattle.fs_machine.proofs.Listening.{loaded_rest, raised_rest}
use Rattle.fs_machine.proofs.Moved.{joined_more}
use Rattle.fs_machine.proofs.Runs.{asked_stays, decided_stays, opened_stays, retried_stays}

joined_by : (m : Machine) (e : Event) → (step m e).past.history ≡ joined m.past.history (let_out_by m e)
joined_by m Event.opening = (opened_stays m (is_full m)).0
joined_by m (Event.leaving session) = refl
joined_by m (Event.asking session e) = (asked_stays m session e).0
joined_by m (Event.retrying place) = (retried_stays m place (slice_get m.parked place)).0
joined_by m (Event.deciding id) = (decided_stays m (pending_of m.past id)).0
joined_by m (Event.advancing now) = refl
joined_by m Event.releasing = refl
joined_by m (Event.compacting to) = refl
joined_by m (Event.loading session target at) = ap (λ (n : Machine). n.past.history) (loaded_rest m session target at)
joined_by m (Event.matching shard to) = refl
joined_by m (Event.raising session) = ap (λ (n : Machine). n.past.history) (raised_rest m session)
joined_by m (Event.taking session) = refl

pub replies_come_once : (m : Machine) (es : List Event) → (after m es).past.history ≡ joined m.past.history (let_out_in m es)
replies_come_once m [] = refl
replies_come_once m (e ∷ es) =
    let n = step m e in
    replies_come_once n es ∙ ap (λ h. joined h (let_out_in n es)) (joined_by m e) ∙ sym (joined_more (let_out_by m e) (let_out_in n es) m.past.history)
