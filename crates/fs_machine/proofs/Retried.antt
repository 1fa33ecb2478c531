-- A request that waited and goes on is carried out as one that comes.
use Rattle.std.proofs.Common.{◌≡◌, ℕ, Option, Some, None, sym, ap, ◌∙◌}
use Rattle.std.specs.Prelude.{remove, slice_get}
use Rattle.fs_status.specs.declared.refusal.Refusal.{Refusal}
use Rattle.fs_machine.specs.declared.parked_request.ParkedRequest.{ParkedRequest}
use Rattle.fs_machine.specs.Request.{Decision, arrives, decision, retry_refusal, unless_full, unless_refused}
use Rattle.fs_machine.specs.Retry.{retried, retried_if, retry_decision, tried, unparked}
use Rattle.fs_machine.specs.State.{Machine}
use Rattle.fs_machine.proofs.Holding.{decision_alike}

unless_any : (refusal : Option Refusal) (d : Decision) → unless_refused refusal d ≡ Decision.goes_on → d ≡ Decision.goes_on
unless_any (Some refusal) d goes = absurd (cc)
unless_any None d goes = goes

pub retried_as_if_it_came : (m : Machine) (place : ℕ) (r : ParkedRequest) → slice_get m.parked place ≡ Some r → retry_decision m r.session r.envelope.request ≡ Decision.goes_on
    → retried m place ≡ arrives (unparked m place) r (unless_full (unparked m place) (decision (unparked m place) r.session r.envelope.request))
retried_as_if_it_came m place r is goes =
    let n = unparked m place in
    let free : decision n r.session r.envelope.request ≡ Decision.goes_on = decision_alike m m.numbers (remove m.parked place) r.session r.envelope.request ∙ unless_any (retry_refusal m r.envelope.request) (decision m r.session r.envelope.request) goes in
    ap (retried_if m place) is ∙ ap (tried m place r) goes ∙ ap (λ d. arrives n r (unless_full n d)) (sym free)
