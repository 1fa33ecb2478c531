use Rattle.std.proofs.Common.{◌≡◌, sym, ap, ◌∙◌, subst}
use Rattle.std.specs.Prelude.{slice_get}
use Rattle.std.proofs.lemmas.Option.{same_Some}
use Rattle.fs_machine.specs.State.{Machine}
use Rattle.fs_machine.specs.declared.parked_request.ParkedRequest.{ParkedRequest}
use Rattle.fs_server.specs.Changes.{IsClear}
use Rattle.fs_server.proofs.Listens.{plain_parked}
use Rattle.fs_server.proofs.Retrying.{is_clear}
use Rattle.fs_server.proofs.server.Server.try_again.Goals as goal

pub refusal-requires-clause-plain : goal.refusal-requires-clause-plain
refusal-requires-clause-plain c =
    let here = ap (λ (n : Machine). slice_get n.parked c.args.place) (sym c.self.view_is) ∙ c.at.ensures in
    plain_parked c.args.self.now c.args.place c.at.result.now here c.stand.ensures.facts.waiters

pub try_clear-requires-clause-clear : goal.try_clear-requires-clause-clear
try_clear-requires-clause-clear c = λ r here.
    let m = c.args.self.now in
    let x = c.at.result.now in
    let at = ap (λ (n : Machine). slice_get n.parked c.args.place) (sym c.self.view_is) ∙ c.at.ensures in
    let same : x ≡ r = same_Some x r (sym at ∙ here) in
    subst (λ (k : ParkedRequest). IsClear m k.session k.envelope.request c.in_ok-reads.reads) same (is_clear m x.session x.envelope.request c.in_ok-reads.reads (sym c.in-Ok-None.field-0-is ∙ c.in-Ok-None.ensures x.session) c.in_ok-reads.ensures)
