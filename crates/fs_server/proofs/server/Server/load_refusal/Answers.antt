use Rattle.std.proofs.Common.{◌≡◌, Some, sym, ap, ◌∙◌}
use Rattle.std.specs.FinMap.{get}
use Rattle.fs_listen.specs.Listening.{Listened}
use Rattle.fs_machine.specs.Listen.{listening_of}
use Rattle.fs_machine.specs.Load.{load_floor, load_refusal, time_refusal}
use Rattle.fs_machine.specs.Read.{refusal_from}
use Rattle.fs_machine.specs.State.{Machine}
use Rattle.fs_sessions.specs.Heard.{listeners_of}
use Rattle.fs_server.proofs.Loads.{refused_loading, token_in}
use Rattle.fs_server.proofs.server.Server.load_refusal.Goals as goal

pub returns-in-Some : goal.returns-in-Some
returns-in-Some c =
    let s = c.self.inside in
    let m : Machine = record { config = s.config; limits = s.limits; past = s.past; txns = s.txns; sessions = s.sessions; listeners = listeners_of s.listeners; parked = s.waiting; streams = s.streams; numbers = s.numbers } in
    let found = get (listening_of m c.args.session).targets c.args.target in
    let because = λ (l : Listened) (is : found ≡ Some l).
    c.refusal_from.ensures.value
    ∙ (λ i. refusal_from ((c.load_floor-floor.ensures ∙ (λ j. load_floor (c.floor.ensures.value j) ((c.token-token.ensures ∙ ap token_in is) j))) i) s.past c.in-Some.time)
    ∙ ap (time_refusal s.past l) (sym c.in-Some.is) in
    refused_loading s.past c.args.target c.args.at.now found (ap Some (sym c.in-Some-false.field-0-test) ∙ sym c.in-Some-false.is ∙ c.loaded.ensures) c.refusal_from.result because
    ∙ ap (λ (k : Machine). load_refusal k c.args.session c.args.target c.args.at.now) c.self.view_is
