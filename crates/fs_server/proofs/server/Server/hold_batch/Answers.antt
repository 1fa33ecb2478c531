use Rattle.std.proofs.Common.{rules, ◌≡◌, ◌+◌, ◌≤◌, false, Some, [], ◌∷◌, ◌++◌, length, refl, sym, ap, ◌∙◌, subst}
use Rattle.std.specs.Prelude.{nat_le}
use Rattle.fs_machine.specs.State.{Machine}
use Rattle.fs_sessions.specs.Heard.{listeners_of}
use Rattle.fs_server.specs.Changes.{asking}
use Rattle.fs_server.specs.Streaming.{after_next, batch_of, batch_parked, commit_of}
use Rattle.fs_server.proofs.Writing.{next_kept, next_there, state_waits}
use Rattle.fs_server.proofs.server.Server.hold_batch.Goals as goal

pub begin-requires-clause-above : goal.begin-requires-clause-above
begin-requires-clause-above c = (next_there c.args.self.now c.args.session c.args.stream c.args.writes.now c.requires.next c.stand.ensures.facts).0

pub begin-requires-clause-opened : goal.begin-requires-clause-opened
begin-requires-clause-opened c =
    subst (λ (k : Machine). c.args.stream ≤ length k.streams.opened) (sym c.self.view_is) (next_there c.args.self.now c.args.session c.args.stream c.args.writes.now c.requires.next c.stand.ensures.facts).1

pub invariant_of-self-2 : goal.invariant_of-self-2
invariant_of-self-2 c =
    let s = c.self.inside in
    let m = c.args.self.now in
    let n = c.args.stream in
    let ws = c.args.writes.now in
    let m0 : Machine = record { config = s.config; limits = s.limits; past = s.past; txns = s.txns; sessions = s.sessions; listeners = listeners_of s.listeners; parked = s.waiting; streams = s.streams; numbers = s.numbers } in
    let k : Machine = record m0 { parked = c.push.new.self; streams = c.begin.new.self; numbers = record s.numbers { ids = s.numbers.ids + 1 } } in
    let room : nat_le m.limits.parked (length m.parked) ≡ false = search rules in
    let more = c.in_ok-push.ensures.ok ∙ (λ i. s.waiting ++ (c.in_ok-request.ensures ∙ ap (λ number. asking c.args.session number (Some n) (commit_of c.args.id.now c.args.database.now ws)) c.new-number.ensures) i ∷ []) in
    let is : k ≡ after_next m (batch_of m c.args.session c.args.id.now c.args.database.now n ws) ws =
    (λ i. record m0 { parked = more i; streams = c.begin.ensures i; numbers = record s.numbers { ids = s.numbers.ids + 1 } })
    ∙ ap (λ (x : Machine). batch_parked x (batch_of x c.args.session c.args.id.now c.args.database.now n ws) n) c.self.view_is
    ∙ state_waits m (batch_of m c.args.session c.args.id.now c.args.database.now n ws) n ws refl c.args.holder c.requires.held room in
    next_kept m c.args.session n ws c.requires.next k c.args.id.now c.args.database.now is s.listeners refl c.self.invariant.configured c.self.invariant.allowed c.self.invariant.shards c.self.invariant.heard c.stand.ensures.facts
