use Rattle.std.proofs.Common.{◌≡◌, ◌+◌, ◌≤◌, [], None, length, refl, sym, ap, ◌∙◌, subst}
use Rattle.fs_request.specs.declared.request.Request.TheVariants.{Commit}
use Rattle.fs_stream.specs.Streams.{taken}
use Rattle.fs_stream.specs.declared.take.Take.TheVariants.{New}
use Rattle.fs_machine.specs.Commit.{prepared}
use Rattle.fs_machine.specs.IdsAreDrawn.{times_in}
use Rattle.fs_machine.specs.Past.{batches}
use Rattle.fs_machine.specs.State.{Machine}
use Rattle.fs_machine.specs.declared.asker.Asker.TheVariants.{Stream}
use Rattle.fs_sessions.specs.Heard.{listeners_of}
use Rattle.fs_server.specs.Changes.{changed, commit_for}
use Rattle.fs_server.specs.Streaming.{batch_prepared}
use Rattle.fs_server.proofs.Asking.{heard_changed, shards_changed}
use Rattle.fs_server.proofs.Fresh.{fresh_asked}
use Rattle.fs_server.proofs.Within.{retried_within}
use Rattle.fs_server.proofs.Writing.{next_kept, next_there, state_prepared}
use Rattle.fs_server.proofs.server.Server.prepare_batch.Goals as goal

pub commit_plain-requires-clause-limits : goal.commit_plain-requires-clause-limits
commit_plain-requires-clause-limits c =
    let m = c.args.self.now in
    retried_within m c.requires.next.0 (Commit m.config.root c.args.writes.now None) c.requires.next.1.limits

pub commit_plain-requires-clause-fresh : goal.commit_plain-requires-clause-fresh
commit_plain-requires-clause-fresh c =
    let m = c.args.self.now in
    subst (λ id. times_in id (batches m.past.unreleased) ≡ 0) (sym (c.new-id.ensures ∙ ap (λ (k : Machine). k.numbers.ids + 1) c.self.view_is)) (fresh_asked m (Commit m.config.root c.args.writes.now None) c.stand.ensures.facts.ids)

pub begin-requires-clause-above : goal.begin-requires-clause-above
begin-requires-clause-above c = (next_there c.args.self.now c.requires.next.0 c.args.stream c.args.writes.now c.requires.next.1 c.stand.ensures.facts).0

pub begin-requires-clause-opened : goal.begin-requires-clause-opened
begin-requires-clause-opened c =
    subst (λ (k : Machine). c.args.stream ≤ length k.streams.opened) (sym c.self.view_is) (next_there c.args.self.now c.requires.next.0 c.args.stream c.args.writes.now c.requires.next.1 c.stand.ensures.facts).1

pub invariant_of-self-2 : goal.invariant_of-self-2
invariant_of-self-2 c =
    let s = c.self.inside in
    let m = c.args.self.now in
    let n = c.args.stream in
    let ws = c.args.writes.now in
    let change = c.in_ok-answer.change in
    let m0 : Machine = record { config = s.config; limits = s.limits; past = s.past; txns = s.txns; sessions = s.sessions; listeners = listeners_of s.listeners; parked = s.waiting; streams = s.streams; numbers = s.numbers } in
    let k : Machine = record m0 { past = c.make.new.past; txns = c.make.new.txns; streams = c.begin.new.self; numbers = record s.numbers { ids = s.numbers.ids + 1 } } in
    let number = c.new-id.ensures ∙ ap (λ (x : Machine). x.numbers.ids + 1) c.self.view_is in
    let made : changed m change ≡ prepared m (commit_for m.past (m.numbers.ids + 1) (Stream n) ws []) =
    c.in_ok-answer.ensures.state ∙ ap (λ id. prepared m (commit_for m.past id (Stream n) ws [])) number in
    let is : k ≡ batch_prepared m n ws =
    (λ i. record m0 { past = c.in_default.ensures.past i; txns = c.in_default.ensures.txns i; streams = c.begin.ensures i; numbers = record s.numbers { ids = s.numbers.ids + 1 } })
    ∙ ap (λ (x : Machine). record (changed x change) { streams = taken (New n) x.streams; numbers = record x.numbers { ids = x.numbers.ids + 1 } }) c.self.view_is
    ∙ ap (λ (x : Machine). record x { streams = taken (New n) m.streams; numbers = record m.numbers { ids = m.numbers.ids + 1 } }) made in
    next_kept m c.requires.next.0 n ws c.requires.next.1 k None m.config.root (is ∙ state_prepared m c.requires.next.0 None m.config.root n ws c.requires.free) s.listeners refl c.self.invariant.configured c.self.invariant.allowed (shards_changed s.past c.make.new.past change s.config.shards c.in_default.ensures.past c.self.invariant.shards)
    (heard_changed s.config s.limits s.past c.make.new.past change s.listeners c.in_default.ensures.past c.self.invariant.heard) c.stand.ensures.facts
