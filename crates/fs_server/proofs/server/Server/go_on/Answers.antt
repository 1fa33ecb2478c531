use Rattle.std.proofs.Common.{refl, sym, ap, ◌∙◌}
use Rattle.std.specs.Prelude.{slice_get}
use Rattle.fs_machine.specs.State.{Machine}
use Rattle.fs_sessions.specs.Heard.{listeners_of}
use Rattle.fs_server.proofs.Fresh.{fresh_parked}
use Rattle.fs_server.proofs.Listens.{plain_parked}
use Rattle.fs_server.proofs.Retrying.{went_on, went_on_kept}
use Rattle.fs_server.proofs.server.Server.go_on.Goals as goal

pub carry_out-requires-clause-fresh : goal.carry_out-requires-clause-fresh
carry_out-requires-clause-fresh c =
    let here = ap (λ (n : Machine). slice_get n.parked c.args.place) (sym c.self.view_is) ∙ c.at-request.ensures in
    fresh_parked c.args.self.now c.args.place c.at-request.result.now here c.stand.ensures.facts.ids

pub carry_out-requires-clause-plain : goal.carry_out-requires-clause-plain
carry_out-requires-clause-plain c =
    let here = ap (λ (n : Machine). slice_get n.parked c.args.place) (sym c.self.view_is) ∙ c.at-request.ensures in
    plain_parked c.args.self.now c.args.place c.at-request.result.now here c.stand.ensures.facts.waiters

pub invariant_of-self-2 : goal.invariant_of-self-2
invariant_of-self-2 c =
    let s = c.self.inside in
    let r = c.at-request.result.now in
    let m0 : Machine = record { config = s.config; limits = s.limits; past = s.past; txns = s.txns; sessions = s.sessions; listeners = listeners_of s.listeners; parked = s.waiting; streams = s.streams; numbers = s.numbers } in
    let here = ap (λ (n : Machine). slice_get n.parked c.args.place) (sym c.self.view_is) ∙ c.at-request.ensures in
    let clear = c.requires.clear r here in
    went_on_kept m0 c.args.self.now c.self.view_is c.args.place r here clear.limits clear.check (plain_parked c.args.self.now c.args.place r here c.stand.ensures.facts.waiters) (c.requires.free r here) (c.in_ok-answer.answer, c.in_ok-answer.change) c.in_ok-answer.ensures
    c.make.new.past c.make.new.txns c.remove.new.self c.in_default.ensures.past c.in_default.ensures.txns c.remove.ensures s.listeners refl c.self.invariant.configured c.self.invariant.allowed c.self.invariant.shards c.self.invariant.heard c.stand.ensures.facts

pub returns-clause-state : goal.returns-clause-state
returns-clause-state c =
    let s = c.self.inside in
    let r = c.at-request.result.now in
    let m0 : Machine = record { config = s.config; limits = s.limits; past = s.past; txns = s.txns; sessions = s.sessions; listeners = listeners_of s.listeners; parked = s.waiting; streams = s.streams; numbers = s.numbers } in
    let here = ap (λ (n : Machine). slice_get n.parked c.args.place) (sym c.self.view_is) ∙ c.at-request.ensures in
    let clear = c.requires.clear r here in
    went_on m0 c.args.self.now c.self.view_is c.args.place r here clear.limits clear.check (plain_parked c.args.self.now c.args.place r here c.stand.ensures.facts.waiters) (c.requires.free r here) (c.in_ok-answer.answer, c.in_ok-answer.change) c.in_ok-answer.ensures
    c.make.new.past c.make.new.txns c.remove.new.self c.in_default.ensures.past c.in_default.ensures.txns c.remove.ensures
