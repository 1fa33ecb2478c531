use Rattle.std.proofs.Common.{refl, sym, ap, ◌∙◌, subst}
use Rattle.fs_machine.specs.State.{Machine}
use Rattle.fs_server.specs.Changes.{IsFresh}
use Rattle.fs_server.specs.Noted.{own_number}
use Rattle.fs_sessions.specs.Heard.{listeners_of}
use Rattle.fs_server.proofs.Asking.{went, went_kept}
use Rattle.fs_server.proofs.Fresh.{fresh_asked}
use Rattle.fs_server.proofs.Within.{retried_within}
use Rattle.fs_server.proofs.server.Server.go.Goals as goal

pub carry_out-requires-clause-clear : goal.carry_out-requires-clause-clear
carry_out-requires-clause-clear c = record {
  limits = retried_within c.args.self.now c.args.session c.args.envelope.now.request c.requires.limits;
  check = c.requires.check;
  reads = c.requires.reads;
}

pub carry_out-requires-clause-fresh : goal.carry_out-requires-clause-fresh
carry_out-requires-clause-fresh c =
    let m = c.args.self.now in
    let q = c.args.envelope.now.request in
    let number = c.number_of-id.ensures ∙ ap (λ (n : Machine). own_number n.numbers.ids q) c.self.view_is in
    subst (λ id. IsFresh m id q) (sym number) (fresh_asked m q c.stand.ensures.facts.ids)

pub invariant_of-self-2 : goal.invariant_of-self-2
invariant_of-self-2 c =
    let s = c.self.inside in
    let m0 : Machine = record { config = s.config; limits = s.limits; past = s.past; txns = s.txns; sessions = s.sessions; listeners = listeners_of s.listeners; parked = s.waiting; streams = s.streams; numbers = s.numbers } in
    went_kept m0 c.args.self.now c.self.view_is c.args.session c.args.envelope.now c.requires.limits c.requires.check c.number_of-id.result c.ids_after-self-inside.result c.number_of-id.ensures
    c.ids_after-self-inside.ensures c.requires.plain c.requires.free (c.in_ok-answer.answer, c.in_ok-answer.change) c.in_ok-answer.ensures c.make.new.past c.make.new.txns c.in_default.ensures.past c.in_default.ensures.txns
    s.listeners refl c.self.invariant.configured c.self.invariant.allowed c.self.invariant.shards c.self.invariant.heard c.stand.ensures.facts

pub returns-clause-state : goal.returns-clause-state
returns-clause-state c =
    let s = c.self.inside in
    let m0 : Machine = record { config = s.config; limits = s.limits; past = s.past; txns = s.txns; sessions = s.sessions; listeners = listeners_of s.listeners; parked = s.waiting; streams = s.streams; numbers = s.numbers } in
    went m0 c.args.self.now c.self.view_is c.args.session c.args.envelope.now c.requires.limits c.requires.check c.number_of-id.result c.ids_after-self-inside.result c.number_of-id.ensures
    c.ids_after-self-inside.ensures c.requires.plain c.requires.free (c.in_ok-answer.answer, c.in_ok-answer.change) c.in_ok-answer.ensures c.make.new.past c.make.new.txns c.in_default.ensures.past c.in_default.ensures.txns
