use Rattle.std.proofs.Common.{◌≡◌, ◌+◌, ◌≤ℤ◌, None, arith, refl, sym, ap, ◌∙◌, subst}
use Rattle.std.specs.Prelude.{IfSome}
use Rattle.fs_machine.specs.Listen.{adding_refusal, with_target}
use Rattle.fs_machine.specs.State.{Machine}
use Rattle.fs_machine.proofs.Asking.{adding_passes, token_shown}
use Rattle.fs_sessions.specs.Heard.{listeners_of}
use Rattle.fs_server.proofs.Targets.{kept_adding, listeners_adding, may_add, may_number, may_use, number_left}
use Rattle.fs_server.proofs.server.Server.add_free.Goals as goal

pub overflow_add-number : goal.overflow_add-number
overflow_add-number c =
    let s = c.self.inside in
    let m : Machine = record { config = s.config; limits = s.limits; past = s.past; txns = s.txns; sessions = s.sessions; listeners = listeners_of s.listeners; parked = s.waiting; streams = s.streams; numbers = s.numbers } in
    let none : adding_refusal m c.args.session c.args.id c.args.target.now c.args.token.now ≡ None =
    ap (λ (k : Machine). adding_refusal k c.args.session c.args.id c.args.target.now c.args.token.now) c.self.view_is ∙ c.requires in
    let left = number_left m c.args.session c.args.id c.args.target.now c.args.token.now none in
    omega (arith, left, c.self.invariant.allowed.ids)

pub add_target-requires-clause-free : goal.add_target-requires-clause-free
add_target-requires-clause-free c =
    let s = c.self.inside in
    let m : Machine = record { config = s.config; limits = s.limits; past = s.past; txns = s.txns; sessions = s.sessions; listeners = listeners_of s.listeners; parked = s.waiting; streams = s.streams; numbers = s.numbers } in
    let none = ap (λ (k : Machine). adding_refusal k c.args.session c.args.id c.args.target.now c.args.token.now) c.self.view_is ∙ c.requires in
    may_add m c.args.session c.args.id c.args.target.now c.args.token.now none s.listeners refl c.self.invariant.heard

pub add_target-requires-clause-unnumbered : goal.add_target-requires-clause-unnumbered
add_target-requires-clause-unnumbered c =
    let s = c.self.inside in
    let m : Machine = record { config = s.config; limits = s.limits; past = s.past; txns = s.txns; sessions = s.sessions; listeners = listeners_of s.listeners; parked = s.waiting; streams = s.streams; numbers = s.numbers } in
    let none = ap (λ (k : Machine). adding_refusal k c.args.session c.args.id c.args.target.now c.args.token.now) c.self.view_is ∙ c.requires in
    may_number m c.args.session c.args.id c.args.target.now c.args.token.now none s.listeners refl c.self.invariant.heard

pub add_target-requires-clause-unused : goal.add_target-requires-clause-unused
add_target-requires-clause-unused c =
    let s = c.self.inside in
    let m : Machine = record { config = s.config; limits = s.limits; past = s.past; txns = s.txns; sessions = s.sessions; listeners = listeners_of s.listeners; parked = s.waiting; streams = s.streams; numbers = s.numbers } in
    let none = ap (λ (k : Machine). adding_refusal k c.args.session c.args.id c.args.target.now c.args.token.now) c.self.view_is ∙ c.requires in
    may_use m c.args.session c.args.id c.args.target.now c.args.token.now none s.listeners s.numbers.targets c.self.invariant.listened.numbers

pub invariant_of-self-2 : goal.invariant_of-self-2
invariant_of-self-2 c =
    let s = c.self.inside in
    let m : Machine = record { config = s.config; limits = s.limits; past = s.past; txns = s.txns; sessions = s.sessions; listeners = listeners_of s.listeners; parked = s.waiting; streams = s.streams; numbers = s.numbers } in
    let none = ap (λ (k : Machine). adding_refusal k c.args.session c.args.id c.args.target.now c.args.token.now) c.self.view_is ∙ c.requires in
    let shown = token_shown m c.args.token.now (adding_passes m c.args.session c.args.id c.args.target.now c.args.token.now none).1 in
    kept_adding s.config s.limits s.past s.txns s.sessions s.listeners c.add_target.new.self s.waiting s.streams s.numbers c.self.invariant c.targets_are_lawful.ensures.adding c.args.session c.args.id
    c.in_ok-answer.target c.token_time-time.result (subst (λ o. IfSome o (λ k. k ≤ℤ s.past.released)) (sym c.token_time-time.ensures) shown) c.in_default.ensures.ok

pub returns-clause-state : goal.returns-clause-state
returns-clause-state c =
    let s = c.self.inside in
    let m : Machine = record { config = s.config; limits = s.limits; past = s.past; txns = s.txns; sessions = s.sessions; listeners = listeners_of s.listeners; parked = s.waiting; streams = s.streams; numbers = s.numbers } in
    let number = s.numbers.targets + 1 in
    let listeners = ap listeners_of c.in_default.ensures.ok ∙ listeners_adding c.args.session c.args.id number c.in_ok-answer.target c.token_time-time.result s.listeners in
    (λ i. record m { listeners = listeners i; numbers = record s.numbers { targets = number } })
    ∙ (λ i. with_target (c.self.view_is i) c.args.session c.args.id (c.in_ok-answer.ensures.copied i) (c.token_time-time.ensures i))
