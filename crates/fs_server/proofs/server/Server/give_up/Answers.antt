use Rattle.std.proofs.Common.{◌<◌, ◌^◌, refl, sym, ap, ◌∙◌, subst}
use Rattle.std.specs.Prelude.{slice_get}
use Rattle.fs_machine.specs.Retry.{given_up}
use Rattle.fs_machine.specs.State.{Machine}
use Rattle.fs_machine.specs.Stream.{batch_refused}
use Rattle.fs_sessions.specs.Heard.{listeners_of}
use Rattle.fs_server.proofs.Responses.{parked_may}
use Rattle.fs_server.proofs.Retrying.{gave_up_kept}
use Rattle.fs_server.proofs.server.Server.give_up.Goals as goal

pub refuse_batch-requires : goal.refuse_batch-requires
refuse_batch-requires c =
    let s = c.self.inside in
    let small = subst (λ (k : Machine). k.numbers.ids < 2 ^ 64) (sym c.self.view_is) c.stand.ensures.counted in
    parked_may s.past s.waiting s.streams s.numbers.ids small c.self.invariant.streaming c.args.place c.in-Some.stream c.at.result.now c.at.ensures c.in-Some.is

pub invariant_of-self-in-Some : goal.invariant_of-self-in-Some
invariant_of-self-in-Some c =
    let s = c.self.inside in
    let r = c.at.result.now in
    let m0 : Machine = record { config = s.config; limits = s.limits; past = s.past; txns = s.txns; sessions = s.sessions; listeners = listeners_of s.listeners; parked = s.waiting; streams = s.streams; numbers = s.numbers } in
    let here = ap (λ (n : Machine). slice_get n.parked c.args.place) (sym c.self.view_is) ∙ c.at.ensures in
    let told = c.in_ok-refuse_batch-in-Some.ensures.told ∙ ap (λ x. batch_refused c.in-Some.stream x (s.streams, s.sessions)) c.in_ok-told-in-Some.ensures ∙ sym (ap (λ o. given_up o c.args.refusal (s.streams, s.sessions)) c.in-Some.is) in
    gave_up_kept m0 c.args.self.now c.self.view_is c.args.place r here c.args.refusal (c.requires.refused r here) (c.refuse_batch.new.streams, c.refuse_batch.new.sessions) c.remove.new.self told c.remove.ensures
    s.listeners refl c.self.invariant.configured c.self.invariant.allowed c.self.invariant.shards c.self.invariant.heard c.stand.ensures.facts

pub invariant_of-self-in-None : goal.invariant_of-self-in-None
invariant_of-self-in-None c =
    let s = c.self.inside in
    let r = c.at.result.now in
    let m0 : Machine = record { config = s.config; limits = s.limits; past = s.past; txns = s.txns; sessions = s.sessions; listeners = listeners_of s.listeners; parked = s.waiting; streams = s.streams; numbers = s.numbers } in
    let here = ap (λ (n : Machine). slice_get n.parked c.args.place) (sym c.self.view_is) ∙ c.at.ensures in
    let told = sym (ap (λ o. given_up o c.args.refusal (s.streams, s.sessions)) c.in-None.is) in
    gave_up_kept m0 c.args.self.now c.self.view_is c.args.place r here c.args.refusal (c.requires.refused r here) (s.streams, s.sessions) c.remove-in-None.new.self told c.remove-in-None.ensures
    s.listeners refl c.self.invariant.configured c.self.invariant.allowed c.self.invariant.shards c.self.invariant.heard c.stand.ensures.facts
