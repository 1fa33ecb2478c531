use Rattle.std.proofs.Common.{◌≡◌, ◌<◌, ◌-◌, Ok, true, length, sym, ap, ◌∙◌, subst, arith}
use Rattle.std.proofs.lemmas.List.{get_or_read}
use Rattle.fs_stream.specs.Answers.{take_answer}
use Rattle.fs_stream.specs.Streams.{Streams, fresh, stream_of}
use Rattle.fs_stream.proofs.Standing.{KeepsOne, new_there, stands_set, stream_at}
use Rattle.fs_stream.proofs.streams.Streams.take.Goals as goal

pub invariant_of-self : goal.invariant_of-self
invariant_of-self c =
    let s = c.self.inside in
    let m : Streams = record { opened = s.opened.items; owners = s.owners; limit = s.limit } in
    let n = c.in-New.number in
    let r = c.index_mut.result.now in
    let there = new_there c.args.session c.args.token n m c.self.invariant (ap (take_answer c.args.session c.args.token) c.self.view_is ∙ c.in_ok-take.ensures.ok ∙ ap Ok c.in-New.is) in
    let inside : n - 1 < length s.opened.items = omega (arith, there.0, there.1) in
    let is : stream_of n m ≡ r = stream_at n m there.0 ∙ sym (get_or_read s.opened.items (n - 1) r inside c.index_mut.ensures.value fresh) in
    stands_set n (record r { busy = true }) m there.0 (subst KeepsOne is (c.self.invariant.kept n)) c.self.invariant
