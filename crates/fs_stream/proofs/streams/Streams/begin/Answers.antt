use Rattle.std.proofs.Common.{◌≡◌, ◌<◌, ◌-◌, true, length, sym, ap, ◌∙◌, subst, arith}
use Rattle.std.proofs.lemmas.List.{get_or_read}
use Rattle.fs_stream.specs.Streams.{Streams, fresh, stream_of}
use Rattle.fs_stream.proofs.Standing.{KeepsOne, stands_set, stream_at}
use Rattle.fs_stream.proofs.streams.Streams.begin.Goals as goal

pub invariant_of-self : goal.invariant_of-self
invariant_of-self c =
    let s = c.self.inside in
    let m : Streams = record { opened = s.opened.items; owners = s.owners; limit = s.limit } in
    let n = c.args.stream in
    let r = c.index_mut.result.now in
    let long : length s.opened.items ≡ length c.args.self.now.opened = ap (λ (v : Streams). length v.opened) c.self.view_is in
    let above = c.requires.above in
    let within = c.requires.opened in
    let inside : n - 1 < length s.opened.items = omega (arith, above, within, long) in
    let is : stream_of n m ≡ r = stream_at n m above ∙ sym (get_or_read s.opened.items (n - 1) r inside c.index_mut.ensures.value fresh) in
    stands_set n (record r { busy = true }) m above (subst KeepsOne is (c.self.invariant.kept n)) c.self.invariant
