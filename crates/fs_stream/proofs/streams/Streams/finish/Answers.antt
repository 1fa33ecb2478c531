use Rattle.std.proofs.Common.{sym, ap, ◌∙◌, subst}
use Rattle.fs_stream.specs.Streams.{Streams, stream_of}
use Rattle.fs_stream.proofs.Standing.{KeepsOne, busy_there, keeps_last, stands_set}
use Rattle.fs_stream.proofs.streams.Streams.finish.Goals as goal

pub invariant_of-self : goal.invariant_of-self
invariant_of-self c =
    let s = c.self.inside in
    let m : Streams = record { opened = s.opened.items; owners = s.owners; limit = s.limit } in
    let there = busy_there c.args.stream m (ap (λ (v : Streams). (stream_of c.args.stream v).busy) c.self.view_is ∙ c.requires.busy) in
    stands_set c.args.stream c.finish.new.self m there.0
    (subst KeepsOne (sym c.finish.ensures) (keeps_last c.index_mut.result.now.finished c.args.kept))
    c.self.invariant
