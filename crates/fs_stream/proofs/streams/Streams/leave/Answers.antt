use Rattle.std.proofs.Common.{sym, subst}
use Rattle.fs_stream.specs.Stands.{Stands}
use Rattle.fs_stream.proofs.Standing.{stands_left}
use Rattle.fs_stream.proofs.streams.Streams.leave.Goals as goal

pub invariant_of-self : goal.invariant_of-self
invariant_of-self c =
    let s = c.self.inside in
    subst (λ o. Stands (record { opened = s.opened.items; owners = o; limit = s.limit })) (sym c.remove.ensures)
    (stands_left c.args.session (record { opened = s.opened.items; owners = s.owners; limit = s.limit }) c.self.invariant)
