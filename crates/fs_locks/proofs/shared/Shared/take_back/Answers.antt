use Rattle.fs_locks.proofs.Lasts.{index_again, index_last, index_none, something_left}
use Rattle.fs_locks.proofs.shared.Shared.take_back.Goals as goal

pub invariant_of-self : goal.invariant_of-self
invariant_of-self c =
    let s = c.self.inside in
    let shares = s.by_id.entries in
    let left = c.take_last.new.by_id.entries in
    let n = c.in-Some.noted in
    let e = c.in-Some.ensures in (
      index_last s.index c.take.new.self shares left c.args.id e.rising c.self.invariant.0 e.left n.share n.again e.last e.marked c.if-not-noted.true c.take.ensures,
      something_left shares left c.args.id e.rising c.self.invariant.1 e.left,
    )

pub invariant_of-self-else-not-noted : goal.invariant_of-self-else-not-noted
invariant_of-self-else-not-noted c =
    let s = c.self.inside in
    let shares = s.by_id.entries in
    let left = c.take_last.new.by_id.entries in
    let n = c.in-Some.noted in
    let e = c.in-Some.ensures in (
      index_again s.index s.index shares left c.args.id e.rising c.self.invariant.0 e.left n.share n.again e.last e.marked c.if-not-noted.false,
      something_left shares left c.args.id e.rising c.self.invariant.1 e.left,
    )

pub invariant_of-self-in_default : goal.invariant_of-self-in_default
invariant_of-self-in_default c =
    let s = c.self.inside in
    let shares = s.by_id.entries in
    let left = c.take_last.new.by_id.entries in
    let e = c.in_default.ensures in (
      index_none s.index s.index shares left c.args.id e.rising c.self.invariant.0 e.left e.last,
      something_left shares left c.args.id e.rising c.self.invariant.1 e.left,
    )
