use Rattle.std.proofs.Common.{◌∙◌, None, sym, arith}
use Rattle.fs_target.specs.Still.{first_of, joined}
use Rattle.fs_target.proofs.InShards.{any_default, at_joined, become_at, become_more, become_none, length_joined}
use Rattle.fs_target.proofs.still.join.Goals as goal

pub loop-i-init : goal.loop-i-init
loop-i-init c = let ps = c.args.positions.now in let own = c.args.own.now in become_none ps (joined own ps) (length_joined own ps)

pub loop-i-preserved : goal.loop-i-preserved
loop-i-preserved c =
    let l = c.loop-i in
    let ps = c.args.positions.now in
    let own = c.args.own.now in
    become_more ps (joined own ps) l.positions l.i c.first_of.result (omega arith) (omega arith)
    (c.first_of.ensures
    ∙ (λ j. first_of ((c.index-positions-i.is ∙ any_default l.positions l.i c.index-positions-i.result None (omega arith) ∙ become_at ps (joined own ps) l.positions l.i (omega arith) (omega arith) l.invariant) j)
    (c.position_at_place.ensures j))
    ∙ sym (at_joined own ps l.i (omega arith)))
    l.invariant
