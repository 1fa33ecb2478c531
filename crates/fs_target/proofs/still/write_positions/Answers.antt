use Rattle.std.proofs.Common.{◌∙◌, None, sym, arith}
use Rattle.fs_target.specs.Still.{in_all, in_own}
use Rattle.fs_target.proofs.InShards.{any_default, at_all, become_at, become_more, become_none, length_all}
use Rattle.fs_target.proofs.still.write_positions.Goals as goal

pub loop-i-init : goal.loop-i-init
loop-i-init c = let ps = c.args.positions.now in let own = c.args.own.now in become_none own (in_all own ps) (length_all own ps)

pub loop-i-preserved : goal.loop-i-preserved
loop-i-preserved c =
    let l = c.loop-i in
    let ps = c.args.positions.now in
    let own = c.args.own.now in
    become_more own (in_all own ps) l.own l.i c.in_own.result (omega arith) (omega arith)
    (c.in_own.ensures
    ∙ (λ j. in_own ((c.index-own-i.is ∙ any_default l.own l.i c.index-own-i.result None (omega arith) ∙ become_at own (in_all own ps) l.own l.i (omega arith) (omega arith) l.invariant) j)
    (c.position_at_place.ensures j))
    ∙ sym (at_all own ps l.i))
    l.invariant
