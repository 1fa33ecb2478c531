use Rattle.std.proofs.Common.{◌∙◌, None, refl, sym, arith}
use Rattle.std.proofs.lemmas.List.{take_all, take_more_same}
use Rattle.fs_target.specs.Still.{in_all, in_own}
use Rattle.fs_target.proofs.InShards.{any_default, at_all, length_all}
use Rattle.fs_target.proofs.still.agree.Goals as goal

pub loop-i-preserved : goal.loop-i-preserved
loop-i-preserved c =
    let l = c.loop-i in
    let ps = c.args.positions.now in
    let own = c.args.own.now in
    let long = length_all own ps in
    take_more_same (in_all own ps) own l.i None (omega arith) (omega arith) l.invariant
    (at_all own ps l.i
    ∙ (λ j. in_own ((sym (any_default own l.i c.index-own-i.result None (omega arith)) ∙ sym c.index-own-i.is) j) (sym c.position_at_place.ensures j))
    ∙ sym c.in_own.ensures
    ∙ c.if-not-same.ensures refl
    ∙ c.index-own-i-in-loop-i.is
    ∙ any_default own l.i c.index-own-i-in-loop-i.result None (omega arith))

pub returns : goal.returns
returns c = λ _.
    let l = c.loop-i in
    let ps = c.args.positions.now in
    let own = c.args.own.now in
    let long = length_all own ps in
    sym (take_all l.i (in_all own ps) (omega arith)) ∙ l.invariant ∙ take_all l.i own (omega arith)
