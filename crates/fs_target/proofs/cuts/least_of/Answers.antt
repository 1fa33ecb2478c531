use Rattle.std.proofs.Common.{refl}
use Rattle.fs_listen.specs.Cuts.{least, least_before}
use Rattle.fs_target.proofs.Joined.{joined_all, joined_more, least_alone, least_thrice}
use Rattle.fs_target.proofs.cuts.least_of.Goals as goal

pub loop-position-preserved : goal.loop-position-preserved
loop-position-preserved c =
    let l = c.loop-position in
    joined_more least_before least_thrice least_alone least (λ t. t) (λ t ts. refl) refl (least c.args.positions.now) l.least c.lesser-least.result c.args.positions.now l.position-index
    c.position-item.result c.loop-position-test.true l.invariant c.position-item.is c.lesser-least.ensures

pub returns : goal.returns
returns c =
    let l = c.loop-position in
    joined_all least_before least_thrice least_alone least (λ t. t) (λ t ts. refl) refl (least c.args.positions.now) l.least c.args.positions.now l.position-index
    c.loop-position-test.false l.invariant
