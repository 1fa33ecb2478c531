use Rattle.std.proofs.Common.{◌||◌, ◌+◌, drop, not, sym, ap, ◌∙◌}
use Rattle.std.specs.FinMap.{get}
use Rattle.fs_listen.specs.Told.{Views, same_there}
use Rattle.fs_target.proofs.Looking.{one_next, one_of}
use Rattle.fs_target.proofs.told.is_differing.Goals as goal

pub loop-look-preserved : goal.loop-look-preserved
loop-look-preserved c = λ time are.
    let p = λ (v : Views). not (same_there (get v.sent c.args.name.now) (get v.new c.args.name.now)) in
    let next = one_next time p c.args.looks.now c.loop-look.look-index c.look-item.result c.differs.result c.loop-look-test.true are c.look-item.is (c.differs.ensures time) in
    sym (next ∙ ap (λ b. b || one_of time p (drop (c.loop-look.look-index + 1) c.args.looks.now)) c.if-differs.false) ∙ c.loop-look.invariant time are

pub returns-then-differs : goal.returns-then-differs
returns-then-differs c = λ time are.
    let p = λ (v : Views). not (same_there (get v.sent c.args.name.now) (get v.new c.args.name.now)) in
    let next = one_next time p c.args.looks.now c.loop-look.look-index c.look-item.result c.differs.result c.loop-look-test.true are c.look-item.is (c.differs.ensures time) in
    sym (next ∙ ap (λ b. b || one_of time p (drop (c.loop-look.look-index + 1) c.args.looks.now)) c.if-differs.true) ∙ c.loop-look.invariant time are
