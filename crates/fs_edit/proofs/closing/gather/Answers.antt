use Rattle.std.proofs.Common.{sym, subst, rules}
use Rattle.fs_edit.specs.Closing.{stacked}
use Rattle.fs_edit.proofs.Together.{Gathered, none_gathered, one_gathered}
use Rattle.fs_edit.proofs.closing.gather.Goals as goal

pub loop-change-init : goal.loop-change-init
loop-change-init c =
    let all = c.args.changes.items in
    subst (λ vs. Gathered all all c.new-gone.result (stacked vs)) (sym c.new-stack.ensures.items) (none_gathered all c.new-gone.result (λ v. search rules))

pub loop-change-preserved : goal.loop-change-preserved
loop-change-preserved c =
    let at = c.loop-change in
    one_gathered c.args.changes.items at.changes.items c.pop.new.self.items c.in-Some.change at.gone c.take_in.new.gone (stacked at.stack.items) (stacked c.take_in.new.stack.items) c.in-Some.ensures.items c.in_ok-take_in.ensures at.invariant
