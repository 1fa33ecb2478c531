use Rattle.std.proofs.Common.{◌++◌, sym, ap, ◌∙◌}
use Rattle.std.specs.Prelude.{reverse}
use Rattle.fs_target.proofs.Aside.{moved}
use Rattle.fs_target.proofs.staged.move_last.Goals as goal

pub returns-in-Some-clause-there : goal.returns-in-Some-clause-there
returns-in-Some-clause-there c =
    let left = c.pop.new.self.items in
    let to = c.args.to.now.items in
    ap (λ es. left ++ reverse es) c.push_reserved.ensures.items
    ∙ moved left to c.in-Some.event
    ∙ ap (λ es. es ++ reverse to) (sym c.in-Some.ensures.items)

pub returns-in-Some-clause-back : goal.returns-in-Some-clause-back
returns-in-Some-clause-back c =
    let left = c.pop.new.self.items in
    let to = c.args.to.now.items in
    ap (λ es. es ++ reverse left) c.push_reserved.ensures.items
    ∙ sym (moved to left c.in-Some.event)
    ∙ ap (λ es. to ++ reverse es) (sym c.in-Some.ensures.items)
