use Rattle.std.proofs.Common.{◌++◌, sym, ap, ◌∙◌, subst}
use Rattle.std.specs.Prelude.{reverse}
use Rattle.fs_target.specs.Room.{AreInOrder}
use Rattle.fs_target.specs.Staged.{put_event}
use Rattle.fs_target.proofs.Aside.{order_front, put_before}
use Rattle.fs_target.proofs.InOrder.{order_put}
use Rattle.fs_target.proofs.staged.put_among.Goals as goal

pub put-requires-clause-order : goal.put-requires-clause-order
put-requires-clause-order c =
    let later = reverse c.put_back.new.aside.items in
    order_front c.put_back.new.staged.items later (subst AreInOrder (sym c.put_back.ensures.whole) c.requires.order)

pub returns-clause-items : goal.returns-clause-items
returns-clause-items c =
    let e = c.args.event in
    let later = reverse c.put_back.new.aside.items in
    ap (λ es. es ++ later) c.put.ensures.items
    ∙ sym (put_before e c.put_back.new.staged.items later c.put_back.ensures.before)
    ∙ ap (put_event e) c.put_back.ensures.whole

pub returns-clause-order : goal.returns-clause-order
returns-clause-order c =
    let e = c.args.event in
    let later = reverse c.put_back.new.aside.items in
    subst AreInOrder
    (sym
    (ap (λ es. es ++ later) c.put.ensures.items
    ∙ sym (put_before e c.put_back.new.staged.items later c.put_back.ensures.before)
    ∙ ap (put_event e) c.put_back.ensures.whole))
    (order_put e (c.args.staged.now.items ++ reverse c.args.aside.now.items) c.requires.order)
