use Rattle.std.proofs.Common.{◌≡◌, sym, ◌∙◌, subst}
use Rattle.std.specs.Prelude.{insert}
use Rattle.fs_target.specs.Room.{AreInOrder}
use Rattle.fs_target.specs.Staged.{put_event}
use Rattle.fs_target.proofs.InOrder.{order_put}
use Rattle.fs_target.proofs.staged.put.Goals as goal

pub returns-clause-order : goal.returns-clause-order
returns-clause-order c =
    let e = c.args.event in
    let place = c.place_of-place.result in
    subst AreInOrder (sym (c.insert_at.ensures.items ∙ subst (λ xs. insert xs place e ≡ put_event e xs) c.as_slice.ensures.value c.place_of-place.ensures.place))
    (order_put e c.args.staged.now.items c.requires.order)
