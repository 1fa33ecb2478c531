use Rattle.std.proofs.Common.{length, sym, ◌∙◌}
use Rattle.std.proofs.lemmas.Slice.Zip.{zip_end}
use Rattle.fs_query.proofs.CursorPlaces.{all_done}
use Rattle.fs_query.proofs.cursor_rule.given_misses_name.Goals as goal

pub returns : goal.returns
returns c =
    let n = zip_end c.args.given.now c.args.values.now c.loop-order.yielded c.into_iter-order-iterator.result c.loop-order.order-iterator c.next.new.self c.next.result (cc) (cc) c.loop-order.yielded_by c.in-None.is c.next.ensures.steps in
    all_done c.args.given.now c.args.values.now (length c.loop-order.yielded) n ∙ sym c.loop-order.invariant
