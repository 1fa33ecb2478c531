use Rattle.std.proofs.Common.{◌++◌, length, sym, ap, ◌∙◌, arith}
use Rattle.std.specs.Prelude.{reverse}
use Rattle.std.specs.Vec.Iter.{into_iter_items}
use Rattle.fs_target.specs.Staged.{put_events}
use Rattle.fs_target.proofs.staged.put_each.Goals as goal

pub put_among-requires-clause-room : goal.put_among-requires-clause-room
put_among-requires-clause-room c = omega (arith, ap length c.in-Some.ensures.steps.0, c.loop-event.invariant.room)

pub put_among-requires-clause-order : goal.put_among-requires-clause-order
put_among-requires-clause-order c = c.loop-event.invariant.order

pub loop-event-preserved : goal.loop-event-preserved
loop-event-preserved c =
    let l = c.loop-event in
    let steps = c.in-Some.ensures.steps in
    record {
      put = ap (put_events (into_iter_items c.next.new.self)) c.put_among.ensures.items ∙ ap (λ es. put_events es (l.staged.items ++ reverse l.aside.items)) (sym steps.0) ∙ l.invariant.put;
      room = omega (arith, ap length steps.0, l.invariant.room, c.put_among.ensures.len, c.put_among.ensures.capacity);
      order = c.put_among.ensures.order;
      count = omega (arith, ap length steps.0, steps.1, l.invariant.count);
    }
