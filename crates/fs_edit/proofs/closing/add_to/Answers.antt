use Rattle.std.proofs.Common.{length, ap, arith}
use Rattle.std.specs.Vec.Iter.{into_iter_items}
use Rattle.fs_edit.proofs.ValueSets.{gained}
use Rattle.fs_edit.proofs.closing.add_to.Goals as goal

pub loop-value-preserved : goal.loop-value-preserved
loop-value-preserved c =
    let at = c.loop-value in
    let steps = c.in-Some.ensures.steps in
    record {
      gaining = gained _ at.set c.insert.new.self _ (into_iter_items at.value-iterator) (into_iter_items c.next.new.self) c.in-Some.value c.in_ok-_is_new.ensures.updates steps.0 at.invariant.gaining;
      left = omega (arith, ap length steps.0, steps.1, at.invariant.left);
    }
