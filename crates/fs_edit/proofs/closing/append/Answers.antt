use Rattle.std.proofs.Common.{length, map, ap, sym, subst, refl, rules, ◌∙◌, arith}
use Rattle.std.specs.Vec.Iter.{into_iter_items}
use Rattle.fs_value.specs.View.{view}
use Rattle.fs_edit.specs.Closing.{HasMissing}
use Rattle.fs_edit.proofs.ValueSets.{appended_one}
use Rattle.fs_edit.proofs.closing.append.Goals as goal

pub loop-value-init : goal.loop-value-init
loop-value-init c =
    let all = c.into_iter-value-iterator.ensures.into_iter_gives.0 in
    let values = ap (map view) all ∙ c.into_vec-value-items.ensures in
    record {
      appending = record {
        missing = subst (λ ds. HasMissing c.in_ok-missing.missing c.args.there ds) (sym values) c.in_ok-missing.ensures;
        appended = refl;
        given = λ d h. h;
      };
      left = search rules;
    }

pub loop-value-preserved : goal.loop-value-preserved
loop-value-preserved c =
    let at = c.loop-value in
    let steps = c.in-Some.ensures.steps in
    record {
      appending = appended_one _ _ at.missing at.elements (into_iter_items at.value-iterator) (into_iter_items c.next.new.self) c.in-Some.value steps.0 at.invariant.appending c.append_one.new.missing c.append_one.new.elements c.in_ok-append_one.ensures;
      left = omega (arith, ap length steps.0, steps.1, at.invariant.left);
    }
