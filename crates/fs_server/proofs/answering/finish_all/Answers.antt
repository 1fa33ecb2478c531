use Rattle.std.proofs.Common.{rules, length, sym, ap, ◌∙◌, subst, arith}
use Rattle.std.specs.Vec.Iter.{into_iter_items}
use Rattle.fs_server.specs.Answering.{CanFinishAll, all_finished}
use Rattle.fs_server.proofs.answering.finish_all.Goals as goal

pub finish-requires-clause-busy : goal.finish-requires-clause-busy
finish-requires-clause-busy c = let may = subst (CanFinishAll c.loop-response.streams) c.in-Some.ensures.steps.0 c.loop-response.invariant.may in may.0.0

pub finish-requires-clause-counted : goal.finish-requires-clause-counted
finish-requires-clause-counted c = let may = subst (CanFinishAll c.loop-response.streams) c.in-Some.ensures.steps.0 c.loop-response.invariant.may in may.0.1

pub loop-response-init : goal.loop-response-init
loop-response-init c = record {
  kept = search rules;
  may = subst (CanFinishAll c.args.streams.now) (sym c.into_iter-response-iterator.ensures.into_iter_gives.0) c.requires;
  count = search rules;
}

pub loop-response-preserved : goal.loop-response-preserved
loop-response-preserved c =
    let l = c.loop-response in
    let steps = c.in-Some.ensures.steps in
    let may = subst (CanFinishAll l.streams) steps.0 l.invariant.may in
    record {
      kept = ap (all_finished (into_iter_items c.next.new.self)) c.finish.ensures ∙ ap (λ rs. all_finished rs l.streams) (sym steps.0) ∙ l.invariant.kept;
      may = subst (λ s. CanFinishAll s (into_iter_items c.next.new.self)) (sym c.finish.ensures) may.1;
      count = omega (arith, ap length steps.0, steps.1, l.invariant.count);
    }
