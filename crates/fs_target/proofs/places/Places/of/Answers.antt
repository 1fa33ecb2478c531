use Rattle.std.proofs.Common.{◌≡◌, rules, [], length, sym, ap, ◌∙◌, arith}
use Rattle.std.specs.FinMap.{empty}
use Rattle.std.specs.Vec.Iter.{into_iter_items}
use Rattle.std.proofs.lemmas.List.{nil_from_length}
use Rattle.fs_target.specs.Places.{all_put, docs_in}
use Rattle.fs_target.proofs.places.Places.of.Goals as goal

pub loop-document-init : goal.loop-document-init
loop-document-init c = record {
  put = ap (all_put (into_iter_items c.into_iter-document-iterator.result)) c.new-places.ensures;
  count = search rules;
}

pub loop-document-preserved : goal.loop-document-preserved
loop-document-preserved c =
    let l = c.loop-document in
    let steps = c.in-Some.ensures.steps in
    record {
      put = ap (all_put (into_iter_items c.next.new.self)) c.in_ok-insert.ensures ∙ ap (λ ds. all_put ds (docs_in l.places)) (sym steps.0) ∙ l.invariant.put;
      count = omega (arith, ap length steps.0, steps.1, l.invariant.count);
    }

pub returns : goal.returns
returns c =
    let l = c.loop-document in
    let none : into_iter_items l.document-iterator ≡ [] = nil_from_length _ (sym l.invariant.count ∙ c.in-None.ensures.steps.0) in
    ap (λ ds. all_put ds (docs_in l.places)) (sym none)
    ∙ l.invariant.put
    ∙ ap (λ ds. all_put ds empty) (c.into_iter-document-iterator.ensures.into_iter_gives.0 ∙ c.into_vec-document-items.ensures)
