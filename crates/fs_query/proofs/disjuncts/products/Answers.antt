use Rattle.std.proofs.Common.{◌++◌, map, sym, ◌∙◌}
use Rattle.fs_query.proofs.ProductLists.{products_more}
use Rattle.fs_query.proofs.disjuncts.products.Goals as goal

pub loop-front-preserved : goal.loop-front-preserved
loop-front-preserved c =
    c.in_ok-push_products.ensures
    ∙ (λ j. (c.loop-front.invariant j) ++ map (λ back. c.front-item.is j ++ back) c.args.backs.now)
    ∙ sym (products_more c.args.fronts.now c.args.backs.now c.loop-front.front-index c.front-item.result c.loop-front-test.true)
