use Rattle.std.proofs.Common.{◌≡◌, ◌++◌, ap, ◌∙◌, subst, map, IfOk}
use Rattle.fs_query.proofs.ProductLists.{products_alone}
use Rattle.fs_query.proofs.disjuncts.with_backs.Goals as goal

pub returns-in-len1 : goal.returns-in-len1
returns-in-len1 c =
    let fronts = c.args.fronts.items in
    let alone = ap (λ back. map (λ front. front ++ back) fronts) c.back-item.is
    ∙ products_alone fronts c.args.backs.now c.back-item.result c.in-len1.len_at_least c.in-len1.len_below in
    subst (λ all. IfOk c.with_back.result (λ v. v.items ≡ all)) alone c.with_back.ensures
