use Rattle.std.proofs.Common.{◌≡◌, take, sym, ap, ◌∙◌, subst}
use Rattle.std.specs.Prelude.{Some}
use Rattle.std.specs.List.{take-map}
use Rattle.fs_query.specs.DocumentOrder.{orders_cmp}
use Rattle.fs_query.specs.Found.{KeepsFirst, documents_of}
use Rattle.fs_query.proofs.Foremost.{keeps_cut}
use Rattle.fs_query.proofs.OrderLaws.{orders_total}
use Rattle.fs_query.proofs.found.keep_first.Goals as goal

pub returns-clause-kept : goal.returns-clause-kept
returns-clause-kept c =
    let os = c.args.orders.now in
    let sorted = c.sort_found.new.found.items in
    let cut : documents_of c.truncate.new.self.items ≡ take c.args.most (documents_of sorted) =
    ap documents_of c.truncate.ensures.items ∙ sym (take-map (λ f. f.document.now) c.args.most sorted) in
    subst (KeepsFirst (orders_cmp os) (Some c.args.most) (documents_of c.args.found.now.items)) (sym cut)
    (keeps_cut (orders_cmp os) (orders_total os) c.args.most (documents_of c.args.found.now.items) (documents_of sorted) c.sort_found.ensures.same c.in_ok-sort_found.ensures.rise)
