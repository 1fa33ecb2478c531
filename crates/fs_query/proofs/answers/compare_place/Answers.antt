use Rattle.std.proofs.Common.{min, length, drop, map, sym, ap, ◌∙◌}
use Rattle.std.specs.List.{drop-map}
use Rattle.std.proofs.lemmas.List.{length-map}
use Rattle.std.proofs.lemmas.Slice.Zip.{zip_end}
use Rattle.fs_value.specs.View.{view}
use Rattle.fs_query.specs.Answer.{place_cmp}
use Rattle.fs_query.proofs.CursorLaws.{place_end}
use Rattle.fs_query.proofs.answers.compare_place.Goals as goal

pub returns : goal.returns
returns c =
    let os = c.args.orders.now in
    let vs = c.args.values.now in
    let n = length c.loop-order.yielded in
    let ended = zip_end os vs c.loop-order.yielded c.into_iter-order-iterator.result c.loop-order.order-iterator c.next.new.self c.next.result (cc) (cc) c.loop-order.yielded_by c.in-None.is c.next.ensures.steps in
    sym (c.loop-order.invariant
    ∙ ap (λ ws. place_cmp (drop n os) ws c.args.d.now) (sym (drop-map view n vs))
    ∙ place_end os (map view vs) c.args.d.now n (ended ∙ ap (λ m. min (length os) m) (sym (length-map vs view))))
