use Rattle.std.proofs.Common.{map, sym, ap, ◌∙◌}
use Rattle.std.proofs.lemmas.Iterator.Adapters.{YieldsList-from_vec}
use Rattle.std.proofs.lemmas.Iterator.Consumers.{YieldsList-end}
use Rattle.std.proofs.lemmas.List.{map-id}
use Rattle.fs_query.specs.Normal.{conjunction}
use Rattle.fs_query.proofs.disjuncts.disjuncts.Goals as goal

pub returns : goal.returns
returns c =
    let all = YieldsList-end (YieldsList-from_vec c.in_ok-filters-items.filters-items.items (cc) (cc c.in_ok-filters-items.filters-items.ok.0)) c.loop-filters.yielded c.loop-filters.filters-iterator c.loop-filters.yielded_by c.next.result c.next.new.self c.in-None.is c.next.ensures.steps in
    c.of.ensures
    ∙ c.loop-filters.invariant
    ∙ ap (map conjunction) (sym (map-id c.loop-filters.yielded) ∙ all.0 ∙ c.in_ok-filters-items.ensures)
