use Rattle.std.proofs.Common.{ap, ◌∙◌}
use Rattle.fs_path.specs.FieldOrder.{paths_at}
use Rattle.fs_query.specs.SortedPaths.{neighbours_same}
use Rattle.fs_query.proofs.PathsInOrder.{twice_sorted}
use Rattle.fs_query.proofs.joining.some_twice_with.Goals as goal

pub returns : goal.returns
returns c =
    c.neighbours_same.ensures
    ∙ ap (λ refs. neighbours_same (paths_at refs)) c.as_slice.ensures.value
    ∙ twice_sorted c.args.orders.now c.in_ok-given.given.items c.in_ok-given.ensures.same c.in_ok-given.ensures.rise
