use Rattle.std.proofs.Common.{ap, ◌∙◌}
use Rattle.fs_path.specs.FieldOrder.{paths_at}
use Rattle.fs_write.specs.Neighbours.{neighbours_overlap}
use Rattle.fs_write.specs.Rules.{some_overlap}
use Rattle.fs_write.proofs.Overlaps.{sorted_overlap}
use Rattle.fs_write.proofs.overlap.some_overlap_with.Goals as goal

pub returns : goal.returns
returns c =
    c.neighbours_overlap.ensures
    ∙ ap (λ refs. neighbours_overlap (paths_at refs)) c.as_slice.ensures.value
    ∙ sorted_overlap c.in_ok-sorted.sorted.items c.sort.new.self.items c.sort.ensures.permutation c.in_ok-sort.ensures.sorted
    ∙ ap some_overlap c.in_ok-sorted.ensures
