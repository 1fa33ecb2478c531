use Rattle.std.proofs.Common.{subst}
use Rattle.std.specs.List.Sorted.{IsPermutation}
use Rattle.std.proofs.lemmas.List.Sorted.{IsPermutation-map}
use Rattle.fs_path.specs.FieldOrder.{paths_at}
use Rattle.fs_query.proofs.joining.sorted_given.Goals as goal

pub returns-clause-same : goal.returns-clause-same
returns-clause-same c =
    subst (λ ps. IsPermutation ps (paths_at c.sort.new.self.items)) c.in_ok-given.ensures
    (IsPermutation-map (λ r. r.now) c.in_ok-given.given.items c.sort.new.self.items c.sort.ensures.permutation)
