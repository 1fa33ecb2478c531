use Rattle.std.proofs.Common.{◌≡◌, ◌++◌, map}
use Rattle.fs_query.proofs.disjuncts.with_back.Given as goal

-- those of the fronts so far
abbrev pub invariant-loop-front : goal.invariant-loop-front
invariant-loop-front l = l.all.items ≡ map (λ front. front ++ l.back) l.yielded
