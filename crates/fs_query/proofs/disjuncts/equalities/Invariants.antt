use Rattle.std.proofs.Common.{◌≡◌, ◌∷◌, [], map, take}
use Rattle.fs_value.specs.View.{view}
use Rattle.fs_query.specs.Condition.{compared}
use Rattle.fs_query.proofs.disjuncts.equalities.Given as goal

-- one for each of the values so far
abbrev pub invariant-loop-value : goal.invariant-loop-value
invariant-loop-value l = l.all.items ≡ map (λ c. c ∷ []) (map (compared l.path l.op) (map view (take l.value-index l.values)))
