use Rattle.std.proofs.Common.{◌≡◌, ◌++◌, map, take}
use Rattle.fs_query.proofs.disjuncts.push_products.Given as goal

-- those with the backs so far
abbrev pub invariant-loop-back : goal.invariant-loop-back
invariant-loop-back l = l.all.items ≡ l.initial.all.items ++ map (λ back. l.front ++ back) (take l.back-index l.backs)
