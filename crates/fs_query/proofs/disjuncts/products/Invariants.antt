use Rattle.std.proofs.Common.{◌≡◌, take}
use Rattle.fs_query.specs.Normal.{products}
use Rattle.fs_query.proofs.disjuncts.products.Given as goal

-- those of the fronts so far
abbrev pub invariant-loop-front : goal.invariant-loop-front
invariant-loop-front l = l.all.items ≡ products (take l.front-index l.fronts) l.backs
