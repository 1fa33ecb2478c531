use Rattle.std.proofs.Common.{◌≡◌, drop}
use Rattle.fs_query.specs.Rules.{some_twice}
use Rattle.fs_query.proofs.rules.some_twice.Given as goal

-- none of the orders so far is given again, so the rest decides
abbrev pub invariant-loop-i : goal.invariant-loop-i
invariant-loop-i l = some_twice l.orders ≡ some_twice (drop l.i l.orders)
