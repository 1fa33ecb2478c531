use Rattle.std.proofs.Common.{◌≡◌, ◌++◌, take}
use Rattle.fs_cache.specs.Cached.{without}
use Rattle.fs_cache.proofs.cached.without.Given as goal

abbrev pub invariant-loop-target : goal.invariant-loop-target
invariant-loop-target l = l.left ≡ without (l.gone ++ l.others) (take l.target-index l.targets)
