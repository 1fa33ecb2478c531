use Rattle.std.proofs.Common.{◌≡◌, ◌++◌, map}
use Rattle.fs_cache.proofs.Showing.{shown}
use Rattle.fs_cache.proofs.cache.Cache.lent.Given as goal

-- the documents so far, and then those that are left
abbrev pub invariant-loop-place : goal.invariant-loop-place
invariant-loop-place l = map (λ d. d.now) l.lent.items ++ shown l.place-iterator ≡ shown l.initial.place-iterator
