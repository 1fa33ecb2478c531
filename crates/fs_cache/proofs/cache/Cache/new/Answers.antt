use Rattle.std.proofs.Common.{[], sym, subst}
use Rattle.fs_cache.specs.Places.{IsKept}
use Rattle.fs_cache.proofs.Naming.{kept_none}
use Rattle.fs_cache.proofs.cache.Cache.new.Goals as goal

pub invariant_of-result : goal.invariant_of-result
invariant_of-result c = subst (λ es. IsKept es c.new-2.result.entries) (sym c.new.ensures.empty) (subst (IsKept []) (sym c.new-2.ensures.empty) kept_none)
