use Rattle.fs_client.proofs.Small.{small_none}
use Rattle.fs_client.proofs.targets.Targets.new.Goals as goal

pub invariant_of-result : goal.invariant_of-result
invariant_of-result c = small_none c.new.result.entries c.new.ensures.empty
