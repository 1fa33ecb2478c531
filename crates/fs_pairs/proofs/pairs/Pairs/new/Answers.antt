use Rattle.fs_pairs.proofs.Pairing.{no_keys}
use Rattle.fs_pairs.proofs.pairs.Pairs.new.Goals as goal

pub invariant_of-result : goal.invariant_of-result
invariant_of-result c = no_keys c.new.result.entries c.new-2.result.entries c.new.ensures.empty c.new-2.ensures.empty
