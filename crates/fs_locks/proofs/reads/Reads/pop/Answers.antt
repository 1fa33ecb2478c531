use Rattle.fs_locks.proofs.Lasts.{marked_popped}
use Rattle.fs_locks.proofs.reads.Reads.pop.Goals as goal

pub invariant_of-self : goal.invariant_of-self
invariant_of-self c = (marked_popped c.self.inside.notes.items c.pop.new.self.items c.pop.result c.pop.ensures.items c.self.invariant).0

pub returns-clause-marked : goal.returns-clause-marked
returns-clause-marked c = (marked_popped c.self.inside.notes.items c.pop.new.self.items c.pop.result c.pop.ensures.items c.self.invariant).1
