use Rattle.fs_cache.proofs.Leaving.{AreLeft}
use Rattle.fs_cache.proofs.changes.all_left_by.Given as goal

abbrev pub invariant-loop-name : goal.invariant-loop-name
invariant-loop-name l = AreLeft l.gone l.places.entries l.changes.entries l.all.entries l.initial.name-iterator l.name-iterator
