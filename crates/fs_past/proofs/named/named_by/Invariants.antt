use Rattle.std.proofs.Common.{List, take}
use Rattle.fs_history.specs.History.{at}
use Rattle.fs_history.specs.declared.batch.Batch.{Batch}
use Rattle.fs_store.specs.Shows.{Shows}
use Rattle.fs_past.proofs.Naming.{Shows as HasNamed}
use Rattle.fs_past.proofs.named.named_by.Given as goal

-- the documents of the names that are written so far
abbrev pub invariant-loop-write : goal.invariant-loop-write
invariant-loop-write l = (h : List Batch) → Shows h l.store.stored → HasNamed (at h l.newest) (take l.write-index l.writes) l.there
