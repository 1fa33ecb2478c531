use Rattle.std.proofs.Common.{refl}
use Rattle.std.proofs.lemmas.List.{nil_from_length}
use Rattle.fs_locks.proofs.Views.{canonical, no_holds}
use Rattle.fs_locks.proofs.exclusive.Exclusive.new.Goals as goal

pub returns-clause-value : goal.returns-clause-value
returns-clause-value c = no_holds c.new.result.entries (nil_from_length _ c.new.ensures.len)

pub returns-clause-canonical : goal.returns-clause-canonical
returns-clause-canonical c = canonical c.new.result.entries _ refl
