use Rattle.std.proofs.Common.{take}
use Rattle.std.specs.List.{All}
use Rattle.fs_store.specs.Fits.{IsNext}
use Rattle.fs_store.specs.Stored.{all_installed}
use Rattle.fs_store.proofs.fits.all_are_next.Given as goal

-- those so far are
abbrev pub invariant-loop-change : goal.invariant-loop-change
invariant-loop-change l = All (IsNext (all_installed l.versions.chains l.commits)) (take l.change-index l.changes)
