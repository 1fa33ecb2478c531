use Rattle.std.proofs.Common.{drop, take}
use Rattle.std.specs.Prelude.{◌↔◌}
use Rattle.fs_store.specs.Fits.{AreNext}
use Rattle.fs_store.specs.Held.{NamesRise}
use Rattle.fs_store.specs.Stored.{all_installed}
use Rattle.fs_store.proofs.fits.are_next.Given as goal

-- the commits that are left decide
abbrev pub invariant-loop-i : goal.invariant-loop-i
invariant-loop-i l = (AreNext l.versions.chains l.commits ↔ AreNext (all_installed l.versions.chains (take l.i l.commits)) (drop l.i l.commits)) × NamesRise (take l.i l.commits)
