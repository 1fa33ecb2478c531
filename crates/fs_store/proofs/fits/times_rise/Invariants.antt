use Rattle.std.proofs.Common.{drop}
use Rattle.std.specs.Prelude.{◌↔◌}
use Rattle.fs_store.specs.Fits.{TimesRise}
use Rattle.fs_store.proofs.fits.times_rise.Given as goal

-- the commits that are left decide
abbrev pub invariant-loop-commit : goal.invariant-loop-commit
invariant-loop-commit l = TimesRise l.fn.from l.to l.commits ↔ TimesRise l.last l.to (drop l.commit-index l.commits)
