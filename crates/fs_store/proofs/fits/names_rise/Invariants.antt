use Rattle.std.proofs.Common.{◌-◌, drop}
use Rattle.std.specs.Prelude.{◌↔◌}
use Rattle.fs_versions.proofs.TreeLaws.{Rise}
use Rattle.fs_store.proofs.fits.names_rise.Given as goal

-- the changes that are left decide
abbrev pub invariant-loop-i : goal.invariant-loop-i
invariant-loop-i l = Rise l.changes ↔ Rise (drop (l.i - 1) l.changes)
