use Rattle.std.proofs.Common.{◌≡◌, drop}
use Rattle.fs_listen.specs.Cuts.{least, least_before}
use Rattle.fs_target.proofs.cuts.least_of.Given as goal

-- the least of all is that of those so far and of those that are left
abbrev pub invariant-loop-position : goal.invariant-loop-position
invariant-loop-position l = least l.positions ≡ least_before l.least (least (drop l.position-index l.positions))
