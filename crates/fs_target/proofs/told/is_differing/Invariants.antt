use Rattle.std.proofs.Common.{◌≡◌, ℤ, drop}
use Rattle.fs_listen.specs.Told.{is_differing}
use Rattle.fs_target.specs.Looks.{AreAt, all_views}
use Rattle.fs_target.proofs.told.is_differing.Given as goal

-- none of those so far differs
abbrev pub invariant-loop-look : goal.invariant-loop-look
invariant-loop-look l = (time : ℤ) → AreAt time l.looks → is_differing l.name (all_views time (drop l.look-index l.looks)) ≡ is_differing l.name (all_views time l.looks)
