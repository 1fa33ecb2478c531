use Rattle.std.proofs.Common.{◌≡◌, ℤ, ◌++◌, drop}
use Rattle.fs_listen.specs.Told.{leaving}
use Rattle.fs_target.specs.Looks.{AreAt, all_views}
use Rattle.fs_target.proofs.told.leaving.Given as goal

abbrev pub invariant-loop-look : goal.invariant-loop-look
invariant-loop-look l = (time : ℤ) → AreAt time l.looks → l.ids.items ++ leaving l.name (all_views time (drop l.look-index l.looks)) ≡ leaving l.name (all_views time l.looks)
