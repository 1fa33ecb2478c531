use Rattle.std.proofs.Common.{◌≡◌, ℤ, drop}
use Rattle.fs_listen.specs.Told.{shown_in}
use Rattle.fs_target.specs.Looks.{AreAt, all_views}
use Rattle.fs_target.proofs.told.shown_in.Given as goal

-- none of those so far has it
abbrev pub invariant-loop-look : goal.invariant-loop-look
invariant-loop-look l = (time : ℤ) → AreAt time l.looks → shown_in l.name (all_views time (drop l.look-index l.looks)) ≡ shown_in l.name (all_views time l.looks)
