use Rattle.std.proofs.Common.{◌≡◌}
use Rattle.fs_cache.specs.Places.{standing_in}
use Rattle.fs_cache.proofs.changes.give_back_all.Given as goal

abbrev pub invariant-loop-name : goal.invariant-loop-name
invariant-loop-name l = standing_in l.places.entries ≡ standing_in l.initial.places.entries
