use Rattle.std.proofs.Common.{◌≡◌, ◌++◌}
use Rattle.std.specs.List.{flat_map}
use Rattle.fs_target.specs.Looks.{all_views, told_at}
use Rattle.fs_target.proofs.told.told.Given as goal

-- what was told, with what the names that are left tell
abbrev pub invariant-loop-name : goal.invariant-loop-name
invariant-loop-name l =
    l.messages.items ++ flat_map (told_at l.time (all_views l.time l.looks)) l.name-iterator ≡ flat_map (told_at l.time (all_views l.time l.looks)) l.initial.name-iterator
