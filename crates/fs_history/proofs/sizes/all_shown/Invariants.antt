use Rattle.std.proofs.Common.{◌≡◌, ◌-◌, ◌^◌, min, sum_by, take}
use Rattle.fs_history.specs.Bytes.{shown_size}
use Rattle.fs_history.proofs.sizes.all_shown.Given as goal

-- those so far are counted
abbrev pub invariant-loop-read : goal.invariant-loop-read
invariant-loop-read l = l.size ≡ min (sum_by shown_size (take l.read-index l.read-items)) (2 ^ 128 - 1)
