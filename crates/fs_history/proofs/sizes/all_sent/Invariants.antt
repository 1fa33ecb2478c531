use Rattle.std.proofs.Common.{◌≡◌, ◌-◌, ◌^◌, min, sum_by, take}
use Rattle.fs_history.specs.Bytes.{sent_size}
use Rattle.fs_history.proofs.sizes.all_sent.Given as goal

-- those so far are counted
abbrev pub invariant-loop-write : goal.invariant-loop-write
invariant-loop-write l = l.size ≡ min (sum_by sent_size (take l.write-index l.write-items)) (2 ^ 128 - 1)
