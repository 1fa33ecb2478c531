use Rattle.std.proofs.Common.{◌≡◌, ◌%◌, ◌<◌, sum, take}
use Rattle.fs_path.proofs.scope.shard_of_bytes.Given as goal

-- the shard of the bytes so far
abbrev pub invariant-loop-b : goal.invariant-loop-b
invariant-loop-b l = record { value : l.shard ≡ sum (take l.b-index l.id) % l.shards; within : l.shard < l.shards }
