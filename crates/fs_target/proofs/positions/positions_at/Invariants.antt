use Rattle.std.proofs.Common.{◌≡◌, ℕ, Some, None, if◌then◌else◌, map}
use Rattle.std.specs.List.{range_with_len}
use Rattle.fs_listen.specs.Listening.{has_shard}
use Rattle.fs_target.proofs.positions.positions_at.Given as goal

-- those of the shards so far
abbrev pub invariant-loop-shard : goal.invariant-loop-shard
invariant-loop-shard l = l.positions.items ≡ map (λ (s : ℕ). if has_shard l.fn.shards l.target s then Some l.time else None) (range_with_len 0 l.shard)
