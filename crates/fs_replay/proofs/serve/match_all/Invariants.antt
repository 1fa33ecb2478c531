use Rattle.std.proofs.Common.{◌≡◌, ◌-◌}
use Rattle.fs_replay.specs.Settling.{matches_all, matches_from}
use Rattle.fs_replay.proofs.serve.match_all.Given as goal

-- the shards so far, and those that are left
abbrev pub invariant-loop-shard : goal.invariant-loop-shard
invariant-loop-shard l = record {
  goes : (matches_from (l.fn.state.server.config.shards - l.shard) l.shard l.state).state ≡ (matches_all l.fn.state).state;
  shards : l.state.server.config.shards ≡ l.fn.state.server.config.shards;
}
