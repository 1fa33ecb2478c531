use Rattle.std.proofs.Common.{◌≡◌, ◌+◌, ◌-◌, arith, suc, sym, ap, ◌∙◌}
use Rattle.fs_machine.specs.State.{Machine}
use Rattle.fs_replay.specs.Settling.{matches_from}
use Rattle.fs_replay.proofs.Kept.{with_server}
use Rattle.fs_replay.proofs.serve.match_all.Goals as goal

pub loop-shard-preserved : goal.loop-shard-preserved
loop-shard-preserved c =
    let s = c.loop-shard.state in
    let n = c.args.state.now.server.config.shards in
    let shard = c.loop-shard.shard in
    let one_less : n - shard ≡ suc (n - (shard + 1)) = omega (arith, c.loop-shard-test.true, c.shards-shard-end.ensures) in
    record {
      goes =
          ap (λ (m : Machine). (matches_from (n - (shard + 1)) (shard + 1) (with_server s m)).state) c.in_ok-match_shard.ensures
          ∙ sym (ap (λ k. (matches_from k shard s).state) one_less) ∙ c.loop-shard.invariant.goes;
      shards = ap (λ (m : Machine). m.config.shards) c.in_ok-match_shard.ensures ∙ c.loop-shard.invariant.shards;
    }
