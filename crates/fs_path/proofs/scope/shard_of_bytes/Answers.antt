use Rattle.std.proofs.Common.{◌+◌, ◌%◌, sum, take, arith, sym, ap, ◌∙◌}
use Rattle.std.proofs.Math.Nat.{mod-add-mod}
use Rattle.std.proofs.lemmas.List.Sums.{sum_by_more}
use Rattle.fs_path.proofs.scope.shard_of_bytes.Goals as goal

pub loop-b-preserved : goal.loop-b-preserved
loop-b-preserved c =
    let bytes = c.args.id.now in
    let i = c.loop-b.b-index in
    let m = c.args.shards in
    let more = sum_by_more (λ x. x) bytes i 0 (omega arith) in
    record {
      value = ap (λ n. (n + c.from.result) % m) c.loop-b.invariant.value
          ∙ (mod-add-mod (sum (take i bytes)) m c.from.result
          ∙ ap (λ n. n % m) (ap (λ b. sum (take i bytes) + b) c.from.ensures ∙ sym more));
      within = omega arith;
    }
