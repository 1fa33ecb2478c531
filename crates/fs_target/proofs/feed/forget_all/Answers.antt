use Rattle.std.proofs.Common.{[], ◌∙◌, arith}
use Rattle.std.proofs.Math.Seq.{map-set_same}
use Rattle.fs_target.specs.Prepared.{IsPrepared}
use Rattle.fs_target.specs.Seen.{seen}
use Rattle.fs_target.proofs.InPlace.{all_done, all_more}
use Rattle.fs_target.proofs.feed.forget_all.Goals as goal

pub loop-i-preserved : goal.loop-i-preserved
loop-i-preserved c =
    let l = c.loop-i in
    record {
      same = map-set_same seen l.entries l.i c.forget.new.entry c.index-entries-i.result c.forget.ensures.same ∙ l.invariant.same;
      none = λ shard. all_more (IsPrepared shard []) l.entries l.i c.forget.new.entry (omega arith) (l.invariant.none shard) (c.forget.ensures.none shard);
    }

pub returns-clause-none : goal.returns-clause-none
returns-clause-none c = λ shard. let l = c.loop-i in all_done (IsPrepared shard []) l.entries l.i (omega arith) (l.invariant.none shard)
