use Rattle.std.proofs.Common.{◌∙◌, arith}
use Rattle.std.proofs.Math.Seq.{map-set_same}
use Rattle.fs_target.specs.Prepared.{IsNext}
use Rattle.fs_target.specs.Seen.{seen}
use Rattle.fs_target.proofs.InPlace.{all_done, all_more}
use Rattle.fs_target.proofs.raise.make_all_next.Goals as goal

pub returns-in_err-make_next-clause-same : goal.returns-in_err-make_next-clause-same
returns-in_err-make_next-clause-same c =
    let l = c.loop-i in
    map-set_same seen l.entries l.i c.make_next.new.entry c.index-entries-i.result c.in_err-make_next.ensures.same ∙ l.invariant.same

pub loop-i-preserved : goal.loop-i-preserved
loop-i-preserved c =
    let l = c.loop-i in
    record {
      same = map-set_same seen l.entries l.i c.make_next.new.entry c.index-entries-i.result c.in_ok-make_next.ensures.same ∙ l.invariant.same;
      ready = all_more (IsNext c.args.time) l.entries l.i c.make_next.new.entry (omega arith) l.invariant.ready c.in_ok-make_next.ensures.ok;
    }

pub returns-clause-ok : goal.returns-clause-ok
returns-clause-ok c = let l = c.loop-i in all_done (IsNext c.args.time) l.entries l.i (omega arith) l.invariant.ready
