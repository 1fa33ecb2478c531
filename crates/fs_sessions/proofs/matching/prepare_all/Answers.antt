use Rattle.std.proofs.Common.{◌∙◌, arith}
use Rattle.std.proofs.Math.Seq.{map-set_same}
use Rattle.fs_sessions.specs.Heard.{heard_of}
use Rattle.fs_sessions.specs.Matching.{IsEarReady}
use Rattle.fs_sessions.proofs.InPlace.{all_more}
use Rattle.fs_sessions.proofs.matching.prepare_all.Goals as goal

pub returns-in_err-prepare-clause-same : goal.returns-in_err-prepare-clause-same
returns-in_err-prepare-clause-same c =
    let l = c.loop-i in
    map-set_same heard_of l.ears l.i c.prepare.new.ear c.index-ears-i.result c.in_err-prepare.ensures.same ∙ l.invariant.same

pub loop-i-preserved : goal.loop-i-preserved
loop-i-preserved c =
    let l = c.loop-i in
    record {
      same = map-set_same heard_of l.ears l.i c.prepare.new.ear c.index-ears-i.result c.in_ok-prepare.ensures.same ∙ l.invariant.same;
      ready = all_more (IsEarReady c.args.shard c.args.events.now) l.ears l.i c.prepare.new.ear (omega arith) l.invariant.ready c.in_ok-prepare.ensures.ok;
    }
