use Rattle.std.proofs.Common.{sym, ◌∙◌, arith}
use Rattle.std.proofs.lemmas.Simd.{map-map}
use Rattle.fs_sessions.specs.Heard.{heard_fed, heard_of}
use Rattle.fs_sessions.specs.Matching.{IsEarReady}
use Rattle.fs_sessions.specs.declared.listeners.Ear.{Ear}
use Rattle.fs_sessions.proofs.InPlace.{changed_all, changed_more}
use Rattle.fs_sessions.proofs.matching.take_all_in.Goals as goal

pub loop-i-preserved : goal.loop-i-preserved
loop-i-preserved c = λ es ready.
    let l = c.loop-i in
    changed_more heard_of (λ (e : Ear). heard_fed c.args.shard es c.args.to (heard_of e)) (IsEarReady c.args.shard es) c.args.ears.now l.ears l.i c.take_in.new.ear c.index-ears-i.result
    (omega arith) (omega arith) ready (l.invariant es ready) (c.take_in.ensures es)

pub returns : goal.returns
returns c = λ es ready.
    let l = c.loop-i in
    changed_all heard_of (λ (e : Ear). heard_fed c.args.shard es c.args.to (heard_of e)) c.args.ears.now l.ears l.i (omega arith) (omega arith) (l.invariant es ready)
    ∙ sym (map-map (heard_fed c.args.shard es c.args.to) heard_of c.args.ears.now)
