use Rattle.std.proofs.Common.{arith}
use Rattle.fs_target.specs.Entries.{taken}
use Rattle.fs_target.specs.Seen.{seen}
use Rattle.fs_target.proofs.InPlace.{changed_all, changed_more, changed_none}
use Rattle.fs_target.proofs.feed.take_all.Goals as goal

pub loop-i-init : goal.loop-i-init
loop-i-init c = changed_none seen (taken c.args.shard c.args.to) c.args.entries.now

pub loop-i-preserved : goal.loop-i-preserved
loop-i-preserved c =
    let l = c.loop-i in
    changed_more seen (taken c.args.shard c.args.to) c.args.entries.now l.entries l.i c.take.new.entry c.index-entries-i.result (omega arith) (omega arith) l.invariant c.take.ensures

pub returns : goal.returns
returns c = let l = c.loop-i in changed_all seen (taken c.args.shard c.args.to) c.args.entries.now l.entries l.i (omega arith) (omega arith) l.invariant
