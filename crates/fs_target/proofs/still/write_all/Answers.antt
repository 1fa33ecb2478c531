use Rattle.std.proofs.Common.{arith}
use Rattle.fs_target.specs.Seen.{seen}
use Rattle.fs_target.specs.Still.{seen_at}
use Rattle.fs_target.proofs.InPlace.{changed_all, changed_more, changed_none}
use Rattle.fs_target.proofs.still.write_all.Goals as goal

pub loop-i-init : goal.loop-i-init
loop-i-init c = changed_none seen (λ e. seen_at c.args.positions.now (seen e)) c.args.entries.now

pub loop-i-preserved : goal.loop-i-preserved
loop-i-preserved c =
    let l = c.loop-i in
    changed_more seen (λ e. seen_at c.args.positions.now (seen e)) c.args.entries.now l.entries l.i c.write_to.new.entry c.index-entries-i.result (omega arith) (omega arith) l.invariant
    c.write_to.ensures

pub returns : goal.returns
returns c = let l = c.loop-i in changed_all seen (λ e. seen_at c.args.positions.now (seen e)) c.args.entries.now l.entries l.i (omega arith) (omega arith) l.invariant
