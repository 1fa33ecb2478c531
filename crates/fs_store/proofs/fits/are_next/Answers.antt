use Rattle.std.proofs.Common.{arith}
use Rattle.fs_store.proofs.Fitting.{next_more, names_more}
use Rattle.fs_store.proofs.fits.are_next.Goals as goal

pub loop-i-preserved : goal.loop-i-preserved
loop-i-preserved c =
    let commits = c.args.commits.now in
    let next = c.is_next_commit.ensures.0 c.if-not-is_next_commit.false in (
      next_more commits c.loop-i.i c.index-commits-i.result (omega arith) c.index-commits-i.is c.args.versions.now.chains next c.loop-i.invariant.0,
      names_more commits c.loop-i.i c.index-commits-i.result (omega arith) c.index-commits-i.is c.loop-i.invariant.1 next.rise,
    )
