use Rattle.std.proofs.Common.{◌≡◌, subst, arith}
use Rattle.fs_txn.specs.Kept.{without_lasts}
use Rattle.fs_txn.proofs.Several.{lasts_more}
use Rattle.fs_txn.proofs.reading.take_back_all.Goals as goal

pub loop-done-preserved : goal.loop-done-preserved
loop-done-preserved c = lasts_more c.loop-done._done c.args.holds.now.shared c.loop-done.holds.shared c.take_back.new.self.shared c.args.id c.loop-done.invariant c.take_back.ensures.shared

pub returns : goal.returns
returns c =
    let all : c.loop-done._done ≡ c.args.count = omega arith in
    subst (λ n. c.loop-done.holds.shared ≡ without_lasts n c.args.holds.now.shared c.args.id) all c.loop-done.invariant
