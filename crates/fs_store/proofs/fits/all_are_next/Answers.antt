use Rattle.std.proofs.Common.{subst, arith}
use Rattle.std.specs.List.{All}
use Rattle.std.proofs.lemmas.List.{take_all}
use Rattle.std.proofs.lemmas.List.Elements.{All-more}
use Rattle.fs_store.specs.Fits.{IsNext}
use Rattle.fs_store.specs.Stored.{all_installed}
use Rattle.fs_store.proofs.Fitting.{is_yes}
use Rattle.fs_store.proofs.fits.all_are_next.Goals as goal

pub loop-change-preserved : goal.loop-change-preserved
loop-change-preserved c =
    let v = all_installed c.args.versions.now.chains c.args.commits.now in
    All-more (IsNext v) c.args.changes.now c.loop-change.change-index c.change-item.result (omega arith) c.loop-change.invariant
    (subst (IsNext v) c.change-item.is (c.is_next.ensures.0 c.if-not-is_next.false))

pub returns : goal.returns
returns c =
    let v = all_installed c.args.versions.now.chains c.args.commits.now in
    is_yes (subst (All (IsNext v)) (take_all c.loop-change.change-index c.args.changes.now (omega arith)) c.loop-change.invariant)
