use Rattle.std.proofs.Common.{◌≡◌, ◌≤◌, ap, ◌∙◌, arith, zero-add}
use Rattle.fs_txn.specs.Expiry.{over}
use Rattle.fs_txn.specs.Kept.{txns}
use Rattle.fs_txn.specs.Reading.{shown_to_all}
use Rattle.fs_txn.proofs.Shown.{shown_over_below}
use Rattle.fs_txn.proofs.by_id.ById.shown_over.Goals as goal

pub loop-txn-init : goal.loop-txn-init
loop-txn-init c =
    let es = c.into_iter-txn-iterator.result in
    let all : txns es ≡ c.args.self.now = ap txns c.into_iter-txn-iterator.ensures.into_iter_gives.0 ∙ c.self.view_is in
    let below : shown_to_all (over c.args.now (txns es)) ≤ shown_to_all (txns es) = shown_over_below c.args.now (txns es) in
    (zero-add _, omega (arith, ap shown_to_all all))
