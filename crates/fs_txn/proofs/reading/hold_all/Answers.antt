use Rattle.std.proofs.Common.{◌≡◌, List, length, refl, ap, ◌∙◌, subst, arith}
use Rattle.std.proofs.lemmas.List.{take_all}
use Rattle.fs_history.specs.declared.read.Read.{Read}
use Rattle.fs_locks.specs.Shares.{Shares}
use Rattle.fs_txn.specs.Kept.{without_lasts}
use Rattle.fs_txn.proofs.Several.{HoldsMore, back_more, holds_next, holds_none}
use Rattle.fs_txn.proofs.reading.hold_all.Goals as goal

pub loop-count-init : goal.loop-count-init
loop-count-init c = record {
  more = holds_none c.args.holds.now.shared c.args.id;
  back = refl;
}

pub loop-count-preserved : goal.loop-count-preserved
loop-count-preserved c =
    let old = c.args.holds.now.shared in
    let mid = c.loop-count.holds.shared in
    let new = c.hold_one.new.holds.shared in
    let k = c.loop-count.count in
    record {
      more = holds_next old mid new c.args.id k c.index-reads-count.result c.args.reads.now (omega arith) c.index-reads-count.is c.loop-count.invariant.more c.in_default.ensures.ok;
      back = back_more k old mid new c.args.id c.loop-count.invariant.back c.in_default.ensures.back;
    }

pub returns-in-Err-clause-err : goal.returns-in-Err-clause-err
returns-in-Err-clause-err c =
    c.take_back_all.ensures ∙ ap (λ (all : Shares). without_lasts c.loop-count.count all c.args.id) c.in-Err.ensures.err ∙ c.loop-count.invariant.back

pub returns-clause-ok : goal.returns-clause-ok
returns-clause-ok c =
    let rs = c.args.reads.now in
    subst (λ (all : List Read). HoldsMore c.args.holds.now.shared c.loop-count.holds.shared c.args.id all) (take_all c.loop-count.count rs (omega arith)) c.loop-count.invariant.more

pub returns-clause-back : goal.returns-clause-back
returns-clause-back c =
    let all : c.loop-count.count ≡ length c.args.reads.now = omega arith in
    subst (λ n. without_lasts n c.loop-count.holds.shared c.args.id ≡ c.args.holds.now.shared) all c.loop-count.invariant.back
