use Rattle.std.proofs.Common.{◌≡◌, ◌-◌, Some, List, sym, ap, ◌∙◌, subst, arith}
use Rattle.std.specs.Prelude.{◌==◌, not}
use Rattle.std.specs.Vec.{vec_len, vec_capacity}
use Rattle.fs_txn.specs.declared.txn.Txn.{Txn}
use Rattle.fs_txn.specs.Kept.{Holds, IsQuiet}
use Rattle.fs_txn.specs.Reading.{shown_to}
use Rattle.fs_txn.specs.Transactions.{txn_of}
use Rattle.fs_txn.proofs.Keeping.{holds_ended, counted_of, counted_within}
use Rattle.fs_txn.proofs.Quiet.{quiet_kept}
use Rattle.fs_txn.proofs.Shown.{none_ends}
use Rattle.fs_txn.proofs.txns.Txns.end.Goals as goal

pub invariant_of-self : goal.invariant_of-self
invariant_of-self c =
    let s = c.self.inside in
    subst (λ (ts : List Txn). Holds ts (vec_len s.expired) (vec_capacity s.expired) s.bytes s.holds.shared × IsQuiet s.due ts)
    (sym (c.remove.ensures.rest ∙ none_ends c.args.id s.by_id (sym c.in_err-txn.ensures.value))) c.self.invariant

pub overflow_sub-self : goal.overflow_sub-self
overflow_sub-self c =
    let s = c.self.inside in
    let is : txn_of c.args.id s.by_id ≡ Some c.in_ok-txn.txn = sym c.in_ok-txn.ensures.value in
    let size : c.all_shown.result ≡ shown_to c.in_ok-txn.txn = counted_of s.by_id c.args.id c.all_shown.result s.bytes c.in_ok-txn.txn c.remove.ensures.rise is c.self.invariant.0.0.counted (omega arith) c.all_shown.ensures in
    let within = counted_within s.by_id c.args.id s.bytes c.in_ok-txn.txn c.remove.ensures.rise is c.self.invariant.0.0.counted in
    omega arith

pub invariant_of-self-2 : goal.invariant_of-self-2
invariant_of-self-2 c =
    let s = c.self.inside in
    let is : txn_of c.args.id s.by_id ≡ Some c.in_ok-txn.txn = sym c.in_ok-txn.ensures.value in
    let size : c.all_shown.result ≡ shown_to c.in_ok-txn.txn = counted_of s.by_id c.args.id c.all_shown.result s.bytes c.in_ok-txn.txn c.remove.ensures.rise is c.self.invariant.0.0.counted (omega arith) c.all_shown.ensures in
    subst (λ (ts : List Txn). Holds ts (vec_len s.expired) (vec_capacity s.expired) (s.bytes - c.all_shown.result) c.release_all.new.self.shared × IsQuiet s.due ts) (sym c.remove.ensures.rest) (
      holds_ended s.by_id (vec_len s.expired) (vec_capacity s.expired) s.bytes (s.bytes - c.all_shown.result) s.holds.shared c.release_all.new.self.shared c.args.id c.in_ok-txn.txn c.remove.ensures.rise is
          (ap (λ n. s.bytes - n) size) c.release_all.ensures.shared c.self.invariant.0,
      quiet_kept s.due (λ t. not (t.id == c.args.id)) s.by_id c.self.invariant.1,
    )
