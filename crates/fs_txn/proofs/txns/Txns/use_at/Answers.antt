use Rattle.std.proofs.Common.{◌≡◌, true, sym, ap, ◌∙◌, subst, List, refl, ◌≤ℤ◌, w64, to_z, of_z, arith}
use Rattle.std.specs.Prelude.{is_some}
use Rattle.std.proofs.lemmas.Int.{ints}
use Rattle.std.specs.Vec.{vec_len, vec_capacity}
use Rattle.fs_txn.specs.declared.txn.Txn.{Txn}
use Rattle.fs_txn.specs.Kept.{Holds, IsQuiet}
use Rattle.fs_txn.specs.Transactions.{Transactions, changed_at, txn_of}
use Rattle.fs_txn.proofs.Keeping.{holds_used}
use Rattle.fs_txn.proofs.Quiet.{quiet_used}
use Rattle.fs_txn.proofs.txns.Txns.use_at.Goals as goal

pub invariant_of-self : goal.invariant_of-self
invariant_of-self c =
    let s = c.self.inside in
    let due = c.due_with-self-inside.result in
    let own : to_z w64 (of_z w64 s.due) ≡ s.due = omega (arith, ints) in
    let put : to_z w64 (of_z w64 due) ≡ due = omega (arith, ints) in
    let before : due ≤ℤ s.due = subst (λ z. due ≤ℤ z) own c.due_with-self-inside.ensures.before in
    let there : is_some (txn_of c.args.id s.by_id) ≡ true = ap (λ (ts : Transactions). is_some (txn_of c.args.id ts.open)) c.self.view_is ∙ c.requires in
    subst (λ (ts : List Txn). Holds ts (vec_len s.expired) (vec_capacity s.expired) s.bytes s.holds.shared × IsQuiet (to_z w64 (of_z w64 due)) ts) (sym c.use_at.ensures) (
      holds_used s.by_id (vec_len s.expired) (vec_capacity s.expired) s.bytes s.holds.shared c.args.id c.args.now there c.self.invariant.0,
      subst (λ z. IsQuiet z (changed_at c.args.id (λ (t : Txn). record t { used = c.args.now }) s.by_id)) (sym put)
          (quiet_used s.due due c.args.now c.args.id (λ (t : Txn). record t { used = c.args.now }) s.by_id (λ t. refl) before c.due_with-self-inside.ensures.late c.self.invariant.1),
    )
