use Rattle.std.proofs.Common.{◌≡◌, ◌+◌, ◌≤◌, List, length, refl, sym, subst, ◌≤ℤ◌, w64, to_z, of_z, arith}
use Rattle.std.proofs.lemmas.Int.{ints}
use Rattle.std.specs.Vec.{vec_len, vec_capacity}
use Rattle.fs_txn.specs.declared.txn.Txn.{Txn}
use Rattle.fs_txn.specs.Kept.{Holds, IsQuiet}
use Rattle.fs_txn.specs.Transactions.{put_in}
use Rattle.fs_txn.proofs.Keeping.{holds_put}
use Rattle.fs_txn.proofs.Quiet.{quiet_put}
use Rattle.fs_txn.proofs.txns.Txns.begin.Goals as goal

pub invariant_of-self-2 : goal.invariant_of-self-2
invariant_of-self-2 c =
    let s = c.self.inside in
    let v = c.reserve.new.self in
    let due = c.due_with-self-inside.result in
    let own : to_z w64 (of_z w64 s.due) ≡ s.due = omega (arith, ints) in
    let put : to_z w64 (of_z w64 due) ≡ due = omega (arith, ints) in
    let before : due ≤ℤ s.due = subst (λ z. due ≤ℤ z) own c.due_with-self-inside.ensures.before in
    let len : vec_len v ≡ vec_len s.expired = c.reserve.ensures.len in
    let room : vec_len v + (length s.by_id + 1) ≤ vec_capacity v =
    subst (λ n. vec_len v + (n + 1) ≤ vec_capacity v) c.len.ensures.value c.in_ok-reserve.ensures.ok in
    let t : Txn = record { id = c.args.id; kind = c.args.kind; read_time = c.args.read_time; begun = c.args.now; used = c.args.now; reads = c.new.result } in
    let holds : Holds s.by_id (vec_len v) (vec_capacity s.expired) s.bytes s.holds.shared = subst (λ n. Holds s.by_id n (vec_capacity s.expired) s.bytes s.holds.shared) (sym len) c.self.invariant.0 in
    subst (λ (ts : List Txn). Holds ts (vec_len v) (vec_capacity v) s.bytes s.holds.shared × IsQuiet (to_z w64 (of_z w64 due)) ts) (sym c.in_ok-insert.ensures.ok) (
      holds_put s.by_id (vec_len v) (vec_capacity s.expired) (vec_capacity v) s.bytes s.holds.shared t holds room c.new.ensures,
      subst (λ z. IsQuiet z (put_in t s.by_id)) (sym put) (quiet_put s.due due c.args.now t s.by_id refl refl before c.due_with-self-inside.ensures.late c.self.invariant.1),
    )
