use Rattle.std.proofs.Common.{◌≡◌, ◌+◌, ◌-◌, ◌≤◌, ◌<ℤ◌, List, length, sym, ap, ◌∙◌, subst, w64, to_z, of_z, arith}
use Rattle.std.proofs.lemmas.Int.{ints}
use Rattle.std.specs.Vec.{vec_len, vec_capacity}
use Rattle.fs_txn.specs.declared.txn.Txn.{Txn}
use Rattle.fs_txn.specs.Expiry.{expired_at, over, remembered}
use Rattle.fs_txn.specs.Kept.{Holds, IsQuiet}
use Rattle.fs_txn.specs.Transactions.{Transactions}
use Rattle.fs_txn.proofs.Keeping.{holds_over}
use Rattle.fs_txn.proofs.Quiet.{all_stay, same_remembered}
use Rattle.fs_txn.proofs.Shown.{shown_over_below}
use Rattle.fs_txn.proofs.txns.Txns.expire.Goals as goal

-- none is due
pub returns-then-get-self : goal.returns-then-get-self
returns-then-get-self c =
    let s = c.self.inside in
    let before : c.args.now <ℤ s.due = omega (arith, ints, c.get.ensures.value) in
    let few : length s.expired.items ≤ remembered = omega (arith, c.self.invariant.0.0.few) in
    let stay = all_stay c.args.now s.due s.by_id before c.self.invariant.1 in
    let same = same_remembered c.args.now s.due s.expired.items s.by_id before c.self.invariant.1 few in
    let held : Transactions = record { «open» = s.by_id; expired = s.expired.items } in
    let is : held ≡ expired_at c.args.now held = λ i. record { «open» = sym stay i; expired = sym same i } in
    sym c.self.view_is ∙ is ∙ ap (expired_at c.args.now) c.self.view_is

pub overflow_sub-self : goal.overflow_sub-self
overflow_sub-self c =
    let below = shown_over_below c.args.now c.self.inside.by_id in
    let counted = c.self.invariant.0.0.counted in
    omega (arith, c.shown_over.ensures)

pub invariant_of-self : goal.invariant_of-self
invariant_of-self c =
    let s = c.self.inside in
    let v = c.forget_first.new.expired in
    let capacity : vec_capacity v ≡ vec_capacity s.expired = c.forget_first.ensures.capacity ∙ c.remember_over.ensures.capacity in
    let fewer : vec_len v ≤ vec_len s.expired + length (over c.args.now s.by_id) = omega (arith, c.forget_first.ensures.fewer, c.remember_over.ensures.len) in
    let own : to_z w64 (of_z w64 c.due-self-inside.result) ≡ c.due-self-inside.result = omega (arith, ints) in (
      subst (λ n. Holds c.drop_over.new.self (vec_len v) n (s.bytes - c.shown_over.result) c.release_over.new.holds.shared) (sym capacity)
          (subst (λ (ts : List Txn). Holds ts (vec_len v) (vec_capacity s.expired) (s.bytes - c.shown_over.result) c.release_over.new.holds.shared) (sym c.drop_over.ensures.rest)
          (holds_over c.args.now s.by_id (vec_len s.expired) (vec_capacity s.expired) s.bytes (s.bytes - c.shown_over.result) (vec_len v) s.holds.shared c.release_over.new.holds.shared c.drop_over.ensures.rise
          (ap (λ n. s.bytes - n) c.shown_over.ensures) fewer c.forget_first.ensures.few c.release_over.ensures c.self.invariant.0)),
      subst (λ z. IsQuiet z c.drop_over.new.self) (sym own) c.due-self-inside.ensures,
    )
