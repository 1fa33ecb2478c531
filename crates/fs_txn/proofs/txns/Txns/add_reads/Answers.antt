use Rattle.std.proofs.Common.{◌≡◌, ◌+◌, true, List, length, refl, sym, ap, ◌∙◌, subst, sum_by, ◌≤ℤ◌, w64, to_z, of_z, arith}
use Rattle.std.specs.Prelude.{is_some}
use Rattle.std.proofs.lemmas.Int.{ints}
use Rattle.std.specs.Vec.{vec_len, vec_capacity}
use Rattle.fs_history.specs.Bytes.{shown_size}
use Rattle.fs_history.specs.declared.read.Read.{Read}
use Rattle.fs_locks.specs.Shares.{Shares}
use Rattle.fs_txn.specs.declared.txn.Txn.{Txn}
use Rattle.fs_txn.specs.Kept.{Holds, IsQuiet, read_writes, without_lasts}
use Rattle.fs_txn.specs.Transactions.{Transactions, all_noted, changed_at, txn_of}
use Rattle.fs_txn.proofs.Keeping.{changed_twice, found_changed, found_writing}
use Rattle.fs_txn.proofs.Quiet.{quiet_used}
use Rattle.fs_txn.proofs.Several.{HoldsMore, holds_readings, mores, noted_all, readings}
use Rattle.fs_txn.proofs.txns.Txns.add_reads.Goals as goal

pub append_reads-requires : goal.append_reads-requires
append_reads-requires c =
    let ts = c.self.inside.by_id in
    let o = found_writing ts c.args.id (ap (λ (us : Transactions). read_writes c.args.id us.open) c.self.view_is ∙ c.requires.there) in
    ap is_some o.1

pub use_at-requires : goal.use_at-requires
use_at-requires c =
    let ts = c.self.inside.by_id in
    let o = found_writing ts c.args.id (ap (λ (us : Transactions). read_writes c.args.id us.open) c.self.view_is ∙ c.requires.there) in
    subst (λ (us : List Txn). is_some (txn_of c.args.id us) ≡ true) (sym c.in_default.ensures.ok) (found_changed c.args.id (mores c.args.reads) ts (λ t. refl) (ap is_some o.1))

-- ---- where no memory is left

pub invariant_of-self : goal.invariant_of-self
invariant_of-self c =
    let s = c.self.inside in
    subst (λ (shares : Shares). Holds s.by_id (vec_len s.expired) (vec_capacity s.expired) s.bytes shares × IsQuiet s.due s.by_id) (sym c.in_err-hold_all.ensures.err) c.self.invariant

pub invariant_of-self-in-Err : goal.invariant_of-self-in-Err
invariant_of-self-in-Err c =
    let s = c.self.inside in
    let count : c.len-count.result ≡ length c.as_slice.result.now = c.len-count.ensures ∙ ap length (sym c.as_slice.ensures) in
    let same : c.take_back_all.new.holds.shared ≡ s.holds.shared =
    c.take_back_all.ensures ∙ ap (λ n. without_lasts n c.hold_all.new.holds.shared c.args.id) count ∙ c.in_ok-hold_all.ensures.back in
    subst (λ (shares : Shares). Holds c.append_reads.new.self (vec_len s.expired) (vec_capacity s.expired) s.bytes shares × IsQuiet s.due c.append_reads.new.self) (sym same)
    (subst (λ (ts : List Txn). Holds ts (vec_len s.expired) (vec_capacity s.expired) s.bytes s.holds.shared × IsQuiet s.due ts) (sym c.in-Err.ensures.err) c.self.invariant)

-- ---- where they are noted

pub invariant_of-self-2 : goal.invariant_of-self-2
invariant_of-self-2 c =
    let s = c.self.inside in
    let id = c.args.id in
    let rs = c.args.reads in
    let o = found_writing s.by_id id (ap (λ (us : Transactions). read_writes id us.open) c.self.view_is ∙ c.requires.there) in
    let due = c.due_with-self-inside.result in
    let own : to_z w64 (of_z w64 s.due) ≡ s.due = omega (arith, ints) in
    let put : to_z w64 (of_z w64 due) ≡ due = omega (arith, ints) in
    let before : due ≤ℤ s.due = subst (λ z. due ≤ℤ z) own c.due_with-self-inside.ensures.before in
    let fits = c.requires.fits in
    let size : c.all_shown-size.result ≡ sum_by shown_size rs = omega (arith, c.all_shown-size.ensures) in
    let held : HoldsMore s.holds.shared c.hold_all.new.holds.shared id rs = subst (λ (all : List Read). HoldsMore s.holds.shared c.hold_all.new.holds.shared id all) c.as_slice.ensures c.in_ok-hold_all.ensures.ok in
    let is : c.use_at.new.self ≡ changed_at id (readings rs c.args.now) s.by_id =
    c.use_at.ensures ∙ ap (changed_at id (λ (t : Txn). record t { used = c.args.now })) c.in_default.ensures.ok ∙ changed_twice id (mores rs) (λ (t : Txn). record t { used = c.args.now }) s.by_id (λ t. refl) in
    subst (λ n. Holds c.use_at.new.self (vec_len s.expired) (vec_capacity s.expired) (s.bytes + n) c.hold_all.new.holds.shared × IsQuiet (to_z w64 (of_z w64 due)) c.use_at.new.self) (sym size)
    (subst (λ (ts : List Txn). Holds ts (vec_len s.expired) (vec_capacity s.expired) (s.bytes + sum_by shown_size rs) c.hold_all.new.holds.shared × IsQuiet (to_z w64 (of_z w64 due)) ts) (sym is) (
      holds_readings s.by_id (vec_len s.expired) (vec_capacity s.expired) s.bytes s.holds.shared c.hold_all.new.holds.shared id rs c.args.now o.0 o.1 o.2 held c.self.invariant.0,
      subst (λ z. IsQuiet z (changed_at id (readings rs c.args.now) s.by_id)) (sym put)
          (quiet_used s.due due c.args.now id (readings rs c.args.now) s.by_id (λ t. refl) before c.due_with-self-inside.ensures.late c.self.invariant.1),
    ))

pub returns-clause-ok : goal.returns-clause-ok
returns-clause-ok c =
    let s = c.self.inside in
    let id = c.args.id in
    let rs = c.args.reads in
    let o = found_writing s.by_id id (ap (λ (us : Transactions). read_writes id us.open) c.self.view_is ∙ c.requires.there) in
    ap (λ (ts : List Txn). record { «open» = ts; expired = s.expired.items })
    (c.use_at.ensures ∙ ap (changed_at id (λ (t : Txn). record t { used = c.args.now })) c.in_default.ensures.ok ∙ changed_twice id (mores rs) (λ (t : Txn). record t { used = c.args.now }) s.by_id (λ t. refl))
    ∙ noted_all rs s.expired.items s.by_id id c.args.now o.0 o.1 o.2
    ∙ ap (λ (us : Transactions). all_noted us id rs c.args.now) c.self.view_is
