-- A commit that nothing holds may be prepared.
use Rattle.std.proofs.Common.{◌≡◌, ℕ, ◌+◌, ◌≤◌, ℤ, true, List, [], Some, None, refl, sym, ap, ◌∙◌, subst, arith}
use Rattle.fs_history.specs.Bytes.{commit_size}
use Rattle.fs_history.specs.declared.read.Read.{Read}
use Rattle.fs_txn.specs.Transactions.{is_read_write, txn_of}
use Rattle.fs_txn.specs.declared.txn.Txn.{Txn}
use Rattle.fs_write.specs.declared.write.Write.{Write}
use Rattle.fs_machine.specs.Behind.{behind}
use Rattle.fs_machine.specs.Commit.{commit_retry_refusal, prepared}
use Rattle.fs_machine.specs.Conflict.{conflict}
use Rattle.fs_machine.specs.Facts.{Facts}
use Rattle.fs_machine.specs.IdsAreDrawn.{times_in}
use Rattle.fs_machine.specs.Limits.{AreAllowed, greatest}
use Rattle.fs_machine.specs.Past.{Past, batches}
use Rattle.fs_machine.specs.ReadsHold.{MayRead}
use Rattle.fs_machine.specs.Refusing.{journal_size, next_time}
use Rattle.fs_machine.specs.Request.{writer_behind}
use Rattle.fs_machine.specs.State.{Machine}
use Rattle.fs_machine.specs.Transact.{with_ended}
use Rattle.fs_machine.specs.TransactionsHold.{IsOpen}
use Rattle.fs_machine.specs.declared.answer.Answer.TheVariants.{Prepared}
use Rattle.fs_machine.specs.declared.asker.Asker.{Asker}
use Rattle.fs_machine.specs.declared.unreleased.Unreleased.{Unreleased}
use Rattle.fs_machine.proofs.Holding.{behind_plain, may_be_read}
use Rattle.fs_machine.proofs.ReadsHold.{nothing_read}
use Rattle.fs_machine.proofs.TransactionsHold.{all_open}
use Rattle.fs_server.specs.Changes.{Does, MayPrepare, changed, commit_for}
use Rattle.fs_server.specs.declared.changes.Change.TheVariants.{Commits, Prepares}
use Rattle.fs_server.proofs.Fresh.{own_fresh}
use Rattle.fs_server.proofs.Within.{own_grows, plain_grows}

may_prepare : (p : Past) (id : ℕ) (asker : Asker) (ws : List Write) (reads : List Read) (u : Unreleased) → u ≡ commit_for p id asker ws reads → times_in id (batches p.unreleased) ≡ 0 → behind p ws ≡ None → MayRead p reads
    → journal_size p + commit_size ws reads ≤ greatest.journal → MayPrepare p u
may_prepare p id asker ws reads u is fresh free may room = subst (MayPrepare p) (sym is) (record { pending = refl; time = refl; fresh = fresh; free = free; reads = may; room = room })

module _ (m : Machine) (asker : Asker) (ws : List Write) (u : Unreleased) (time : ℤ) (allowed : AreAllowed m.limits) (at : time ≡ u.batch.time) where
  -- one of no transaction
  pub does_plain : (id : ℕ) → commit_retry_refusal m ws None ≡ None → writer_behind m ws None ≡ None → times_in id (batches m.past.unreleased) ≡ 0 → u ≡ commit_for m.past id asker ws []
      → Does m (Prepared id (next_time m.past)) (prepared m (commit_for m.past id asker ws [])) (Prepared id time, Prepares u)
  does_plain id limits free fresh is =
      let room = (plain_grows m ws limits).0 in
      let most = allowed.journal in
      record {
        told = ap (Prepared id) (at ∙ ap (λ (v : Unreleased). v.batch.time) is);
        state = ap (prepared m) is;
        may = may_prepare m.past id asker ws [] u is fresh (behind_plain m.config.mode m.past m.txns.open ws free) (nothing_read m.past [] refl) (omega (arith, room, most));
      }

  -- that of a transaction which is in conflict with nothing
  pub does_free : (t : Txn) → Facts m → commit_retry_refusal m ws (Some t.id) ≡ None → txn_of t.id m.txns.open ≡ Some t → is_read_write t.kind ≡ true → behind m.past ws ≡ None
      → conflict m.config.mode m.past m.txns.open t ws ≡ None → u ≡ commit_for m.past t.id asker ws t.reads
      → Does m (Prepared t.id (next_time m.past)) (prepared (with_ended m t.id) (commit_for m.past t.id asker ws t.reads)) (Prepared t.id time, Commits u)
  does_free t facts limits there rw free none is =
      let room = (own_grows m ws t.id t there rw limits).0 in
      let most = allowed.journal in
      let here = all_open (IsOpen m.config.mode m.past) m.txns.open t.id t there facts.txns in
      record {
        told = ap (Prepared t.id) (at ∙ ap (λ (v : Unreleased). v.batch.time) is);
        state = ap (λ v. changed m (Commits v)) is;
        may =
            may_prepare m.past t.id asker ws t.reads u is (own_fresh m.past m.txns m.parked m.numbers.ids t.id t facts.ids there) free
            (may_be_read m t ws none rw here facts.past) (omega (arith, room, most));
      }
