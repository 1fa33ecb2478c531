-- What transactions had read stands before their commits, still, after each event.
use Rattle.std.proofs.Common.{◌≡◌, ℕ, Bool, true, false, cond, List, [], ◌∷◌, ◌++◌, Result, Ok, Err, refl, sym, subst}
use Rattle.std.specs.List.{AllByRecursion}
use Rattle.std.proofs.lemmas.Bool.{or_parts}
use Rattle.fs_history.specs.History.{whole}
use Rattle.fs_history.specs.Serial.{AreShown}
use Rattle.fs_history.specs.Touches.{some_touched, touched}
use Rattle.fs_history.specs.declared.batch.Batch.{Batch}
use Rattle.fs_history.specs.declared.read.Read.{Read}
use Rattle.fs_history.proofs.ReadsStay.{reads_stay}
use Rattle.fs_status.specs.declared.refusal.Refusal.{Refusal}
use Rattle.fs_write.proofs.AfterChanges.{law_at_own_names}
use Rattle.fs_write.specs.Batch.{Docs}
use Rattle.fs_write.specs.declared.write_result.WriteResult.{WriteResult}
use Rattle.fs_machine.specs.Commit.{past_prepared}
use Rattle.fs_machine.specs.Past.{Past, batches}
use Rattle.fs_machine.specs.ReadsHold.{AreRead, AreSpared, MayRead, ReadsHold, Spares}
use Rattle.fs_machine.specs.Release.{past_released}
use Rattle.fs_machine.specs.Settle.{dropped_from, is_it, past_decided}
use Rattle.fs_machine.specs.UnreleasedRise.{UnreleasedRise}
use Rattle.fs_machine.specs.declared.unreleased.Unreleased.{Unreleased}
use Rattle.fs_machine.proofs.Batches.{all_dropped, all_more}
use Rattle.fs_machine.proofs.Moved.{moved}
use Rattle.fs_machine.proofs.Pending.{same_batches}

-- ---- reads stay behind a batch that spares them

pub shown_behind : (b : Batch) (h : List Batch) (rs : List Read) → Spares rs b → AreShown (whole h) rs → AreShown (whole (b ∷ h)) rs
shown_behind b h [] spares shown = tt
shown_behind b h (r ∷ rs) spares shown =
    let parts = or_parts (touched b.writes r) (some_touched b.writes rs) spares in
    (reads_stay law_at_own_names b h r parts.0 shown.0, shown_behind b h rs parts.1 shown.1)

all_behind : (b : Batch) (h : List Batch) (bs : List Batch) → AllByRecursion (λ later. Spares later.reads b) bs → AllByRecursion (λ c. AreShown (whole h) c.reads) bs → AllByRecursion (λ c. AreShown (whole (b ∷ h)) c.reads) bs
all_behind b h [] spares shown = tt
all_behind b h (c ∷ bs) spares shown = (shown_behind b h c.reads spares.0 shown.0, all_behind b h bs spares.1 shown.1)

-- ---- one comes

spared_more : (us : List Unreleased) (u : Unreleased) → AreSpared (batches us) → AllByRecursion (Spares u.batch.reads) (batches us) → AreSpared (batches (us ++ u ∷ []))
spared_more [] u spared spares = (tt, tt)
spared_more (v ∷ us) u spared spares = (all_more (λ later. Spares later.reads v.batch) us u spared.0 spares.0, spared_more us u spared.1 spares.1)

pub reads_prepared : (p : Past) (u : Unreleased) → MayRead p u.batch.reads → ReadsHold p → ReadsHold (past_prepared p u)
reads_prepared p u may holds = record {
  serial = holds.serial;
  shown = all_more (λ b. AreShown (whole p.history) b.reads) p.unreleased u holds.shown may.shown;
  spared = spared_more p.unreleased u holds.spared may.spared;
}

-- one that read nothing is spared
nothing_touched : (b : Batch) (rs : List Read) → rs ≡ [] → Spares rs b
nothing_touched b rs none = subst (λ xs. Spares xs b) (sym none) refl

pub all_spare_none : (bs : List Batch) (rs : List Read) → rs ≡ [] → AllByRecursion (Spares rs) bs
all_spare_none [] rs none = tt
all_spare_none (b ∷ bs) rs none = (nothing_touched b rs none, all_spare_none bs rs none)

pub nothing_read : (p : Past) (rs : List Read) → rs ≡ [] → MayRead p rs
nothing_read p rs none = record { shown = subst (AreShown (whole p.history)) (sym none) tt; spared = all_spare_none (batches p.unreleased) rs none }

-- ---- one is dropped

spared_next : (v : Unreleased) (us : List Unreleased) (id : ℕ) (b : Bool) → AllByRecursion (λ later. Spares later.reads v.batch) (batches us) → AreSpared (batches us) → AreSpared (batches (dropped_from id us))
    → AreSpared (batches (cond b us (v ∷ dropped_from id us)))
spared_next v us id true all spared more = spared
spared_next v us id false all spared more = (all_dropped (λ later. Spares later.reads v.batch) us id all, more)

pub spared_dropped : (us : List Unreleased) (id : ℕ) → AreSpared (batches us) → AreSpared (batches (dropped_from id us))
spared_dropped [] id spared = tt
spared_dropped (v ∷ us) id spared = spared_next v us id (is_it id v) spared.0 spared.1 (spared_dropped us id spared.1)

pub reads_dropped : (p : Past) (id : ℕ) → ReadsHold p → ReadsHold (record p { unreleased = dropped_from id p.unreleased })
reads_dropped p id holds = record {
  serial = holds.serial;
  shown = all_dropped (λ b. AreShown (whole p.history) b.reads) p.unreleased id holds.shown;
  spared = spared_dropped p.unreleased id holds.spared;
}

pub reads_decided : (p : Past) (u : Unreleased) (r : Result (Docs × List WriteResult) Refusal) → ReadsHold p → ReadsHold (past_decided p u r)
reads_decided p u (Ok done) holds = subst (AreRead p.history) (sym (same_batches p.unreleased u.batch.id done.1)) holds
reads_decided p u (Err refusal) holds = reads_dropped p u.batch.id holds

-- ---- some are released

one_goes : (h : List Batch) (u : Unreleased) (us : List Unreleased) → AreRead h (batches (u ∷ us)) → AreRead (u.batch ∷ h) (batches us)
one_goes h u us holds = record {
  serial = (holds.shown.0, holds.serial);
  shown = all_behind u.batch h (batches us) holds.spared.0 holds.shown.1;
  spared = holds.spared.1;
}

pub reads_released : (p : Past) → UnreleasedRise p → ReadsHold p → ReadsHold (past_released p)
reads_released p above holds = moved (λ h us. AreRead h (batches us)) (λ h u us is has. one_goes h u us has) p.unreleased p.released p.last above p.history holds
