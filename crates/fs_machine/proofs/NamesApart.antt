-- No two commits that aren't released write one name, still, after each event.
use Rattle.std.proofs.Common.{ℕ, Bool, true, false, cond, List, [], ◌∷◌, ◌++◌, Result, Ok, Err, sym, subst}
use Rattle.std.specs.List.{AllByRecursion}
use Rattle.fs_status.specs.declared.refusal.Refusal.{Refusal}
use Rattle.fs_write.specs.Batch.{Docs}
use Rattle.fs_write.specs.declared.write_result.WriteResult.{WriteResult}
use Rattle.fs_machine.specs.Commit.{past_prepared}
use Rattle.fs_machine.specs.NamesApart.{AreApart, IsApartFrom, NamesApart}
use Rattle.fs_machine.specs.Past.{Past, batches}
use Rattle.fs_machine.specs.Release.{past_released}
use Rattle.fs_machine.specs.Settle.{dropped_from, is_it, past_decided}
use Rattle.fs_machine.specs.UnreleasedRise.{UnreleasedRise}
use Rattle.fs_machine.specs.declared.unreleased.Unreleased.{Unreleased}
use Rattle.fs_machine.proofs.Batches.{all_dropped, all_more}
use Rattle.fs_machine.proofs.Behind.{IsFree}
use Rattle.fs_machine.proofs.Moved.{moved}
use Rattle.fs_machine.proofs.Pending.{same_batches}

apart_more : (us : List Unreleased) (u : Unreleased) → AreApart (batches us) → AllByRecursion (IsFree u.batch.writes) (batches us) → AreApart (batches (us ++ u ∷ []))
apart_more [] u apart free = (tt, tt)
apart_more (v ∷ us) u apart free = (all_more (IsApartFrom v.batch) us u apart.0 free.0, apart_more us u apart.1 free.1)

pub names_prepared : (p : Past) (u : Unreleased) → AllByRecursion (IsFree u.batch.writes) (batches p.unreleased) → NamesApart p → NamesApart (past_prepared p u)
names_prepared p u free apart = apart_more p.unreleased u apart free

-- one that is dropped
apart_dropped_next : (v : Unreleased) (us : List Unreleased) (id : ℕ) (b : Bool) → AllByRecursion (IsApartFrom v.batch) (batches us) → AreApart (batches us) → AreApart (batches (dropped_from id us))
    → AreApart (batches (cond b us (v ∷ dropped_from id us)))
apart_dropped_next v us id true all apart more = apart
apart_dropped_next v us id false all apart more = (all_dropped (IsApartFrom v.batch) us id all, more)

pub apart_dropped : (us : List Unreleased) (id : ℕ) → AreApart (batches us) → AreApart (batches (dropped_from id us))
apart_dropped [] id apart = tt
apart_dropped (v ∷ us) id apart = apart_dropped_next v us id (is_it id v) apart.0 apart.1 (apart_dropped us id apart.1)

pub names_decided : (p : Past) (u : Unreleased) (r : Result (Docs × List WriteResult) Refusal) → NamesApart p → NamesApart (past_decided p u r)
names_decided p u (Ok done) apart = subst AreApart (sym (same_batches p.unreleased u.batch.id done.1)) apart
names_decided p u (Err refusal) apart = apart_dropped p.unreleased u.batch.id apart

-- some that are released
pub names_released : (p : Past) → UnreleasedRise p → NamesApart p → NamesApart (past_released p)
names_released p above apart = moved (λ h us. AreApart (batches us)) (λ h u us is has. has.1) p.unreleased p.released p.last above p.history apart
