-- The history goes on from what was there after no event, after one behind another, and after a release.
use Rattle.std.proofs.Common.{◌≡◌, ℤ, ◌<ℤ◌, ◌≤ℤ◌, Bool, true, false, cond, List, [], ◌∷◌, ◌++◌, refl, sym, ap, ◌∙◌, subst, arith}
use Rattle.std.specs.List.{filter}
use Rattle.std.proofs.lemmas.Int.{ints}
use Rattle.std.proofs.lemmas.List.{append_assoc}
use Rattle.std.specs.Int.Signed.{≤ℤ_refl}
use Rattle.fs_time.proofs.Tests.{through}
use Rattle.fs_history.specs.History.{at}
use Rattle.fs_history.specs.declared.batch.Batch.{Batch}
use Rattle.fs_history.proofs.HistoryLaws.{later_unseen}
use Rattle.fs_machine.specs.Grows.{AreLater, Grows}
use Rattle.fs_machine.specs.Past.{Past}
use Rattle.fs_machine.specs.declared.unreleased.Unreleased.{Unreleased}
use Rattle.fs_machine.specs.Release.{free_to, freed, is_freed, joined, past_released}
use Rattle.fs_machine.specs.UnreleasedRise.{RiseFrom, UnreleasedRise}
use Rattle.fs_machine.proofs.UnreleasedRise.{free_above}

-- an event that leaves the history and the released time alone
pub grows_same : (old new : Past) → new.history ≡ old.history → new.released ≡ old.released → Grows old new
grows_same old new h r = record { released = subst (λ t. old.released ≤ℤ t) (sym r) (≤ℤ_refl old.released); more = []; later = tt; history = h }

later_than : (bs : List Batch) (s t : ℤ) → s ≤ℤ t → AreLater t bs → AreLater s bs
later_than [] s t within all = tt
later_than (b ∷ bs) s t within all = let first = all.0 in (omega (arith, ints), later_than bs s t within all.1)

later_both : (xs ys : List Batch) (t : ℤ) → AreLater t xs → AreLater t ys → AreLater t (xs ++ ys)
later_both [] ys t all more = more
later_both (x ∷ xs) ys t all more = (all.0, later_both xs ys t all.1 more)

pub grows_on : (a b c : Past) → Grows a b → Grows b c → Grows a c
grows_on a b c first rest = record {
  released = through a.released b.released c.released first.released rest.released;
  more = rest.more ++ first.more;
  later = later_both rest.more first.more a.released (later_than rest.more a.released b.released first.released rest.later) first.later;
  history = rest.history ∙ ap (λ h. rest.more ++ h) first.history ∙ sym (append_assoc rest.more first.more a.history);
}

-- ---- a release

joined_behind : (us : List Unreleased) (more h : List Batch) → joined (more ++ h) us ≡ joined more us ++ h
joined_behind [] more h = refl
joined_behind (u ∷ us) more h = joined_behind us (u.batch ∷ more) h

later_next : (u : Unreleased) (us : List Unreleased) (f : Unreleased → Bool) (t : ℤ) (b : Bool) → t <ℤ u.batch.time → ((more : List Batch) → AreLater t more → AreLater t (joined more (filter f us)))
    → (more : List Batch) → AreLater t more → AreLater t (joined more (cond b (u ∷ filter f us) (filter f us)))
later_next u us f t true first rest more all = rest (u.batch ∷ more) (first, all)
later_next u us f t false first rest more all = rest more all

joined_later : (us : List Unreleased) (f : Unreleased → Bool) (from last t : ℤ) → RiseFrom from last us → t ≤ℤ from → (more : List Batch) → AreLater t more → AreLater t (joined more (filter f us))
joined_later [] f from last t above within more all = all
joined_later (u ∷ us) f from last t above within more all =
    let first = above.0 in
    later_next u us f t (f u) (omega (arith, ints)) (joined_later us f u.batch.time last t above.1 (omega (arith, ints))) more all

pub grows_released : (p : Past) → UnreleasedRise p → Grows p (past_released p)
grows_released p above =
    let to = free_to p.last p.unreleased in
    record {
      released = free_above p.unreleased p.released p.last above;
      more = joined [] (freed to p.unreleased);
      later = joined_later p.unreleased (is_freed to) p.released p.last p.released above (≤ℤ_refl p.released) [] tt;
      history = joined_behind (freed to p.unreleased) [] p.history;
    }

-- ---- what stood at a released time

later_unseen_all : (bs h : List Batch) (t : ℤ) → AreLater t bs → at (bs ++ h) t ≡ at h t
later_unseen_all [] h t all = refl
later_unseen_all (b ∷ bs) h t all = later_unseen b (bs ++ h) t all.0 ∙ later_unseen_all bs h t all.1

pub documents_stay : (old new : Past) (t : ℤ) → Grows old new → t ≤ℤ old.released → at new.history t ≡ at old.history t
documents_stay old new t grows within = ap (λ h. at h t) grows.history ∙ later_unseen_all grows.more old.history t (later_than grows.more t old.released within grows.later)
