-- Why a commit was refused as it was settled stays what its writes come to on the documents just before its time, whatever events come: what may
-- still come before that time writes other names.
use Rattle.std.proofs.Common.{◌≡◌, ◌⊎◌, inl, inr, ℕ, ℤ, ◌<ℤ◌, ◌≤ℤ◌, Bool, true, false, cond, List, [], ◌∷◌, ◌++◌, Option, Some, None, Result, Ok, Err, refl, sym, ap, ◌∙◌, subst, arith}
use Rattle.std.specs.Prelude.{int_lt, slice_get}
use Rattle.std.specs.FinMap.{get}
use Rattle.std.specs.List.{AllByRecursion, Contains, filter}
use Rattle.std.proofs.lemmas.Int.{ints}
use Rattle.std.proofs.lemmas.Option.{same_Some}
use Rattle.fs_history.specs.History.{EndsBefore, EndsBy, IsRising, before, whole}
use Rattle.fs_history.specs.declared.batch.Batch.{Batch}
use Rattle.fs_history.proofs.HistoryLaws.{before_skips, before_whole}
use Rattle.fs_status.specs.declared.refusal.Refusal.{Refusal}
use Rattle.fs_write.proofs.AfterLaws.{law_unwritten}
use Rattle.fs_write.proofs.BatchLaws.{Agree, law_named_refused}
use Rattle.fs_write.specs.After.{after_batch}
use Rattle.fs_write.specs.Batch.{Docs}
use Rattle.fs_write.specs.WrittenName.{written_name}
use Rattle.fs_write.specs.declared.write.Write.{Write}
use Rattle.fs_write.specs.declared.write_result.WriteResult.{WriteResult}
use Rattle.fs_machine.specs.AnswersStand.{RefusalsStand}
use Rattle.fs_machine.specs.Commit.{past_prepared}
use Rattle.fs_machine.specs.Compact.{first_asked, past_compacted}
use Rattle.fs_machine.specs.Event.{Event, after, step}
use Rattle.fs_machine.specs.NamesApart.{AreApart}
use Rattle.fs_machine.specs.Open.{is_full, with_session}
use Rattle.fs_machine.specs.Past.{Past, batches}
use Rattle.fs_machine.specs.Release.{free_to, freed, is_freed, joined, past_released}
use Rattle.fs_machine.specs.Request.{arrival_refusal, arrived, asked}
use Rattle.fs_machine.specs.Retry.{retried}
use Rattle.fs_machine.specs.Settle.{accepted_in, decided, decided_if, decided_with, docs_for, dropped_from, is_it, outcome_of, past_decided, pending_in, pending_of}
use Rattle.fs_machine.specs.State.{Machine}
use Rattle.fs_machine.specs.Tick.{later, past_advanced}
use Rattle.fs_machine.specs.UnreleasedRise.{RiseFrom}
use Rattle.fs_machine.specs.declared.unreleased.Unreleased.{Unreleased}
use Rattle.fs_machine.proofs.Behind.{IsFree}
use Rattle.fs_machine.proofs.Carried.{AtMostPrepares, asked_follows, retried_follows}
use Rattle.fs_machine.proofs.Listening.{loaded_rest, raised_rest}
use Rattle.fs_machine.proofs.Pending.{number_found}
use Rattle.fs_machine.proofs.ResultsHold.{docs_agree, found_apart, unwritten}

all_filtered : (P : Unreleased → Type 0) (f : Unreleased → Bool) (us : List Unreleased) → AllByRecursion P us → AllByRecursion P (filter f us)
all_filtered P f [] all = tt
all_filtered P f (u ∷ us) all = one (f u) (all_filtered P f us all.1) where
  one : (b : Bool) → AllByRecursion P (filter f us) → AllByRecursion P (cond b (u ∷ filter f us) (filter f us))
  one true rest = (all.0, rest)
  one false rest = rest

all_more : (P : Unreleased → Type 0) (us : List Unreleased) (u : Unreleased) → AllByRecursion P us → P u → AllByRecursion P (us ++ u ∷ [])
all_more P [] u all one = (one, tt)
all_more P (v ∷ us) u all one = (all.0, all_more P us u all.1 one)

module _ (ws : List Write) (t : ℤ) (docs : Docs) where
  -- it comes after the time, or writes other names
  abbrev Spares : Unreleased → Type 0
  Spares v = (t <ℤ v.batch.time) ⊎ IsFree ws v.batch

  -- the documents just before the time are those, for the names of these writes, and nothing that may still come changes them
  record Stands (q : Past) : Type 0 where
    agree : Agree ws (before q.history t) docs
    spares : AllByRecursion Spares q.unreleased
    last : t ≤ℤ q.last

  -- ---- a release

  earlier_next : (b : Batch) (h : List Batch) (early : Bool) → IsFree ws b → (w : Write) → Contains ws w
      → get (cond early (after_batch (before h t) b.writes b.time) (before h t)) (written_name w) ≡ get (before h t) (written_name w)
  earlier_next b h true free w at = law_unwritten (before h t) b.writes b.time (written_name w) (unwritten ws b.writes w free at)
  earlier_next b h false free w at = refl

  one_spared : (v : Unreleased) (h : List Batch) → Spares v → Agree ws (before (v.batch ∷ h) t) (before h t)
  one_spared v h (inl above) w at = ap (λ (d : Docs). get d (written_name w)) (before_skips v.batch h t (omega (arith, ints)))
  one_spared v h (inr free) w at = earlier_next v.batch h (int_lt v.batch.time t) free w at

  all_spared : (us : List Unreleased) (h : List Batch) → AllByRecursion Spares us → Agree ws (before (joined h us) t) (before h t)
  all_spared [] h all w at = refl
  all_spared (v ∷ us) h all w at = all_spared us (v.batch ∷ h) all.1 w at ∙ one_spared v h all.0 w at

  stands_released : (q : Past) → Stands q → Stands (past_released q)
  stands_released q has =
      let to = free_to q.last q.unreleased in
      record {
        agree = λ w at. all_spared (freed to q.unreleased) q.history (all_filtered Spares (is_freed to) q.unreleased has.spares) w at ∙ has.agree w at;
        spares = all_filtered Spares _ q.unreleased has.spares;
        last = has.last;
      }

  -- ---- other events

  stands_with : (q : Past) (us : List Unreleased) (last : ℤ) → AllByRecursion Spares us → t ≤ℤ last → Stands q → Stands (record q { unreleased = us; last = last })
  stands_with q us last all within has = record { agree = has.agree; spares = all; last = within }

  stands_prepared : (q : Past) (u : Unreleased) → q.last <ℤ u.batch.time → Stands q → Stands (past_prepared q u)
  stands_prepared q u above has =
      let within = has.last in
      record { agree = has.agree; spares = all_more Spares q.unreleased u has.spares (inl (omega (arith, ints))); last = omega (arith, ints) }

  stands_follows : (q r : Past) → AtMostPrepares q r → Stands q → Stands r
  stands_follows q r (inl same) has = subst Stands (sym same) has
  stands_follows q r (inr one) has = subst Stands (sym one.1) (stands_prepared q one.0 one.2 has)

  accepted_spares : (id : ℕ) (results : List WriteResult) (us : List Unreleased) → AllByRecursion Spares us → AllByRecursion Spares (accepted_in id results us)
  accepted_spares id results [] all = tt
  accepted_spares id results (v ∷ us) all = one (is_it id v) (accepted_spares id results us all.1) where
    one : (b : Bool) → AllByRecursion Spares (accepted_in id results us) → AllByRecursion Spares (cond b (record v { results = Some results } ∷ us) (v ∷ accepted_in id results us))
    one true rest = all
    one false rest = (all.0, rest)

  dropped_spares : (id : ℕ) (us : List Unreleased) → AllByRecursion Spares us → AllByRecursion Spares (dropped_from id us)
  dropped_spares id [] all = tt
  dropped_spares id (v ∷ us) all = one (is_it id v) (dropped_spares id us all.1) where
    one : (b : Bool) → AllByRecursion Spares (dropped_from id us) → AllByRecursion Spares (cond b us (v ∷ dropped_from id us))
    one true rest = all.1
    one false rest = (all.0, rest)

  stands_decided : (q : Past) (u : Unreleased) (r : Result (Docs × List WriteResult) Refusal) → Stands q → Stands (past_decided q u r)
  stands_decided q u (Ok done) has = stands_with q _ q.last (accepted_spares u.batch.id done.1 q.unreleased has.spares) has.last has
  stands_decided q u (Err refusal) has = stands_with q _ q.last (dropped_spares u.batch.id q.unreleased has.spares) has.last has

  later_within : (a b : ℤ) → t ≤ℤ a → t ≤ℤ later a b
  later_within a b within = grind (arith, ints)

  stands_advanced : (q : Past) (now : ℤ) → Stands q → Stands (past_advanced q now)
  stands_advanced q now has = record { agree = has.agree; spares = has.spares; last = later_within q.last now has.last }

  stands_compacted : (q : Past) (first : Option ℤ) (to : ℤ) → Stands q → Stands (past_compacted q first to)
  stands_compacted q first to has = record { agree = has.agree; spares = has.spares; last = has.last }

  module _ (m : Machine) (has : Stands m.past) where
    stands_opened : (full : Bool) → Stands (cond full m (with_session m)).past
    stands_opened true = has
    stands_opened false = has

    stands_decided_with : (u : Unreleased) (r : Result (Docs × List WriteResult) Refusal) → Stands (decided_with m u r).past
    stands_decided_with u (Ok done) = stands_decided m.past u (Ok done) has
    stands_decided_with u (Err refusal) = stands_decided m.past u (Err refusal) has

    stands_if : (found : Option Unreleased) → Stands (decided_if m found).past
    stands_if None = has
    stands_if (Some u) = stands_decided_with u (outcome_of m.past u)

    stands_on : (e : Event) → Stands (step m e).past
    stands_on Event.opening = stands_opened (is_full m)
    stands_on (Event.leaving session) = has
    stands_on (Event.asking session e) = stands_follows m.past (asked m session e).past (asked_follows m (arrived m session e) (arrival_refusal m session e.request)) has
    stands_on (Event.retrying place) = stands_follows m.past (retried m place).past (retried_follows m place (slice_get m.parked place)) has
    stands_on (Event.deciding id) = stands_if (pending_of m.past id)
    stands_on (Event.advancing now) = stands_advanced m.past now has
    stands_on Event.releasing = stands_released m.past has
    stands_on (Event.compacting to) = stands_compacted m.past (first_asked m) to has
    stands_on (Event.loading session target at) = subst Stands (sym (ap (λ (n : Machine). n.past) (loaded_rest m session target at))) has
    stands_on (Event.matching shard to) = has
    stands_on (Event.raising session) = subst Stands (sym (ap (λ (n : Machine). n.past) (raised_rest m session))) has
    stands_on (Event.taking session) = has

  stands_after : (m : Machine) (es : List Event) → Stands m.past → Stands (after m es).past
  stands_after m [] has = has
  stands_after m (e ∷ es) has = stands_after (step m e) es (stands_on m has e)

-- ---- where one is refused

later_spared : (ws : List Write) (t from last : ℤ) (us : List Unreleased) (docs : Docs) → RiseFrom from last us → t ≤ℤ from → AllByRecursion (Spares ws t docs) us
later_spared ws t from last [] docs rises within = tt
later_spared ws t from last (v ∷ us) docs rises within =
    let first = rises.0 in
    (inl (omega (arith, ints)), later_spared ws t v.batch.time last us docs rises.1 (omega (arith, ints)))

others_spared : (us : List Unreleased) (id : ℕ) (u : Unreleased) (from last : ℤ) (docs : Docs) → pending_in id us ≡ Some u → RiseFrom from last us → AreApart (batches us)
    → AllByRecursion (Spares u.batch.writes u.batch.time docs) (dropped_from id us)
others_spared [] id u from last docs is rises apart = tt
others_spared (v ∷ us) id u from last docs is rises apart = one (is_it id v) is (λ rest. others_spared us id u v.batch.time last docs rest rises.1 apart.1) where
  one : (b : Bool) → cond b (Some v) (pending_in id us) ≡ Some u → (pending_in id us ≡ Some u → AllByRecursion (Spares u.batch.writes u.batch.time docs) (dropped_from id us))
      → AllByRecursion (Spares u.batch.writes u.batch.time docs) (cond b us (v ∷ dropped_from id us))
  one true here others =
      let same = same_Some v u here in
      later_spared u.batch.writes u.batch.time v.batch.time last us docs rises.1 (subst (λ (x : Unreleased). x.batch.time ≤ℤ v.batch.time) same (omega (arith, ints)))
  one false rest others = (inr (found_apart us id u v rest apart.0), others rest)

ends_within : (us : List Unreleased) (from last : ℤ) → RiseFrom from last us → from ≤ℤ last
ends_within [] from last rises = rises
ends_within (v ∷ us) from last rises = let first = rises.0 in let rest = ends_within us v.batch.time last rises.1 in omega (arith, ints)

found_within : (us : List Unreleased) (id : ℕ) (u : Unreleased) (from last : ℤ) → pending_in id us ≡ Some u → RiseFrom from last us → (from <ℤ u.batch.time) × (u.batch.time ≤ℤ last)
found_within [] id u from last is rises = absurd (cc)
found_within (v ∷ us) id u from last is rises = one (is_it id v) is (λ rest. found_within us id u v.batch.time last rest rises.1) where
  one : (b : Bool) → cond b (Some v) (pending_in id us) ≡ Some u → (pending_in id us ≡ Some u → (v.batch.time <ℤ u.batch.time) × (u.batch.time ≤ℤ last)) → (from <ℤ u.batch.time) × (u.batch.time ≤ℤ last)
  one true here more = subst (λ (x : Unreleased). (from <ℤ x.batch.time) × (x.batch.time ≤ℤ last)) (same_Some v u here) (rises.0, ends_within us v.batch.time last rises.1)
  one false rest more =
      let found = more rest in
      let first = rises.0 in let above = found.0 in
      (omega (arith, ints), found.1)

ends_above : (h : List Batch) (from t : ℤ) → EndsBy h from → from <ℤ t → EndsBefore h t
ends_above [] from t ends above = tt
ends_above (b ∷ h) from t ends above = omega (arith, ints)

before_is_whole : (u : Unreleased) (h : List Batch) (from : ℤ) → IsRising h → EndsBy h from → from <ℤ u.batch.time → before h u.batch.time ≡ whole h
before_is_whole u h from rising ends above =
    sym (before_skips u.batch h u.batch.time (omega (arith, ints))) ∙ before_whole u.batch h (ends_above h from u.batch.time ends above, rising)

pub refusals_stand : RefusalsStand
refusals_stand m id u refusal es facts is comes =
    let p = m.past in
    let own = number_found p.unreleased id u is in
    let within = found_within p.unreleased id u p.released p.last is facts.past.unreleased in
    let same = before_is_whole u p.history p.released facts.past.history.rising facts.past.history.ends within.0 in
    let docs = whole p.history in
    let ws = u.batch.writes in
    let t = u.batch.time in
    let begun : Stands ws t docs (past_decided p u (Err refusal)) = record {
      agree = λ w at. ap (λ (d : Docs). get d (written_name w)) same;
      spares = subst (λ (n : ℕ). AllByRecursion (Spares ws t docs) (dropped_from n p.unreleased)) (sym own) (others_spared p.unreleased id u p.released p.last docs is facts.past.unreleased facts.past.names);
      last = within.1;
    } in
    let dropped : decided m id ≡ decided_with m u (Err refusal) = ap (decided_if m) is ∙ ap (decided_with m u) comes in
    let from : Stands ws t docs (decided m id).past = subst (λ (n : Machine). Stands ws t docs n.past) (sym dropped) begun in
    let now = stands_after ws t docs (decided m id) es from in
    law_named_refused (docs_for p u) (before (after (decided m id) es).past.history t) ws t refusal
    (λ w at. docs_agree p id u is facts.past.unreleased facts.past.names w at ∙ sym (now.agree w at)) comes
