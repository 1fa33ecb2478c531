-- What the writes of a commit that isn't released come to doesn't hang on the others, since they write other names: so an accepted
-- one has the results that it has on what the history leaves, still, after each event.
use Rattle.std.proofs.Common.{◌≡◌, ℕ, ℤ, ◌<ℤ◌, ◌≤ℤ◌, Bool, true, false, cond, List, [], ◌∷◌, ◌++◌, Option, Some, None, Result, Ok, Err, refl, sym, ap, ◌∙◌, subst, arith}
use Rattle.std.specs.List.{filter, AllByRecursion, Contains}
use Rattle.std.proofs.lemmas.Int.{ints}
use Rattle.std.proofs.lemmas.List.Elements.{All-contains, All-from_recursion}
use Rattle.std.proofs.lemmas.Option.{same_Some}
use Rattle.fs_history.specs.History.{whole}
use Rattle.fs_history.specs.declared.batch.Batch.{Batch}
use Rattle.fs_status.specs.declared.refusal.Refusal.{Refusal}
use Rattle.fs_write.proofs.AfterLaws.{law_unwritten}
use Rattle.fs_write.proofs.BatchLaws.{Agree, law_named_results}
use Rattle.fs_write.specs.Batch.{Docs}
use Rattle.fs_write.specs.WrittenName.{is_written, written_name}
use Rattle.fs_write.specs.declared.write.Write.{Write}
use Rattle.fs_write.specs.declared.write_result.WriteResult.{WriteResult}
use Rattle.fs_machine.specs.Behind.{write_same}
use Rattle.fs_machine.specs.Commit.{past_prepared}
use Rattle.fs_machine.specs.NamesApart.{AreApart, IsApartFrom, NamesApart}
use Rattle.fs_machine.specs.Past.{Past, batches, is_pending}
use Rattle.fs_machine.specs.Release.{joined, past_released}
use Rattle.fs_machine.specs.ResultsHold.{AreResultsOf, HasResults, ResultsHold}
use Rattle.fs_machine.specs.Settle.{accepted_in, docs_for, dropped_from, is_before, is_it, outcome_of, past_decided, pending_in, pending_of}
use Rattle.fs_machine.specs.UnreleasedRise.{RiseFrom, UnreleasedRise}
use Rattle.fs_machine.specs.declared.unreleased.Unreleased.{Unreleased}
use Rattle.fs_machine.proofs.Behind.{IsFree, none_any}
use Rattle.fs_machine.proofs.Moved.{moved}
use Rattle.fs_machine.proofs.Pending.{number_found, pending_found}

-- ---- what other commits leave of the names of some writes

pub unwritten : (ws vs : List Write) (w : Write) → write_same ws vs ≡ false → Contains ws w → is_written (written_name w) vs ≡ false
unwritten ws vs w free at =
    All-contains (λ x. is_written (written_name x) vs ≡ false) ws w (All-from_recursion (λ x. is_written (written_name x) vs ≡ false) ws (none_any (λ x. is_written (written_name x) vs) ws free)) at

pub agree_behind : (h : List Batch) (b : Batch) (ws : List Write) → IsFree ws b → Agree ws (whole (b ∷ h)) (whole h)
agree_behind h b ws free w at = law_unwritten (whole h) b.writes b.time (written_name w) (unwritten ws b.writes w free at)

pub agree_joined : (us : List Unreleased) (h : List Batch) (ws : List Write) → AllByRecursion (IsFree ws) (batches us) → Agree ws (whole (joined h us)) (whole h)
agree_joined [] h ws free w at = refl
agree_joined (u ∷ us) h ws free w at = agree_joined us (u.batch ∷ h) ws free.1 w at ∙ agree_behind h u.batch ws free.0 w at

agree_back : (ws : List Write) (docs other : Docs) → Agree ws docs other → Agree ws other docs
agree_back ws docs other agree w at = sym (agree w at)

-- ---- the documents that a pending commit is carried out on

not_before : (time : ℤ) (u : Unreleased) → time <ℤ u.batch.time → is_before time u ≡ false
not_before time u later = grind (arith, ints)

pending_not_before : (time : ℤ) (u : Unreleased) → is_pending u ≡ true → is_before time u ≡ false
pending_not_before time u is = grind (arith)

none_before : (us : List Unreleased) (from last time : ℤ) → RiseFrom from last us → time ≤ℤ from → filter (is_before time) us ≡ []
none_before [] from last time above within = refl
none_before (u ∷ us) from last time above within =
    let first = above.0 in
    rw (not_before time u (omega (arith, ints)), none_before us u.batch.time last time above.1 (omega (arith, ints))) refl

-- those before it write none of its names
all_apart_next : (v : Unreleased) (us : List Unreleased) (id : ℕ) (u : Unreleased) (c : Unreleased) (b : Bool) → cond b (Some v) (pending_in id us) ≡ Some u → IsApartFrom c.batch v.batch
    → (pending_in id us ≡ Some u → IsApartFrom c.batch u.batch) → IsApartFrom c.batch u.batch
all_apart_next v us id u c true is here more = subst (λ (x : Unreleased). IsApartFrom c.batch x.batch) (same_Some v u is) here
all_apart_next v us id u c false is here more = more is

pub found_apart : (us : List Unreleased) (id : ℕ) (u c : Unreleased) → pending_in id us ≡ Some u → AllByRecursion (IsApartFrom c.batch) (batches us) → IsApartFrom c.batch u.batch
found_apart [] id u c is all = absurd (cc)
found_apart (v ∷ us) id u c is all = all_apart_next v us id u c (is_it id v) is all.0 (λ rest. found_apart us id u c rest all.1)

kept_next : (v : Unreleased) (us : List Unreleased) (ws : List Write) (time : ℤ) (b : Bool) → IsFree ws v.batch → AllByRecursion (IsFree ws) (batches (filter (is_before time) us))
    → AllByRecursion (IsFree ws) (batches (cond b (v ∷ filter (is_before time) us) (filter (is_before time) us)))
kept_next v us ws time true here more = (here, more)
kept_next v us ws time false here more = more

free_before_next : (v : Unreleased) (us : List Unreleased) (id : ℕ) (u : Unreleased) (last : ℤ) (b : Bool) → is_it id v ≡ b → cond b (Some v) (pending_in id us) ≡ Some u → is_pending u ≡ true
    → RiseFrom v.batch.time last us → AllByRecursion (IsApartFrom v.batch) (batches us)
    → (pending_in id us ≡ Some u → AllByRecursion (IsFree u.batch.writes) (batches (filter (is_before u.batch.time) us)))
    → AllByRecursion (IsFree u.batch.writes) (batches (filter (is_before u.batch.time) (v ∷ us)))
free_before_next v us id u last true here is pending above all more =
    let same = same_Some v u is in
    let rest : filter (is_before u.batch.time) us ≡ [] = none_before us v.batch.time last u.batch.time above (subst (λ (x : Unreleased). x.batch.time ≤ℤ v.batch.time) same (omega (arith, ints))) in
    let itself : is_before u.batch.time v ≡ false = subst (λ (x : Unreleased). is_before u.batch.time x ≡ false) (sym same) (pending_not_before u.batch.time u pending) in
    rw (itself, rest) tt
free_before_next v us id u last false here is pending above all more =
    kept_next v us u.batch.writes u.batch.time (is_before u.batch.time v) (found_apart us id u v is all) (more is)

free_before : (us : List Unreleased) (id : ℕ) (u : Unreleased) (from last : ℤ) → pending_in id us ≡ Some u → is_pending u ≡ true → RiseFrom from last us → AreApart (batches us)
    → AllByRecursion (IsFree u.batch.writes) (batches (filter (is_before u.batch.time) us))
free_before [] id u from last is pending above apart = absurd (cc)
free_before (v ∷ us) id u from last is pending above apart =
    free_before_next v us id u last (is_it id v) refl is pending above.1 apart.0 (λ rest. free_before us id u v.batch.time last rest pending above.1 apart.1)

-- so its outcome is that on what the history leaves
pub docs_agree : (p : Past) (id : ℕ) (u : Unreleased) → pending_of p id ≡ Some u → UnreleasedRise p → NamesApart p → Agree u.batch.writes (docs_for p u) (whole p.history)
docs_agree p id u is above apart =
    agree_joined (filter (is_before u.batch.time) p.unreleased) p.history u.batch.writes
    (free_before p.unreleased id u p.released p.last is (pending_found p.unreleased id u is) above apart)

-- ---- events

one_stays : (b : Batch) (docs other : Docs) (results : Option (List WriteResult)) → Agree b.writes docs other → AreResultsOf docs b results → AreResultsOf other b results
one_stays b docs other None agree has = tt
one_stays b docs other (Some results) agree has = law_named_results docs other b.writes b.time (has.0, results) agree has.1

pub results_behind : (us : List Unreleased) (h : List Batch) (u : Unreleased) → AllByRecursion (HasResults (whole h)) us → AllByRecursion (IsApartFrom u.batch) (batches us)
    → AllByRecursion (HasResults (whole (u.batch ∷ h))) us
results_behind [] h u all apart = tt
results_behind (v ∷ us) h u all apart = (
  one_stays v.batch (whole h) (whole (u.batch ∷ h)) v.results (agree_back v.batch.writes (whole (u.batch ∷ h)) (whole h) (agree_behind h u.batch v.batch.writes apart.0)) all.0,
  results_behind us h u all.1 apart.1,
)

abbrev pub Moves : List Batch → List Unreleased → Type 0
Moves h us = AllByRecursion (HasResults (whole h)) us × AreApart (batches us)

pub results_released : (p : Past) → UnreleasedRise p → NamesApart p → ResultsHold p → ResultsHold (past_released p)
results_released p above apart all =
    (moved Moves (λ h u us is has. (results_behind us h u has.0.1 has.1.0, has.1.1)) p.unreleased p.released p.last above p.history (all, apart)).0

results_more : (us : List Unreleased) (u : Unreleased) (docs : Docs) → u.results ≡ None → AllByRecursion (HasResults docs) us → AllByRecursion (HasResults docs) (us ++ u ∷ [])
results_more [] u docs none all = (subst (AreResultsOf docs u.batch) (sym none) tt, tt)
results_more (v ∷ us) u docs none all = (all.0, results_more us u docs none all.1)

pub results_prepared : (p : Past) (u : Unreleased) → u.results ≡ None → ResultsHold p → ResultsHold (past_prepared p u)
results_prepared p u none all = results_more p.unreleased u (whole p.history) none all

accepted_next : (v : Unreleased) (us : List Unreleased) (id : ℕ) (u : Unreleased) (docs : Docs) (results : List WriteResult) (b : Bool) → cond b (Some v) (pending_in id us) ≡ Some u
    → AreResultsOf docs u.batch (Some results) → HasResults docs v → AllByRecursion (HasResults docs) us → (pending_in id us ≡ Some u → AllByRecursion (HasResults docs) (accepted_in id results us))
    → AllByRecursion (HasResults docs) (cond b (record v { results = Some results } ∷ us) (v ∷ accepted_in id results us))
accepted_next v us id u docs results true is has here all more = (subst (λ (x : Unreleased). AreResultsOf docs x.batch (Some results)) (sym (same_Some v u is)) has, all)
accepted_next v us id u docs results false is has here all more = (here, more is)

results_accepted : (us : List Unreleased) (id : ℕ) (u : Unreleased) (docs : Docs) (results : List WriteResult) → pending_in id us ≡ Some u → AreResultsOf docs u.batch (Some results)
    → AllByRecursion (HasResults docs) us → AllByRecursion (HasResults docs) (accepted_in id results us)
results_accepted [] id u docs results is has all = absurd (cc)
results_accepted (v ∷ us) id u docs results is has all = accepted_next v us id u docs results (is_it id v) is has all.0 all.1 (λ rest. results_accepted us id u docs results rest has all.1)

dropped_next : (v : Unreleased) (us : List Unreleased) (id : ℕ) (docs : Docs) (b : Bool) → HasResults docs v → AllByRecursion (HasResults docs) us → AllByRecursion (HasResults docs) (dropped_from id us)
    → AllByRecursion (HasResults docs) (cond b us (v ∷ dropped_from id us))
dropped_next v us id docs true here all more = all
dropped_next v us id docs false here all more = (here, more)

pub results_dropped : (us : List Unreleased) (id : ℕ) (docs : Docs) → AllByRecursion (HasResults docs) us → AllByRecursion (HasResults docs) (dropped_from id us)
results_dropped [] id docs all = tt
results_dropped (v ∷ us) id docs all = dropped_next v us id docs (is_it id v) all.0 all.1 (results_dropped us id docs all.1)

pub results_decided : (p : Past) (id : ℕ) (u : Unreleased) (r : Result (Docs × List WriteResult) Refusal) → pending_of p id ≡ Some u → outcome_of p u ≡ r → UnreleasedRise p → NamesApart p → ResultsHold p
    → ResultsHold (past_decided p u r)
results_decided p id u (Ok done) is comes above apart all =
    let at : pending_in u.batch.id p.unreleased ≡ Some u = ap (λ n. pending_in n p.unreleased) (number_found p.unreleased id u is) ∙ is in
    results_accepted p.unreleased u.batch.id u (whole p.history) done.1 at
    (law_named_results (docs_for p u) (whole p.history) u.batch.writes u.batch.time done (docs_agree p id u is above apart) comes) all
results_decided p id u (Err refusal) is comes above apart all = results_dropped p.unreleased u.batch.id (whole p.history) all
