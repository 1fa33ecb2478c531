-- The results of a commit that is let out are those of its writes on the documents just before its time, then and in every later state.
use Rattle.std.proofs.Common.{◌≡◌, ◌⊎◌, inl, inr, ℤ, ◌<ℤ◌, ◌≤ℤ◌, Bool, true, false, cond, List, [], ◌∷◌, ◌++◌, Option, Some, None, refl, sym, ap, ◌∙◌, subst, arith}
use Rattle.std.specs.List.{AllByRecursion, Contains}
use Rattle.std.proofs.lemmas.Int.{ints}
use Rattle.std.proofs.lemmas.List.Elements.{All-contains, All-from_recursion, Contains-append_cases, Contains-append_right}
use Rattle.fs_history.specs.History.{EndsBefore, EndsBy, IsRising, before, whole}
use Rattle.fs_history.specs.declared.batch.Batch.{Batch}
use Rattle.fs_history.proofs.HistoryLaws.{before_skips, before_whole}
use Rattle.fs_query.proofs.Rising.{has_none}
use Rattle.fs_write.specs.Batch.{Docs, batch}
use Rattle.fs_write.specs.declared.write_result.WriteResult.{WriteResult}
use Rattle.fs_machine.specs.AnswersStand.{IsRightIn, ResultsStand}
use Rattle.fs_machine.specs.Event.{Event, after, step}
use Rattle.fs_machine.specs.Facts.{Facts, PastFacts}
use Rattle.fs_machine.specs.Grows.{AreLater, Grows}
use Rattle.fs_machine.specs.Laws.{let_out_by, let_out_in}
use Rattle.fs_machine.specs.Past.{Past, is_pending}
use Rattle.fs_machine.specs.Release.{free_to, freed, is_freed, joined, past_released}
use Rattle.fs_machine.specs.ResultsHold.{AreResultsOf, HasResults}
use Rattle.fs_machine.specs.State.{Machine}
use Rattle.fs_machine.specs.UnreleasedRise.{RiseFrom}
use Rattle.fs_machine.specs.declared.unreleased.Unreleased.{Unreleased}
use Rattle.fs_machine.proofs.ResultsHold.{Moves, results_behind}
use Rattle.fs_machine.proofs.Runs.{all_grow, keeps}

-- ---- what comes later doesn't matter

later_skipped : (more h : List Batch) (t s : ℤ) → t ≤ℤ s → AreLater s more → before (more ++ h) t ≡ before h t
later_skipped [] h t s within later = refl
later_skipped (b ∷ more) h t s within later =
    let first = later.0 in
    before_skips b (more ++ h) t (omega (arith, ints)) ∙ later_skipped more h t s within later.1

pub before_stays : (old new : Past) (t : ℤ) → Grows old new → t ≤ℤ old.released → before new.history t ≡ before old.history t
before_stays old new t grows within =
    ap (λ (h : List Batch). before h t) grows.history ∙ later_skipped grows.more old.history t old.released within grows.later

there_stays : (old new : Past) (b : Batch) → Grows old new → Contains old.history b → Contains new.history b
there_stays old new b grows there = subst (λ (h : List Batch). Contains h b) (sym grows.history) (Contains-append_right grows.more old.history b there)

right_stays : (h k : List Batch) (u : Unreleased) → Contains k u.batch → before k u.batch.time ≡ before h u.batch.time → IsRightIn h u → IsRightIn k u
right_stays h k u there same right =
    record {
      there = there;
      results = right.results;
      given = right.given;
      after = right.after;
      come = ap (λ (docs : Docs). batch docs u.batch.writes u.batch.time) same ∙ right.come;
    }

-- ---- commits that enter the history, one behind another

not_before_all : (u : Unreleased) (us : List Unreleased) (t : ℤ) (b : Bool) → t ≤ℤ u.batch.time → ((h : List Batch) → before (joined h us) t ≡ before h t)
    → (h : List Batch) (vs : List Unreleased) → vs ≡ cond b (u ∷ us) us → before (joined h vs) t ≡ before h t
not_before_all u us t true within rest h vs is =
    ap (λ (ws : List Unreleased). before (joined h ws) t) is ∙ rest (u.batch ∷ h) ∙ before_skips u.batch h t within
not_before_all u us t false within rest h vs is = ap (λ (ws : List Unreleased). before (joined h ws) t) is ∙ rest h

joined_skipped : (us : List Unreleased) (from last to t : ℤ) → RiseFrom from last us → t ≤ℤ from → (h : List Batch) → before (joined h (freed to us)) t ≡ before h t
joined_skipped [] from last to t rises within h = refl
joined_skipped (u ∷ us) from last to t rises within h =
    let first = rises.0 in
    not_before_all u (freed to us) t (is_freed to u) (omega (arith, ints)) (joined_skipped us u.batch.time last to t rises.1 (omega (arith, ints))) h (freed to (u ∷ us)) refl

has_some : (docs : Docs) (u : Unreleased) (results : Option (List WriteResult)) → u.results ≡ results → is_pending u ≡ false → AreResultsOf docs u.batch results
    → (given : List WriteResult) × (u.results ≡ Some given) × AreResultsOf docs u.batch (Some given)
has_some docs u None is some has = absurd (let none : is_pending u ≡ true = rw is refl in let both : true ≡ false = sym none ∙ some in cc)
has_some docs u (Some given) is some has = (given, is, has)

freed_isnt_pending : (to : ℤ) (u : Unreleased) → is_freed to u ≡ true → is_pending u ≡ false
freed_isnt_pending to u is = grind (arith)

joined_keeps : (us : List Unreleased) (h : List Batch) (b : Batch) → Contains h b → Contains (joined h us) b
joined_keeps [] h b there = there
joined_keeps (u ∷ us) h b there = joined_keeps us (u.batch ∷ h) b (Contains-append_right (u.batch ∷ []) h b there)

first_there : (b : Batch) (h : List Batch) → Contains (b ∷ h) b
first_there b h = (0, omega arith, refl)

one_right : (h : List Batch) (u : Unreleased) (us : List Unreleased) (last to : ℤ) → IsRising (u.batch ∷ h) → RiseFrom u.batch.time last us → HasResults (whole h) u → is_pending u ≡ false
    → IsRightIn (joined (u.batch ∷ h) (freed to us)) u
one_right h u us last to rising rises has some =
    let found = has_some (whole h) u u.results refl some has in
    let docs = joined_skipped us u.batch.time last to u.batch.time rises (omega (arith, ints)) (u.batch ∷ h) ∙ before_whole u.batch h rising in
    record {
      there = joined_keeps (freed to us) (u.batch ∷ h) u.batch (first_there u.batch h);
      results = found.0;
      given = found.1;
      after = found.2.0;
      come = ap (λ (d : Docs). batch d u.batch.writes u.batch.time) docs ∙ found.2.1;
    }

ends_above : (h : List Batch) (from t : ℤ) → EndsBy h from → from <ℤ t → EndsBefore h t
ends_above [] from t ends above = tt
ends_above (b ∷ h) from t ends above = omega (arith, ints)

ends_wider : (h : List Batch) (from t : ℤ) → EndsBy h from → from <ℤ t → EndsBy h t
ends_wider [] from t ends above = tt
ends_wider (b ∷ h) from t ends above = omega (arith, ints)

-- of these
abbrev AreRight : List Batch → List Unreleased → Type 0
AreRight h us = AllByRecursion (IsRightIn h) us

next_right : (to : ℤ) (u : Unreleased) (us : List Unreleased) (h : List Batch) (b : Bool) → is_freed to u ≡ b → (is_pending u ≡ false → IsRightIn (joined (u.batch ∷ h) (freed to us)) u)
    → (is_pending u ≡ false → AreRight (joined (u.batch ∷ h) (freed to us)) (freed to us)) → AreRight (joined h (freed to us)) (freed to us)
    → AreRight (joined h (cond b (u ∷ freed to us) (freed to us))) (cond b (u ∷ freed to us) (freed to us))
next_right to u us h true is one rest others = let some = freed_isnt_pending to u is in (one some, rest some)
next_right to u us h false is one rest others = others

all_right : (us : List Unreleased) (from last to : ℤ) (h : List Batch) → RiseFrom from last us → IsRising h → EndsBy h from → Moves h us → AreRight (joined h (freed to us)) (freed to us)
all_right [] from last to h rises rising ends moves = tt
all_right (u ∷ us) from last to h rises rising ends moves =
    let above = rises.0 in
    let behind : IsRising (u.batch ∷ h) = (ends_above h from u.batch.time ends above, rising) in
    next_right to u us h (is_freed to u) refl (λ some. one_right h u us last to behind rises.1 moves.0.0 some)
    (λ some. all_right us u.batch.time last to (u.batch ∷ h) rises.1 behind (omega (arith, ints)) (results_behind us h u moves.0.1 moves.1.0, moves.1.1))
    (all_right us u.batch.time last to h rises.1 rising (ends_wider h from u.batch.time ends above) (moves.0.1, moves.1.1))

-- ---- a release

freed_within : (to : ℤ) (us : List Unreleased) → AllByRecursion (λ (u : Unreleased). u.batch.time ≤ℤ to) (freed to us)
freed_within to [] = tt
freed_within to (u ∷ us) = one (is_freed to u) refl (freed_within to us) where
  one : (b : Bool) → is_freed to u ≡ b → AllByRecursion (λ (v : Unreleased). v.batch.time ≤ℤ to) (freed to us) → AllByRecursion (λ (v : Unreleased). v.batch.time ≤ℤ to) (cond b (u ∷ freed to us) (freed to us))
  one true is rest = (grind (arith, ints), rest)
  one false is rest = rest

right_at_release : (p : Past) (u : Unreleased) → PastFacts p → Contains (freed (free_to p.last p.unreleased) p.unreleased) u → IsRightIn (past_released p).history u × (u.batch.time ≤ℤ (past_released p).released)
right_at_release p u facts out =
    let to = free_to p.last p.unreleased in
    let us = freed to p.unreleased in
    let all = all_right p.unreleased p.released p.last to p.history facts.unreleased facts.history.rising facts.history.ends (facts.results, facts.names) in
    let P : Unreleased → Type 0 = IsRightIn (joined p.history us) in
    let Q : Unreleased → Type 0 = λ v. v.batch.time ≤ℤ to in
    (All-contains P us u (All-from_recursion P us all) out, All-contains Q us u (All-from_recursion Q us (freed_within to p.unreleased)) out)

-- ---- and then

right_for_good : (m : Machine) (more : List Event) (u : Unreleased) → Facts m → IsRightIn m.past.history u → u.batch.time ≤ℤ m.past.released → IsRightIn (after m more).past.history u
right_for_good m more u facts right within =
    let grows = all_grow m more facts in
    right_stays m.past.history (after m more).past.history u (there_stays m.past (after m more).past u.batch grows right.there)
    (before_stays m.past (after m more).past u.batch.time grows within) right

after_more : (m : Machine) (es more : List Event) → after m (es ++ more) ≡ after (after m es) more
after_more m [] more = refl
after_more m (e ∷ es) more = after_more (step m e) es more

out_by : (m : Machine) (e : Event) (u : Unreleased) → Facts m → Contains (let_out_by m e) u → IsRightIn (step m e).past.history u × (u.batch.time ≤ℤ (step m e).past.released)
out_by m Event.releasing u facts out = right_at_release m.past u facts.past out
out_by m Event.opening u facts out = absurd (has_none u out)
out_by m (Event.leaving session) u facts out = absurd (has_none u out)
out_by m (Event.asking session e) u facts out = absurd (has_none u out)
out_by m (Event.retrying place) u facts out = absurd (has_none u out)
out_by m (Event.deciding id) u facts out = absurd (has_none u out)
out_by m (Event.advancing now) u facts out = absurd (has_none u out)
out_by m (Event.compacting to) u facts out = absurd (has_none u out)
out_by m (Event.loading session target at) u facts out = absurd (has_none u out)
out_by m (Event.matching shard to) u facts out = absurd (has_none u out)
out_by m (Event.raising session) u facts out = absurd (has_none u out)
out_by m (Event.taking session) u facts out = absurd (has_none u out)

pub results_stand : ResultsStand
results_stand m [] more u facts out = absurd (has_none u out)
results_stand m (e ∷ es) more u facts out =
    by_place (Contains-append_cases (let_out_by m e) (let_out_in (step m e) es) u out) (λ later. results_stand (step m e) es more u (keeps m e facts) later) where
      by_place : Contains (let_out_by m e) u ⊎ Contains (let_out_in (step m e) es) u → (Contains (let_out_in (step m e) es) u → IsRightIn (after (after (step m e) es) more).past.history u)
          → IsRightIn (after (after (step m e) es) more).past.history u
      by_place (inl here) rest =
          let right = out_by m e u facts here in
          subst (λ (k : Machine). IsRightIn k.past.history u) (after_more (step m e) es more) (right_for_good (step m e) (es ++ more) u (keeps m e facts) right.0 right.1)
      by_place (inr later) rest = rest later
