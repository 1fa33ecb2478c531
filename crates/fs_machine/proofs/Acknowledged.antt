-- What was answered a commit time is in the history at that time, once, then and in every later state.
use Rattle.std.proofs.Common.{◌≡◌, inl, inr, ℕ, ℤ, ◌<ℤ◌, ◌≤◌, Bool, true, false, cond, List, [], ◌∷◌, map, Option, Some, None, Ok, length, refl, sym, ap, ◌∙◌, subst, arith, eq-eqb, ◌+◌}
use Rattle.std.specs.Prelude.{◌==◌, unwrap_or}
use Rattle.std.proofs.lemmas.Bool.Decides.{Decides-int_eq}
use Rattle.std.specs.List.{Contains, cons_option, filter, filter_map}
use Rattle.std.specs.Option.{option_map}
use Rattle.std.specs.Ordering.{int_eq}
use Rattle.std.proofs.lemmas.Int.{ints}
use Rattle.std.proofs.lemmas.List.Elements.{Contains-append_right}
use Rattle.fs_history.specs.History.{EndsBefore, IsRising, before}
use Rattle.fs_history.specs.declared.batch.Batch.{Batch}
use Rattle.fs_path.proofs.Elements.{has_first, has_later}
use Rattle.fs_query.proofs.Rising.{has_cases, has_kept, has_none, keeps}
use Rattle.fs_write.specs.Batch.{Docs, batch}
use Rattle.fs_write.specs.declared.write_result.WriteResult.{WriteResult}
use Rattle.fs_machine.specs.AnswersStand.{IsRightIn}
use Rattle.fs_machine.specs.Event.{Event, after}
use Rattle.fs_machine.specs.Facts.{Facts}
use Rattle.fs_machine.specs.IdsAreDrawn.{times_in}
use Rattle.fs_machine.specs.Laws.{let_out_in}
use Rattle.fs_machine.specs.Release.{joined}
use Rattle.fs_machine.specs.State.{Machine}
use Rattle.fs_machine.specs.StreamLaws.{HasOnce, committed_at, finishes_in}
use Rattle.fs_machine.specs.StreamsHold.{answers, of_stream}
use Rattle.fs_machine.specs.declared.unreleased.Unreleased.{Unreleased}
use Rattle.fs_machine.proofs.Replies.{replies_come_once}
use Rattle.fs_machine.proofs.ResultsStand.{results_stand}
use Rattle.fs_machine.proofs.Runs.{all_grow, all_kept}
use Rattle.fs_machine.proofs.StreamRuns.{Answered, answered_as, committed_once}
use Rattle.fs_machine.proofs.StreamsMove.{Done}

-- ---- one of what was committed is a commit that was let out

committed_first : (x : Option Answered) (ys : List Answered) (y : Answered) → x ≡ Some y → Contains (cons_option x ys) y
committed_first x ys y is = subst (λ o. Contains (cons_option o ys) y) (sym is) (has_first y ys)

committed_later : (x : Option Answered) (ys : List Answered) (y : Answered) → Contains ys y → Contains (cons_option x ys) y
committed_later None ys y has = has
committed_later (Some x) ys y has = has_later x ys y has

is_committed : (ds : List Done) (d : Done) (time : ℤ) → Contains ds d → d.1.commit ≡ Some time → Contains (filter_map committed_at ds) (d.0, time, d.1.results)
is_committed [] d time has is = absurd (has_none d has)
is_committed (x ∷ ds) d time has is =
    elim (has_cases x ds d has) [
      | inl same ↦ committed_first (committed_at x) (filter_map committed_at ds) (d.0, time, d.1.results) (ap committed_at same ∙ ap (option_map (λ (t : ℤ). (d.0, t, d.1.results))) is)
      | inr later ↦ committed_later (committed_at x) (filter_map committed_at ds) (d.0, time, d.1.results) (is_committed ds d time later is)
    ]

-- one that has them
abbrev IsOf : List Unreleased → Answered → Type 0
IsOf us y = (u : Unreleased) × Contains us u × (answered_as u ≡ y)

let_out_as : (us : List Unreleased) (y : Answered) → Contains (map answered_as us) y → IsOf us y
let_out_as [] y has = absurd (has_none y has)
let_out_as (u ∷ us) y has =
    elim (has_cases (answered_as u) (map answered_as us) y has) [
      | inl same ↦ (u, has_first u us, same)
      | inr later ↦ (let one = let_out_as us y later in (one.0, has_later u us one.0 one.1, one.2))
    ]

-- ---- and so is in the history

stays_joined : (us : List Unreleased) (h : List Batch) (b : Batch) → Contains h b → Contains (joined h us) b
stays_joined [] h b has = has
stays_joined (u ∷ us) h b has = stays_joined us (u.batch ∷ h) b (has_later u.batch h b has)

has_joined : (us : List Unreleased) (h : List Batch) (u : Unreleased) → Contains us u → Contains (joined h us) u.batch
has_joined [] h u has = absurd (has_none u has)
has_joined (v ∷ us) h u has =
    elim (has_cases v us u has) [
      | inl same ↦ subst (λ (x : Unreleased). Contains (joined (v.batch ∷ h) us) x.batch) same (stays_joined us (v.batch ∷ h) v.batch (has_first v.batch h))
      | inr later ↦ has_joined us (v.batch ∷ h) u later
    ]

-- ---- where it is the only one of its time

ends_later : (h : List Batch) (from t : ℤ) → EndsBefore h from → from <ℤ t → EndsBefore h t
ends_later [] from t ends above = tt
ends_later (b ∷ h) from t ends above = omega (arith, ints)

none_at : (h : List Batch) (t : ℤ) → EndsBefore h t → IsRising h → filter (λ (b : Batch). int_eq b.time t) h ≡ []
none_at [] t ends rising = refl
none_at (b ∷ h) t ends rising = by_test (int_eq b.time t) refl (none_at h t (ends_later h b.time t rising.0 ends) rising.1) where
  by_test : (same : Bool) → int_eq b.time t ≡ same → filter (λ (b : Batch). int_eq b.time t) h ≡ []
      → cond same (b ∷ filter (λ (b : Batch). int_eq b.time t) h) (filter (λ (b : Batch). int_eq b.time t) h) ≡ []
  by_test true is rest = let at = (Decides-int_eq b.time t).0 is in absurd (omega (arith, ints, at, ends))
  by_test false is rest = rest

once_at : (h : List Batch) (t : ℤ) → IsRising h → length (filter (λ (b : Batch). int_eq b.time t) h) ≤ 1
once_at [] t rising = omega arith
once_at (b ∷ h) t rising = by_test (int_eq b.time t) refl (once_at h t rising.1) where
  by_test : (same : Bool) → int_eq b.time t ≡ same → length (filter (λ (b : Batch). int_eq b.time t) h) ≤ 1
      → length (cond same (b ∷ filter (λ (b : Batch). int_eq b.time t) h) (filter (λ (b : Batch). int_eq b.time t) h)) ≤ 1
  by_test true is rest =
      let none = ap length (none_at h t (subst (EndsBefore h) ((Decides-int_eq b.time t).0 is) rising.0) rising.1) in
      omega (arith, none)
  by_test false is rest = rest

-- ---- and of its number

of_number : (h : List Batch) (id : ℕ) → length (filter (λ (b : Batch). b.id == id) h) ≡ times_in id h
of_number [] id = refl
of_number (b ∷ h) id = by_test (b.id == id) (of_number h id) where
  by_test : (same : Bool) → length (filter (λ (b : Batch). b.id == id) h) ≡ times_in id h
      → length (cond same (b ∷ filter (λ (b : Batch). b.id == id) h) (filter (λ (b : Batch). b.id == id) h)) ≡ cond same 1 0 + times_in id h
  by_test true rest = omega (arith, rest)
  by_test false rest = omega (arith, rest)

only_one : (xs : List Batch) (b : Batch) → length xs ≤ 1 → Contains xs b → xs ≡ b ∷ []
only_one [] b one has = absurd (has_none b has)
only_one (x ∷ []) b one has =
    elim (has_cases x [] b has) [
      | inl same ↦ ap (λ y. y ∷ []) same
      | inr later ↦ absurd (has_none b later)
    ]
only_one (x ∷ y ∷ xs) b one has = absurd (omega (arith, one))

same_number : (id : ℕ) → (id == id) ≡ true
same_number id = eq-eqb id id refl

-- the results that it was answered are right
right_results : (h : List Batch) (u : Unreleased) (y : Answered) → answered_as u ≡ y → IsRightIn h u → (docs : Docs) × (batch (before h y.1) y.0 y.1 ≡ Ok (docs, y.2))
right_results h u y is right =
    let results : unwrap_or u.results [] ≡ right.results = ap (λ (o : Option (List WriteResult)). unwrap_or o []) right.given in
    subst (λ (y : Answered). (docs : Docs) × (batch (before h y.1) y.0 y.1 ≡ Ok (docs, y.2))) is
    (right.after, right.come ∙ ap (λ (rs : List WriteResult). Ok (right.after, rs)) (sym results))

once_in : (m : Machine) (u : Unreleased) (y : Answered) → Facts m → Contains m.past.history u.batch → answered_as u ≡ y → IsRightIn m.past.history u → HasOnce m.past.history y.0 y.1 y.2
once_in m u y facts has is right =
    let h = m.past.history in
    let b = u.batch in
    let drawn = (facts.ids b.id).0 in
    let number = of_number h b.id in
    let at = ap (λ (y : Answered). y.1) is in
    let come = right_results h u y is right in
    record {
      one = b;
      same = ap (λ (y : Answered). y.0) is;
      alone = only_one (filter (λ (x : Batch). int_eq x.time y.1) h) b (once_at h y.1 facts.past.history.rising) (keeps (λ (x : Batch). int_eq x.time y.1) h b has ((Decides-int_eq b.time y.1).1 at));
      number = only_one (filter (λ (x : Batch). x.id == b.id) h) b (omega (arith, drawn, number)) (keeps (λ (x : Batch). x.id == b.id) h b has (same_number b.id));
      docs = come.0;
      come = come.1;
    }

-- ---- the law

pub acknowledged_is_committed : (m : Machine) (events more : List Event) (n : ℕ) (d : Done) (time : ℤ) → Facts m
    → Contains (finishes_in m events n) d → d.1.commit ≡ Some time → HasOnce (after (after m events) more).past.history d.0 time d.1.results
acknowledged_is_committed m events more n d time facts done is =
    let out = let_out_in m events in
    let k = after m events in
    let y : Answered = (d.0, time, d.1.results) in
    let one = let_out_as (of_stream n out) y (subst (λ ys. Contains ys y) (committed_once m events n) (is_committed (finishes_in m events n) d time done is)) in
    let u = one.0 in
    let of = (has_kept (λ (x : Unreleased). answers n x.asker) out u one.1).0 in
    let there : Contains k.past.history u.batch = subst (λ h. Contains h u.batch) (sym (replies_come_once m events)) (has_joined out m.past.history u of) in
    let grows = all_grow k more (all_kept m events facts) in
    let still : Contains (after k more).past.history u.batch = subst (λ h. Contains h u.batch) (sym grows.history) (Contains-append_right grows.more k.past.history u.batch there) in
    once_in (after k more) u y (all_kept k more (all_kept m events facts)) still one.2 (results_stand m events more u facts of)
