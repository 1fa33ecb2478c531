-- What is kept of a past after each of its calls.
use Rattle.std.proofs.Common.{◌≡◌, ℕ, ◌+◌, ◌≤◌, ℤ, ◌<ℤ◌, ◌≤ℤ◌, true, List, [], ◌∷◌, ◌++◌, length, Option, Some, None, Ok, refl, sym, ap, ◌∙◌, subst, arith}
use Rattle.std.specs.Prelude.{pos, ◌+ℤ◌, IsSome, IsNone, IsTrue}
use Rattle.std.specs.Borrow.{Bor}
use Rattle.std.specs.List.{AllByRecursion, list_any}
use Rattle.std.specs.Option.{option_copied}
use Rattle.std.proofs.lemmas.Int.{ints}
use Rattle.fs_board.specs.Board.{HasNo, Posted, accepted_with, asked_in, free_to as board_free_to, pending_in as board_pending, prepared as board_prepared, ticked, without}
use Rattle.fs_board.specs.Rising.{Differ}
use Rattle.fs_history.specs.Bytes.{batch_size}
use Rattle.fs_history.specs.History.{whole}
use Rattle.fs_history.specs.Journal.{Recorded}
use Rattle.fs_history.specs.Laws.{ChangesOfTheLast}
use Rattle.fs_history.specs.declared.batch.Batch.{Batch}
use Rattle.fs_locks.specs.Holds.{IsLeastOther}
use Rattle.fs_store.proofs.Absorbing.{floor_all}
use Rattle.fs_history.specs.Brings.{Brings}
use Rattle.fs_store.specs.Fits.{AreNext, Fits, TimesRise}
use Rattle.fs_store.specs.Shows.{Shows}
use Rattle.fs_store.specs.Stored.{Stored, absorbed}
use Rattle.fs_write.proofs.BatchLaws.{law_named}
use Rattle.fs_write.specs.Batch.{IsOutcome}
use Rattle.fs_write.specs.WrittenName.{written_name}
use Rattle.fs_write.specs.declared.write.Write.{Write}
use Rattle.fs_write.specs.declared.change.Change.{Change}
use Rattle.fs_write.specs.declared.timed_change.TimedChange.{TimedChange}
use Rattle.fs_write.specs.declared.write_result.WriteResult.{WriteResult}
use Rattle.fs_machine.specs.declared.answer.Outcome.{Outcome}
use Rattle.fs_machine.specs.declared.answer.Outcome.TheVariants as outcome
use Rattle.fs_machine.specs.declared.unreleased.Unreleased.{Unreleased}
use Rattle.fs_machine.specs.Behind.{behind}
use Rattle.fs_machine.specs.Commit.{past_prepared}
use Rattle.fs_machine.specs.Facts.{PastFacts}
use Rattle.fs_machine.specs.IdsAreDrawn.{times_in}
use Rattle.fs_machine.specs.Past.{Past, batches}
use Rattle.fs_machine.specs.ReadsHold.{MayRead}
use Rattle.fs_machine.specs.Refusing.{next_time}
use Rattle.fs_machine.specs.Release.{free_to, let_out, past_released}
use Rattle.fs_machine.specs.Settle.{ComesTo, IsOutcomeOf, IsOutcomeOfPending, IsOutcomeOn, accepted_in, docs_for, dropped_from, pending_of}
use Rattle.fs_machine.proofs.Behind.{free_behind_none}
use Rattle.fs_machine.proofs.NamesApart.{apart_dropped, names_prepared}
use Rattle.fs_machine.proofs.OutcomesStay.{found_of, outcome_alike}
use Rattle.fs_machine.proofs.Pending.{number_found}
use Rattle.fs_machine.proofs.ReadsHold.{reads_dropped, reads_prepared}
use Rattle.fs_machine.proofs.ResultsHold.{docs_agree, results_dropped, results_prepared}
use Rattle.fs_machine.proofs.Runs.{past_kept_advanced, past_kept_at_deciding, past_kept_at_release}
use Rattle.fs_machine.proofs.UnreleasedRise.{rise_dropped, unreleased_prepared}
use Rattle.fs_past.specs.declared.accepted.Accepted.{Accepted}
use Rattle.fs_past.specs.declared.holds.Holds.{Holds}
use Rattle.fs_past.specs.Bringing.{BringsMore}
use Rattle.fs_past.specs.Kept.{AreHeld, AreNumbered, BringsEffects, GoOn, HoldLess, IsKept, Stands, all_history, all_unreleased, bytes_of, changes_of, kept_on_board, let_out_of, past_of, unreleased_of, writes_name}
use Rattle.fs_store.specs.Next.{next_release}
use Rattle.fs_past.proofs.Fitting.{go_in, stand_left, times_rise}
use Rattle.fs_past.proofs.Holding.{are_numbered, held_accepted, held_dropped, held_late}
use Rattle.fs_past.proofs.OnBoard.{Posted1, accepted_there, all_dropped, all_more, asked_there, bytes_accepted, bytes_and_more, bytes_dropped, dropped_there, fewer_dropped, free_there, fresh_there, length_accepted, length_more, pending_there, stand_accepted, unreleased_more, with_none}
use Rattle.fs_past.proofs.Releasing.{go_on, lets_out, moves}
use Rattle.fs_past.proofs.Waiting.{behind_written}

none_is : {A : Type 0} (o : Option A) → IsNone o → o ≡ None
none_is None none = refl
none_is (Some x) none = absurd (cc)

some_of : {A : Type 0} (o : Option A) (x : A) → o ≡ Some x → IsSome o
some_of None x is = absurd (cc)
some_of (Some y) x is = refl

lent_some : {A : Type 0} (o : Option (Bor A)) → IsSome (option_copied o) → IsSome o
lent_some None some = absurd (cc)
lent_some (Some x) some = refl

-- commits whose times rise from a time on are later than that, and so is what is released with them
later_all : (cs : List TimedChange) (from bound to : ℤ) → bound ≤ℤ from → TimesRise from to cs → AllByRecursion (λ (c : TimedChange). bound <ℤ c.time) cs × (bound ≤ℤ to)
later_all [] from bound to low rise = (tt, omega (arith, ints))
later_all (c ∷ cs) from bound to low rise =
    let more = later_all cs c.time bound to (omega (arith, ints)) rise.1 in
    ((omega (arith, ints), more.0), more.1)

module _ (j : Recorded) (b : Posted Unreleased Accepted) (l : Holds) (s : Stored) (moment : ℤ) (bytes : ℕ) (kept : IsKept j b l s moment bytes) where
  abbrev held : Past
  held = past_of j.history b s moment

  -- ---- the clock

  pub kept_ticked : (now : ℤ) → IsKept j (ticked b now) l s now bytes
  kept_ticked now = record { facts = past_kept_advanced held now kept.facts; shows = kept.shows; stand = kept.stand; room = kept.room; locks = kept.locks; waiting = kept.waiting }

  -- ---- a new commit

  module _ (p : Past) (view : held ≡ p) (k : Recorded) (same : k.history ≡ j.history) (u : Unreleased) (none : IsNone u.results) (time : u.batch.time ≡ next_time p) where
    time_is : u.batch.time ≡ b.last +ℤ pos 1
    time_is = time ∙ ap next_time (sym view)

    abbrev more : Posted1
    more = record { time = b.last +ℤ pos 1; id = u.batch.id; asked = u; batch = None }

    more_is : unreleased_of more ≡ u
    more_is = with_none u (none_is u.results none)

    prepared_held : past_of j.history (board_prepared b u.batch.id u) s moment ≡ past_prepared held u
    prepared_held = λ i. record held { unreleased = unreleased_more more u more_is b.commits i; last = sym time_is i }

    facts_prepared : behind p u.batch.writes ≡ None → MayRead p u.batch.reads → PastFacts (past_prepared held u)
    facts_prepared free reads =
        let later : b.last <ℤ u.batch.time = subst (λ t. b.last <ℤ t) (sym time_is) (omega (arith, ints)) in
        let apart = free_behind_none (all_unreleased b.commits) u.batch.writes (ap (λ q. behind q u.batch.writes) view ∙ free) in
        record {
          history = kept.facts.history;
          unreleased = unreleased_prepared held u later kept.facts.unreleased;
          floor = kept.facts.floor;
          names = names_prepared held u apart kept.facts.names;
          results = results_prepared held u (none_is u.results none) kept.facts.results;
          reads = reads_prepared held u (subst (λ q. MayRead q u.batch.reads) (sym view) reads) kept.facts.reads;
        }

    pub kept_prepared : behind p u.batch.writes ≡ None → MayRead p u.batch.reads → HasNo u.batch.id b.commits → length b.commits + 1 ≤ k.room → (m : Holds) → m.late ≡ None → AreHeld m b.commits → (then : ℕ) → then ≡ bytes + batch_size u.batch
        → IsKept k (board_prepared b u.batch.id u) (record m { late = Some u.batch.id }) s moment then
    kept_prepared free reads fresh room m late holds then is =
        let shape = length_more more u more_is b.commits in
        record {
          facts = subst (λ h. PastFacts (past_of h (board_prepared b u.batch.id u) s moment)) (sym same) (subst PastFacts (sym prepared_held) (facts_prepared free reads));
          shows = subst (λ h. Shows h s) (sym same) kept.shows;
          stand = subst (λ h. AllByRecursion (Stands (whole h)) (b.commits ++ more ∷ [])) (sym same)
              (all_more (Stands (whole j.history)) b.commits more kept.stand (record { time = time_is; id = refl; pending = none_is u.results none; effects = tt }));
          room = omega arith;
          locks = held_late m b.commits more late fresh holds;
          waiting = is ∙ ap (λ n. n + batch_size u.batch) kept.waiting ∙ sym (bytes_and_more more u more_is b.commits);
        }

  -- no commit has a new number
  pub fresh_on_board : (p : Past) → held ≡ p → (id : ℕ) → times_in id (batches p.unreleased) ≡ 0 → HasNo id b.commits
  fresh_on_board p view id none = fresh_there (whole j.history) b.commits id kept.stand (ap (λ (q : Past). times_in id (batches q.unreleased)) view ∙ none)

  -- there is room for it, and all others hold their names
  pub kept_held : (k : Recorded) → k.history ≡ j.history → j.room ≤ k.room → (m : Holds) → AreHeld m b.commits → IsKept k b m s moment bytes
  kept_held k same room m holds = record {
    facts = subst (λ h. PastFacts (past_of h b s moment)) (sym same) kept.facts;
    shows = subst (λ h. Shows h s) (sym same) kept.shows;
    stand = subst (λ h. AllByRecursion (Stands (whole h)) b.commits) (sym same) kept.stand;
    room = let r = kept.room in omega arith;
    locks = holds;
    waiting = kept.waiting;
  }

  -- ---- a pending one

  module _ (differ : Differ b.commits) (id : ℕ) where
    pub pending_on_board : IsSome (pending_of held id) → board_pending id b.commits ≡ true
    pending_on_board some = pending_there (whole j.history) b.commits id kept.stand differ some

    pub lent_there : IsSome (pending_of held id) → (o : Option (Bor Unreleased)) → option_copied o ≡ asked_in id b.commits → IsSome o
    lent_there some o is =
        lent_some o (subst IsSome (sym (is ∙ asked_there (whole j.history) b.commits id kept.stand differ (sym (pending_on_board some)))) some)

    pub found_held : (w : Unreleased) → asked_in id b.commits ≡ Some w → board_pending id b.commits ≡ true → pending_of held id ≡ Some w
    found_held w at pending = sym (asked_there (whole j.history) b.commits id kept.stand differ (sym pending)) ∙ at

  module _ (id : ℕ) where
    pub comes_pending : (o : Outcome) → ComesTo held id o → IsSome (pending_of held id)
    comes_pending o comes = let f = found_of held o (pending_of held id) comes in some_of (pending_of held id) f.0 f.1

    -- what its writes come to
    pub comes_by : (w : Unreleased) (o : Outcome) → pending_of held id ≡ Some w → IsOutcomeOn (whole j.history) w.batch.writes w.batch.time o → ComesTo held id o
    comes_by w o found is =
        subst (λ f. IsOutcomeOfPending held f o) (sym found)
        (outcome_alike (whole j.history) (docs_for held w) w.batch o (λ x at. sym (docs_agree held id w found kept.facts.unreleased kept.facts.names x at)) is)

    -- it is accepted
    module _ (w : Unreleased) (found : pending_of held id ≡ Some w) (at : asked_in id b.commits ≡ Some w) (pending : board_pending id b.commits ≡ true) (t : ℤ) (time : t ≡ w.batch.time)
        (changes : List Change) (results : List WriteResult) where
      abbrev brought : Accepted
      brought = record { results = results; change = record { time = t; id = id; changes = changes } }

      abbrev accepted : Posted Unreleased Accepted
      accepted = record b { commits = accepted_with id brought b.commits }

      pub after_accept : past_of j.history accepted s moment ≡ record held { unreleased = accepted_in id results held.unreleased }
      after_accept = ap (λ us. record held { unreleased = us }) (accepted_there (whole j.history) b.commits id brought kept.stand pending)

      module _ (comes : ComesTo held id (outcome.Effects changes results)) where
        own : IsOutcomeOf held w (outcome.Effects changes results)
        own = subst (λ f. IsOutcomeOfPending held f (outcome.Effects changes results)) found comes

        had : IsOutcome (whole j.history) w.batch.writes w.batch.time changes results
        had = law_named (docs_for held w) (whole j.history) w.batch.writes w.batch.time changes results (docs_agree held id w found kept.facts.unreleased kept.facts.names) own.0

        facts_accepted : PastFacts (record held { unreleased = accepted_in id results held.unreleased })
        facts_accepted =
            subst (λ n. PastFacts (record held { unreleased = accepted_in n results held.unreleased })) (number_found held.unreleased id w found)
            (past_kept_at_deciding held id w (Ok (own.0.after, results)) found own.0.done kept.facts)

        stands_accepted : (c : Posted1) → Stands (whole j.history) c → c.asked ≡ w → Stands (whole j.history) (record c { batch = Some brought })
        stands_accepted c stands same = record {
          time = stands.time;
          id = stands.id;
          pending = stands.pending;
          effects = subst (λ x. BringsEffects (whole j.history) x (Some brought)) (sym same) (time, had, own.1, sym (number_found held.unreleased id w found));
        }

        pub kept_accepted : IsKept j accepted l s moment bytes
        kept_accepted = record {
          facts = subst PastFacts (sym after_accept) facts_accepted;
          shows = kept.shows;
          stand = stand_accepted (whole j.history) b.commits id brought w kept.stand at stands_accepted;
          room = subst (λ n. n ≤ j.room) (sym (length_accepted b.commits id brought)) kept.room;
          locks = held_accepted l b.commits id brought kept.locks;
          waiting = kept.waiting ∙ sym (bytes_accepted b.commits id brought);
        }

    -- it is dropped
    module _ (w : Unreleased) (at : Some w ≡ asked_in id b.commits) (pending : board_pending id b.commits ≡ true) where
      abbrev dropped : Posted Unreleased Accepted
      dropped = record b { commits = without id b.commits }

      pub after_reject : past_of j.history dropped s moment ≡ record held { unreleased = dropped_from id held.unreleased }
      after_reject = ap (λ us. record held { unreleased = us }) (dropped_there (whole j.history) b.commits id kept.stand pending)

      pub bytes_but : bytes ≡ batch_size w.batch + bytes_of (without id b.commits)
      bytes_but = kept.waiting ∙ bytes_dropped b.commits id w (sym at)

      facts_dropped : PastFacts (record held { unreleased = dropped_from id held.unreleased })
      facts_dropped = record {
        history = kept.facts.history;
        unreleased = rise_dropped held.unreleased id held.released held.last kept.facts.unreleased;
        floor = kept.facts.floor;
        names = apart_dropped held.unreleased id kept.facts.names;
        results = results_dropped held.unreleased id (whole j.history) kept.facts.results;
        reads = reads_dropped held id kept.facts.reads;
      }

      pub kept_dropped : (m : Holds) → HoldLess l m id → Differ b.commits → (left : ℕ) → left ≡ bytes_of (without id b.commits) → IsKept j dropped m s moment left
      kept_dropped m holds differ left is = record {
        facts = subst PastFacts (sym after_reject) facts_dropped;
        shows = kept.shows;
        stand = all_dropped (Stands (whole j.history)) b.commits id kept.stand;
        room = let r = kept.room in let f = fewer_dropped b.commits id in omega arith;
        locks = held_dropped l m b.commits id differ holds kept.locks;
        waiting = is;
      }

  -- ---- whom a commit waits for

  pub behind_board : (p : Past) → held ≡ p → (ws : List Write) (by : ℕ) (told : Option ℕ) → times_in by (batches p.unreleased) ≡ 0 → IsLeastOther (λ i. IsTrue (list_any (λ w. writes_name i (written_name w) b.commits) ws)) by told → told ≡ behind p ws
  behind_board p view ws by told none is =
      behind_written (whole j.history) b.commits kept.stand ws by told (ap (λ (q : Past). times_in by (batches q.unreleased)) view ∙ none) is ∙ ap (λ q. behind q ws) view

  -- ---- a release

  pub out_of_board : let_out_of b.commits ≡ let_out held
  out_of_board = lets_out b.commits s.absorbed b.last kept.facts.unreleased

  pub numbered_board : Differ b.commits → AreNumbered b.commits
  numbered_board differ = are_numbered (whole j.history) b.commits kept.stand differ

  pub go_on_board : GoOn j.history b.commits
  go_on_board = go_on b.commits j.history s.absorbed b.last kept.facts.history.ends kept.facts.unreleased

  module _ (law : ChangesOfTheLast) (to : ℤ) (cs : List TimedChange) (free : to ≡ board_free_to b.last b.commits) (is : cs ≡ changes_of b.commits) where
    to_is : to ≡ free_to b.last (all_unreleased b.commits)
    to_is = free ∙ free_there (whole j.history) b.last b.commits kept.stand

    goes : AreNext s.chains (changes_of b.commits) × Brings j.history (changes_of b.commits) (all_history j.history b.commits)
    goes = go_in law b.commits j.history s.chains kept.stand kept.facts.names kept.shows.versions.newest

    pub fits_board : Fits s (next_release s to cs)
    fits_board =
        subst (λ x. Fits s (next_release s to x)) (sym is)
        (record {
          begins = refl;
          times = subst (λ x. TimesRise s.absorbed x (changes_of b.commits)) (sym to_is) (times_rise (whole j.history) b.commits s.absorbed b.last kept.stand kept.facts.unreleased);
          next = goes.0;
        })

    module _ (k : Recorded) (c : Posted Unreleased Accepted) (t : Stored) (left_bytes : ℕ) (history : k.history ≡ all_history j.history b.commits) (board : c ≡ record b { commits = kept_on_board b.commits })
        (brought : t ≡ absorbed s (next_release s to cs)) where
      abbrev there : Past
      there = record held { history = all_history j.history b.commits; unreleased = all_unreleased (kept_on_board b.commits); released = free_to b.last (all_unreleased b.commits) }

      there_is : past_of k.history c t moment ≡ there
      there_is = λ i. record there {
        history = history i;
        unreleased = all_unreleased (board i).commits;
        last = (board i).last;
        released = (ap (λ (x : Stored). x.absorbed) brought ∙ to_is) i;
        floor = (ap (λ (x : Stored). x.chains.floor) brought ∙ floor_all s.chains cs) i;
        shards = ap (λ (x : Stored). x.shards) brought i;
      }

      released_is : there ≡ past_released held
      released_is =
          let m = moves b.commits s.absorbed b.last kept.facts.unreleased j.history in
          λ i. record there { history = sym m.0 i; unreleased = sym m.1 i }

      pub after_release : past_of k.history c t moment ≡ past_released held
      after_release = there_is ∙ released_is

      pub brings_more : BringsMore held (past_of k.history c t moment)
      brings_more =
          let later = later_all (changes_of b.commits) s.absorbed s.absorbed (free_to b.last (all_unreleased b.commits)) (omega (arith, ints))
          (times_rise (whole j.history) b.commits s.absorbed b.last kept.stand kept.facts.unreleased) in
          record {
            commits = changes_of b.commits;
            brought = subst (Brings j.history (changes_of b.commits)) (sym history) goes.1;
            later = later.0;
            released = subst (λ x. s.absorbed ≤ℤ x) (sym (ap (λ (x : Stored). x.absorbed) brought ∙ to_is)) later.1;
          }

      pub kept_released : ((f g : List Batch) → Shows f s → Brings f cs g → Shows g t) → length c.commits ≤ k.room → (m : Holds) → AreHeld m c.commits → left_bytes ≡ bytes_of c.commits → IsKept k c m t moment left_bytes
      kept_released shows room m locks waiting = record {
        facts = subst PastFacts (sym after_release) (past_kept_at_release held kept.facts);
        shows = subst (λ h. Shows h t) (sym history) (shows j.history (all_history j.history b.commits) kept.shows (subst (λ x. Brings j.history x (all_history j.history b.commits)) (sym is) goes.1));
        stand = subst (λ h. AllByRecursion (Stands (whole h)) c.commits) (sym history)
            (subst (λ (x : Posted Unreleased Accepted). AllByRecursion (Stands (whole (all_history j.history b.commits))) x.commits) (sym board) (stand_left b.commits j.history kept.stand kept.facts.names));
        room = room;
        locks = locks;
        waiting = waiting;
      }
