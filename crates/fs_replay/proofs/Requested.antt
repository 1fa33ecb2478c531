-- What follows from a request once its line is closed: what it leaves of what was committed, and how many lines it gives.
use Rattle.std.proofs.Common.{◌≡◌, ◌⊎◌, inl, inr, ℕ, Bool, true, false, List, [], ◌∷◌, ◌++◌, Result, Ok, Err, refl, sym, ap, ◌∙◌, subst, arith}
use Rattle.std.specs.Prelude.{pos, ◌+ℤ◌, ◌&&◌, not}
use Rattle.std.specs.List.{AllByRecursion}
use Rattle.std.proofs.lemmas.List.{append-nil}
use Rattle.fs_json.specs.declared.bad.Bad.{Bad}
use Rattle.fs_rpc.specs.declared.envelope.SessionRequest.{SessionRequest}
use Rattle.fs_request.specs.declared.request.Request.{Request}
use Rattle.fs_machine.specs.Commit.{next_commit}
use Rattle.fs_machine.specs.Past.{Past}
use Rattle.fs_machine.specs.Request.{arrival_refusal, arrived, asked}
use Rattle.fs_machine.specs.State.{Machine}
use Rattle.fs_machine.specs.declared.parked_request.ParkedRequest.{ParkedRequest}
use Rattle.fs_machine.specs.StreamsHold.{answers as is_of, is_for, one_if, tally, under_way}
use Rattle.fs_machine.specs.declared.session.Session.{Session}
use Rattle.fs_machine.specs.declared.unreleased.Unreleased.{Unreleased}
use Rattle.fs_machine.proofs.Carried.{AreKept, asked_kept as asked_sessions}
use Rattle.fs_stream.specs.Stands.{Stands as StreamsStand}
use Rattle.fs_stream.specs.Streams.{stream_of}
use Rattle.fs_replay.specs.Directory.{number_of}
use Rattle.fs_replay.specs.BetweenLines.{HasNothing, IsBetweenLines, IsHeldStill, IsSettled}
use Rattle.fs_replay.specs.Commits.{is_commit}
use Rattle.fs_replay.specs.Lines.{IsOneLine, ends_one, ends_read, keeps_waiting, may_let_on, nobody_listens, none_waits}
use Rattle.fs_replay.specs.Played.{Played, followed_by}
use Rattle.fs_replay.specs.Settling.{closed}
use Rattle.fs_replay.specs.Step.{in_session}
use Rattle.fs_replay.specs.declared.request.Line.TheVariants as line
use Rattle.fs_replay.specs.declared.state.State.{State}
use Rattle.fs_replay.proofs.Asking.{Answers, Comes, Waits, answers, comes, prepares, repeats, waits}
use Rattle.fs_replay.proofs.Closing.{closed_by_hand, closed_last, closed_one_line, closed_quiet, closed_settled}
use Rattle.fs_replay.proofs.Each.{all_more}
use Rattle.fs_replay.proofs.Ended.{settled_by_none, stands_between}
use Rattle.fs_replay.proofs.Kept.{KeepsAsking, MayRead, asked_kept}
use Rattle.fs_replay.proofs.Nobody.{serves_listens}
use Rattle.fs_replay.proofs.Readers.{ReadsOn, asked_reads, reads_same, reads_then}
use Rattle.fs_replay.proofs.Beside.{Empty}
use Rattle.fs_replay.proofs.Quiet.{serves_nothing}
use Rattle.fs_replay.proofs.Standing.{Any, Stands, any_read, stands_asking}
use Rattle.fs_replay.proofs.Staying.{AllKept, AllStay, StaysOn, all_held, all_kept_then, all_stay, all_stay_then, kept_none, stays_then}
use Rattle.fs_replay.proofs.Waiting.{nothing_more, nothing_owning}

pub never : {A : Type 0} → true ≡ false → A
never e = absurd (cc)

-- ---- a request, before its line is closed

-- the sessions but for the one that may open have what they had
nothing_kept : (ss other : List Session) (number : ℕ) → AreKept number ss other → AllByRecursion HasNothing ss → AllByRecursion HasNothing other
nothing_kept ss other number (inl is) empty = subst (AllByRecursion HasNothing) (sym is) empty
nothing_kept ss other number (inr is) empty = subst (AllByRecursion HasNothing) (sym is) (nothing_owning ss number empty)

empty_asking : KeepsAsking Empty Any
empty_asking = record {
  by_opening = λ s name empty. nothing_more s.server.sessions s.server.numbers.sessions empty;
  by_asking = λ s number e knows may empty.
      let r = arrived s.server number e in
      nothing_kept s.server.sessions (asked s.server number e).sessions r.session (asked_sessions s.server r (arrival_refusal s.server number e.request)) empty;
}

manual_asking : (manual : Bool) → KeepsAsking (λ s. s.manual ≡ manual) Any
manual_asking manual = record { by_opening = λ s name is. is; by_asking = λ s number e knows may is. is }

-- no transaction ends
abbrev EndsNone : Request → Type 0
EndsNone q = ends_one q ≡ false

reads_asking : (m : Machine) → KeepsAsking (λ s. ReadsOn m s.server) EndsNone
reads_asking m = record {
  by_opening = λ s name on. record { config = on.config; limits = on.limits; reads = on.reads };
  by_asking = λ s number e knows may on. reads_then m s.server (asked s.server number e) on (asked_reads s.server number e may);
}

ends_none : (r : Result Request Bad) → ends_read r ≡ false → MayRead EndsNone r
ends_none (Ok request) ends = ends
ends_none (Err bad) ends = tt

pub no_one : (rs : List ParkedRequest) → none_waits rs ≡ true → rs ≡ []
no_one [] is = refl
no_one (r ∷ rs) is = never (sym is)

-- no transaction ends, or nothing waits
lets_none : (ends : Bool) (rs : List ParkedRequest) → (ends && not (none_waits rs)) ≡ false → (ends ≡ false) ⊎ (rs ≡ [])
lets_none false rs is = inl refl
lets_none true [] is = inr refl
lets_none true (r ∷ rs) is = never is

lets_by : (s : State) (a : SessionRequest) → may_let_on s (line.Asked a) ≡ false → s.manual ≡ false → (ends_read a.request ≡ false) ⊎ (s.server.parked ≡ [])
lets_by s a lets manual = lets_none (ends_read a.request) s.server.parked (sym (ap (λ b. not b && (ends_read a.request && not (none_waits s.server.parked))) manual) ∙ lets)

some_more : (rs : List ParkedRequest) (r : ParkedRequest) → rs ++ r ∷ [] ≡ [] → ⊥
some_more [] r none = cc
some_more (q ∷ rs) r none = cc

module _ (s : State) (a : SessionRequest) (b : IsBetweenLines s) where
  abbrev played : Played
  played = in_session s a (number_of a.session s.directory)

  abbrev asked_state : State
  asked_state = played.state

  stands : Stands asked_state
  stands = asked_kept Stands Any stands_asking s a (any_read a.request) (stands_between s b)

  empty : Empty asked_state
  empty = asked_kept Empty Any empty_asking s a (any_read a.request) b.empty

  same_manual : (manual : Bool) → s.manual ≡ manual → asked_state.manual ≡ manual
  same_manual manual is = asked_kept (λ (t : State). t.manual ≡ manual) Any (manual_asking manual) s a (any_read a.request) is

  reads : ends_read a.request ≡ false → ReadsOn s.server asked_state.server
  reads ends = asked_kept (λ (t : State). ReadsOn s.server t.server) EndsNone (reads_asking s.server) s a (ends_none a.request ends) (reads_same s.server)

  -- what waits between lines is kept by transactions
  stay : s.manual ≡ false → AllStay s.server s.server.parked
  stay manual = all_stay s.server s.server.parked (b.settled manual).released (b.settled manual).held

  abbrev commits : Bool
  commits = is_commit s (line.Asked a)

  -- no two sessions own one stream
  streams : StreamsStand s.server.streams
  streams = b.facts.streams.stands

  abbrev EndsNoneOrNoneWaits : Type 0
  EndsNoneOrNoneWaits = (ends_read a.request ≡ false) ⊎ (s.server.parked ≡ [])

  -- ---- what was committed stays, but for a commit

  idle_then : s.manual ≡ false → asked_state.server.past ≡ s.server.past → asked_state.server.past.unreleased ≡ []
  idle_then manual past = ap (λ (p : Past). p.unreleased) past ∙ (b.settled manual).released

  quiet_settled : s.manual ≡ false → asked_state.server.past ≡ s.server.past → asked_state.server.parked ≡ s.server.parked → EndsNoneOrNoneWaits → IsSettled asked_state.server
  quiet_settled manual past parked (inl ends) =
      let held = all_held asked_state.server s.server.parked (all_stay_then s.server asked_state.server s.server.parked (reads ends) past (stay manual)) in
      record { released = idle_then manual past; held = subst (AllByRecursion (IsHeldStill asked_state.server)) (sym parked) held }
  quiet_settled manual past parked (inr none) = settled_by_none asked_state.server (idle_then manual past) (parked ∙ none)

  still_settled : s.manual ≡ false → Answers s commits played → EndsNoneOrNoneWaits → IsSettled asked_state.server
  still_settled manual it lets = quiet_settled manual it.past it.parked lets

  -- with one more that waits
  one_more : s.manual ≡ false → Waits s commits played → IsSettled asked_state.server
  one_more manual it =
      let idle = (b.settled manual).released in
      let m = asked_state.server in
      let q = it.request.envelope.request in
      let others = all_stay_then s.server m s.server.parked it.reads it.past (stay manual) in
      let it_stays = stays_then s.server m q it.reads it.past (record { kept = it.kept idle; room = it.room }) in
      let all = all_more (λ (r : ParkedRequest). StaysOn m r.envelope.request) s.server.parked it.request others it_stays in
      record { released = idle_then manual it.past; held = subst (AllByRecursion (IsHeldStill m)) (sym it.parked) (all_held m (s.server.parked ++ it.request ∷ []) all) }

  settled_then : Comes s commits played → commits ≡ false → s.manual ≡ false → EndsNoneOrNoneWaits → IsSettled asked_state.server
  settled_then (answers it) other manual lets = still_settled manual it lets
  settled_then (repeats it) other manual lets = quiet_settled manual it.past it.parked lets
  settled_then (waits it) other manual lets = one_more manual it
  settled_then (prepares it) other manual lets = never (sym it.yes ∙ other)

  same_past : Comes s commits played → commits ≡ false → asked_state.server.past ≡ s.server.past
  same_past (answers it) other = it.past
  same_past (repeats it) other = it.past
  same_past (waits it) other = it.past
  same_past (prepares it) other = never (sym it.yes ∙ other)

  pub asked_unmoved : commits ≡ false → may_let_on s (line.Asked a) ≡ false → (closed asked_state).state.server.past ≡ s.server.past
  asked_unmoved other lets =
      let settled : asked_state.manual ≡ false → IsSettled asked_state.server = λ off.
      let manual = sym (same_manual s.manual refl) ∙ off in settled_then (comes s a streams) other manual (lets_by s a lets manual) in
      ap (λ (t : State). t.server.past) (closed_quiet asked_state empty settled) ∙ same_past (comes s a streams) other

  -- ---- a commit gets the next time

  prepared_last : Comes s commits played → commits ≡ true → asked_state.server.past.last ≡ (s.server.past.last +ℤ pos 1)
  prepared_last (answers it) made = never (sym made ∙ it.no)
  prepared_last (repeats it) made = never (sym made ∙ it.no)
  prepared_last (waits it) made = never (sym made ∙ it.no)
  prepared_last (prepares it) made = ap (λ (p : Past). p.last) it.past

  prepared_parked : Comes s commits played → commits ≡ true → asked_state.server.parked ≡ s.server.parked
  prepared_parked (answers it) made = it.parked
  prepared_parked (repeats it) made = it.parked
  prepared_parked (waits it) made = never (sym made ∙ it.no)
  prepared_parked (prepares it) made = it.parked

  -- and those that wait are kept still
  still_kept : s.manual ≡ false → asked_state.server.parked ≡ s.server.parked → EndsNoneOrNoneWaits → AllKept asked_state.server asked_state.server.parked
  still_kept manual same (inl ends) =
      subst (AllKept asked_state.server) (sym same) (all_kept_then s.server asked_state.server s.server.parked (reads ends) (stay manual))
  still_kept manual same (inr none) = subst (AllKept asked_state.server) (sym (same ∙ none)) tt

  same_last : (manual : Bool) → s.manual ≡ manual → commits ≡ true → may_let_on s (line.Asked a) ≡ false → (closed asked_state).state.server.past.last ≡ asked_state.server.past.last
  same_last true manual made lets = ap (λ (p : Played). p.state.server.past.last) (closed_by_hand asked_state empty (same_manual true manual))
  same_last false manual made lets = closed_last asked_state (still_kept manual (prepared_parked (comes s a streams) made) (lets_by s a lets manual))

  pub asked_rises : commits ≡ true → may_let_on s (line.Asked a) ≡ false → (closed asked_state).state.server.past.last ≡ (s.server.past.last +ℤ pos 1)
  asked_rises made lets = same_last s.manual refl made lets ∙ prepared_last (comes s a streams) made

  -- ---- one line

  -- where no session has a target then
  abbrev NobodyThen : Type 0
  NobodyThen = nobody_listens (closed asked_state).state.server ≡ true

  -- no stream has a batch in progress where no commit is under way and nothing waits
  none_busy : s.manual ≡ false → s.server.parked ≡ [] → (n : ℕ) → (stream_of n s.server.streams).busy ≡ true → ⊥
  none_busy manual none n busy =
      let commits : tally (λ (u : Unreleased). is_of n u.asker) s.server.past.unreleased ≡ 0 = ap (tally (λ (u : Unreleased). is_of n u.asker)) (b.settled manual).released in
      let waits : tally (λ (r : ParkedRequest). is_for n r.stream) s.server.parked ≡ 0 = ap (tally (λ (r : ParkedRequest). is_for n r.stream)) none in
      let one : under_way n s.server.past s.server.parked ≡ 1 = b.facts.streams.one n ∙ ap one_if busy in
      omega (arith, commits, waits, one)

  told_one : s.manual ≡ false → s.server.parked ≡ [] → NobodyThen → (Waits s commits played → ⊥) → Comes s commits played → IsOneLine (followed_by played closed).output
  told_one manual none nobody held (answers it) =
      let same = closed_settled asked_state empty (same_manual false manual) (still_settled manual it (inr none)) in
      let before = sym (serves_listens asked_state) ∙ sym (ap (λ (p : Played). nobody_listens p.state.server) same) ∙ nobody in
      let silent = ap (λ (p : Played). p.output) same ∙ serves_nothing asked_state before empty in
      subst (λ o. IsOneLine (played.output ++ o)) (sym silent) (subst IsOneLine (sym (append-nil played.output)) it.line)
  told_one manual none nobody held (repeats it) = absurd (none_busy manual none it.stream it.busy)
  told_one manual none nobody held (waits it) = absurd (held it)
  told_one manual none nobody held (prepares it) =
      let u = next_commit s.server.past it.id it.request it.writes it.reads in
      let alone : asked_state.server.past.unreleased ≡ u ∷ [] = ap (λ (p : Past). p.unreleased) it.past ∙ ap (λ us. us ++ u ∷ []) (b.settled manual).released in
      let one = closed_one_line asked_state u stands empty alone refl (it.parked ∙ none) it.teller it.answered it.knows (same_manual false manual) nobody in
      subst (λ o. IsOneLine (o ++ (closed asked_state).output)) (sym it.output) one

  -- it doesn't wait where no transaction keeps any waiting, or nothing waits then
  unkept : s.manual ≡ false → keeps_waiting s.server ≡ false → Waits s commits played → ⊥
  unkept manual keeps it = kept_none s.server.config.mode s.server.txns.open it.request.envelope.request keeps (it.kept (b.settled manual).released)

  unheld : s.manual ≡ false → (closed asked_state).state.server.parked ≡ [] → Waits s commits played → ⊥
  unheld manual after it =
      let same = closed_quiet asked_state empty (λ off. one_more manual it) in
      let waits : s.server.parked ++ it.request ∷ [] ≡ [] = sym it.parked ∙ sym (ap (λ (t : State). t.server.parked) same) ∙ after in
      some_more s.server.parked it.request waits

  pub asked_one_line : s.manual ≡ false → s.server.parked ≡ [] → NobodyThen → (keeps_waiting s.server ≡ false) ⊎ ((closed asked_state).state.server.parked ≡ []) → IsOneLine (followed_by played closed).output
  asked_one_line manual none nobody (inl keeps) = told_one manual none nobody (unkept manual keeps) (comes s a streams)
  asked_one_line manual none nobody (inr after) = told_one manual none nobody (unheld manual after) (comes s a streams)
