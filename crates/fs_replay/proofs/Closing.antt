-- What closing a line comes to. Where nothing is left to settle, or the script settles by hand, it changes at most what sessions listen to;
-- where one commit is under way and nothing waits, that is settled, and told on one line; and what a transaction keeps takes no time.
use Rattle.std.proofs.Common.{◌≡◌, ℕ, Bool, true, false, cond, List, [], ◌∷◌, ◌++◌, Some, None, refl, sym, ap, ◌∙◌, subst}
use Rattle.std.specs.Prelude.{length, slice_get, ℤ}
use Rattle.std.proofs.lemmas.List.{append-nil}
use Rattle.fs_rpc.specs.MessageJson.{message_json_on}
use Rattle.fs_request.specs.declared.message.Message.{Message}
use Rattle.fs_machine.specs.Request.{Decision}
use Rattle.fs_machine.specs.Retry.{retried, retry_decision, tried}
use Rattle.fs_machine.specs.Settle.{settled}
use Rattle.fs_machine.specs.State.{Machine}
use Rattle.fs_machine.specs.declared.parked_request.ParkedRequest.{ParkedRequest}
use Rattle.fs_machine.specs.declared.unreleased.Unreleased.{Unreleased}
use Rattle.fs_replay.specs.BetweenLines.{IsServed, IsSettled}
use Rattle.fs_replay.specs.Lines.{IsOneLine, nobody_listens}
use Rattle.fs_replay.specs.Outboxes.{drained, drain_output}
use Rattle.fs_replay.specs.Played.{Played, followed_by, nothing, prints}
use Rattle.fs_replay.specs.Settling.{closed, did_something, left_to_do, serves, settles, settles_if, settling, tries_all, turn, unless_by_hand}
use Rattle.fs_replay.specs.declared.state.State.{State}
use Rattle.fs_replay.proofs.Drained.{IsToldOnce, delivering, drain_delivered, drained_delivered}
use Rattle.fs_replay.proofs.Each.{all_at, all_removed}
use Rattle.fs_replay.proofs.Ended.{empty_closing, emptied_none, settled_by_none, settled_turn}
use Rattle.fs_replay.proofs.Falling.{retried_is, settled_is, settled_last}
use Rattle.fs_replay.proofs.Kept.{Keeps, closed_kept, keeps_beside}
use Rattle.fs_replay.proofs.Known.{has_number, known_open}
use Rattle.fs_replay.proofs.Lone.{IsAnswered, Told, is_next, told_once}
use Rattle.fs_replay.proofs.Nobody.{serves_listens}
use Rattle.fs_replay.proofs.OneLine.{json_one_line}
use Rattle.fs_replay.proofs.Beside.{Empty, IsBeside, serves_beside}
use Rattle.fs_replay.proofs.Quiet.{serves_nothing, serves_same}
use Rattle.fs_replay.proofs.Shown.{shown}
use Rattle.fs_replay.proofs.Standing.{Stands}
use Rattle.fs_replay.proofs.Staying.{AllKept, IsKept, kept_waits}
use Rattle.fs_replay.proofs.Turns.{Settled, none_tried, quiet_turns, settling_step}

-- ---- where nothing is to be done

closed_from : (s : State) → Empty s → shown (closed s) ≡ shown (unless_by_hand s)
closed_from s empty = ap (λ (p : Played). shown (followed_by p unless_by_hand)) (emptied_none s empty)

pub closed_by_hand : (s : State) → Empty s → s.manual ≡ true → shown (closed s) ≡ nothing s
closed_by_hand s empty manual = closed_from s empty ∙ ap (λ b. shown (cond b (nothing s) (followed_by (settling s) serves))) manual

settling_none : (s : State) → Empty s → IsSettled s.server → shown (settling s) ≡ nothing s
settling_none s empty settled = quiet_turns s (left_to_do s.server) (settled_turn s empty settled)

closed_by_script : (s : State) → Empty s → s.manual ≡ false → shown (closed s) ≡ shown (followed_by (settling s) serves)
closed_by_script s empty manual = closed_from s empty ∙ ap (λ b. shown (cond b (nothing s) (followed_by (settling s) serves))) manual

-- sessions are served
pub closed_settled : (s : State) → Empty s → s.manual ≡ false → IsSettled s.server → shown (closed s) ≡ shown (serves s)
closed_settled s empty manual settled = closed_by_script s empty manual ∙ ap (λ (p : Played). shown (followed_by p serves)) (settling_none s empty settled)

beside_by : (s : State) (manual : Bool) → s.manual ≡ manual → Empty s → (s.manual ≡ false → IsSettled s.server) → IsBeside s (closed s).state
beside_by s true is empty settled = subst (λ (p : Played). IsBeside s p.state) (sym (closed_by_hand s empty is)) refl
beside_by s false is empty settled = subst (λ (p : Played). IsBeside s p.state) (sym (closed_settled s empty is (settled is))) (serves_beside s)

-- where nothing waits to be told, and nothing is left to settle or the script settles by hand, all stays but what sessions listen to, and
-- their outboxes
pub closed_quiet : (s : State) → Empty s → (s.manual ≡ false → IsSettled s.server) → IsBeside s (closed s).state
closed_quiet s empty settled = beside_by s s.manual refl empty settled

silent_by : (s : State) (manual : Bool) → s.manual ≡ manual → Empty s → (s.manual ≡ false → IsSettled s.server) → (s.manual ≡ false → IsServed s.server) → (closed s).output ≡ []
silent_by s true is empty settled served = ap (λ (p : Played). p.output) (closed_by_hand s empty is)
silent_by s false is empty settled served = ap (λ (p : Played). p.output) (closed_settled s empty is (settled is) ∙ serves_same s (served is) empty)

-- and where each session was told all, nothing is written
pub closed_silent : (s : State) → Empty s → (s.manual ≡ false → IsSettled s.server) → (s.manual ≡ false → IsServed s.server) → (closed s).output ≡ []
closed_silent s empty settled served = silent_by s s.manual refl empty settled served

-- ---- where one commit is under way

told_one_line : (message : Message) (output : List ℕ) → IsToldOnce message output → IsOneLine output
told_one_line message output once = subst IsOneLine (sym once.1) (json_one_line (message_json_on once.0 message))

-- nothing more is seen once it is settled
settled_behind : (t : State) (b : Bool) → Empty t → IsSettled t.server → shown (cond b (settling t) (nothing t)) ≡ nothing t
settled_behind t true empty settled = settling_none t empty settled
settled_behind t false empty settled = refl

module _ (s : State) (u : Unreleased) (stands : Stands s) (empty : Empty s) (alone : s.server.past.unreleased ≡ u ∷ []) (pending : u.results ≡ None) (parked : s.server.parked ≡ [])
    (k : ℕ) (answered : IsAnswered s.server u.asker k) (knows : has_number k s.directory ≡ true) where
  -- the server after it
  abbrev after : Machine
  after = settled s.server u.batch.id

  told : Told s.server k after
  told = told_once s.server u alone pending stands.facts.past.unreleased k answered

  -- and once it is told
  abbrev rest : State
  rest = (settles s u.batch.id).state

  -- all but the outbox of whoever is told
  abbrev behind : Machine
  behind = record s.server { past = after.past; streams = after.streams }

  rest_is : rest.server ≡ behind
  rest_is = ap (drained s.directory) told.is ∙ drained_delivered s.directory behind k told.message empty knows

  rest_parked : rest.server.parked ≡ []
  rest_parked = ap (λ (m : Machine). m.parked) rest_is ∙ parked

  rest_settled : IsSettled rest.server
  rest_settled = settled_by_none rest.server (ap (λ (m : Machine). m.past.unreleased) rest_is ∙ told.none) rest_parked

  rest_empty : Empty rest
  rest_empty = (empty_closing.by_settling s u.batch.id (stands, empty)).1

  output_one_line : IsOneLine (settles s u.batch.id).output
  output_one_line =
      let opened = known_open s.directory s.server.sessions k stands.fits.known knows in
      let once : IsToldOnce told.message (drain_output s.directory (delivering behind k told.message)) = drain_delivered s.directory behind k told.message empty opened knows in
      subst (λ (n : Machine). IsOneLine (drain_output s.directory n)) (sym told.is) (told_one_line told.message (drain_output s.directory (delivering behind k told.message)) once)

  turn_is : turn s ≡ followed_by (settles s u.batch.id) nothing
  turn_is =
      ap (λ next. followed_by (settles_if s next) tries_all) (is_next s.server u alone pending stands.facts.past.unreleased)
      ∙ ap (λ (p : Played). followed_by (settles s u.batch.id) (λ t. p)) (none_tried rest (length rest.server.parked) (ap length rest_parked))

  settling_is : shown (settling s) ≡ shown (settles s u.batch.id)
  settling_is =
      ap shown (settling_step s)
      ∙ ap (λ (p : Played). shown (followed_by p (Settled s))) turn_is
      ∙ ap (λ (p : Played). shown (followed_by (followed_by (settles s u.batch.id) nothing) (λ t. p))) (settled_behind rest (did_something s rest) rest_empty rest_settled)
      ∙ ap (λ (o : List ℕ). prints rest o) (append-nil ((settles s u.batch.id).output ++ []) ∙ append-nil (settles s u.batch.id).output)

  closed_is : s.manual ≡ false → shown (closed s) ≡ shown (followed_by (settles s u.batch.id) serves)
  closed_is manual = closed_by_script s empty manual ∙ ap (λ (p : Played). shown (followed_by p serves)) settling_is

  -- where no session has a target then
  pub closed_one_line : s.manual ≡ false → nobody_listens (closed s).state.server ≡ true → IsOneLine (closed s).output
  closed_one_line manual nobody =
      let is = closed_is manual in
      let served : nobody_listens (serves rest).state.server ≡ true = sym (ap (λ (p : Played). nobody_listens p.state.server) is) ∙ nobody in
      let silent = serves_nothing rest (sym (serves_listens rest) ∙ served) rest_empty in
      let out = (settles s u.batch.id).output in
      subst IsOneLine (sym (ap (λ (p : Played). p.output) is ∙ ap (λ (o : List ℕ). out ++ o) silent ∙ append-nil out)) output_one_line

-- ---- where whatever waits is kept by a transaction, no time is issued

pub record SameLast (time : ℤ) (s : State) : Type 0 where
  pub kept : AllKept s.server s.server.parked
  pub last : s.server.past.last ≡ time

-- none of them goes on
tried_last : (m : Machine) (place : ℕ) (r : ParkedRequest) (d : Decision) → retry_decision m r.session r.envelope.request ≡ d → IsKept m.config.mode m.txns.open r.envelope.request → AllKept m m.parked
    → AllKept (tried m place r d) (tried m place r d).parked × ((tried m place r d).past.last ≡ m.past.last)
tried_last m place r (Decision.refused refusal) is here all = (all_removed (λ (q : ParkedRequest). IsKept m.config.mode m.txns.open q.envelope.request) m.parked place all, refl)
tried_last m place r (Decision.held id) is here all = (all, refl)
tried_last m place r Decision.goes_on is here all = absurd (kept_waits m r.session r.envelope.request here is)

retried_last : (m : Machine) (place : ℕ) (r : ParkedRequest) → slice_get m.parked place ≡ Some r → AllKept m m.parked → AllKept (retried m place) (retried m place).parked × ((retried m place).past.last ≡ m.past.last)
retried_last m place r at all =
    subst (λ (n : Machine). AllKept n n.parked × (n.past.last ≡ m.past.last)) (sym (retried_is m place r at))
    (tried_last m place r (retry_decision m r.session r.envelope.request) refl (all_at (λ (q : ParkedRequest). IsKept m.config.mode m.txns.open q.envelope.request) m.parked place r at all) all)

same_last : (time : ℤ) → Keeps (SameLast time)
same_last time = record {
  by_settling = λ s id is. record { kept = subst (λ (m : Machine). AllKept m m.parked) (sym (settled_is s.server id)) is.kept; last = settled_last s.server id ∙ is.last };
  by_retrying = λ s place r at is. let both = retried_last s.server place r at is.kept in record { kept = both.0; last = both.1 ∙ is.last };
  serving = keeps_beside (SameLast time) (λ s n is. record { kept = is.kept; last = is.last });
}

pub closed_last : (s : State) → AllKept s.server s.server.parked → (closed s).state.server.past.last ≡ s.server.past.last
closed_last s kept = (closed_kept (SameLast s.server.past.last) (same_last s.server.past.last) s (record { kept = kept; last = refl })).last
