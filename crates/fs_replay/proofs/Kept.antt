-- What each thing that a line is made of keeps, a line keeps.
use Rattle.std.proofs.Common.{◌≡◌, ℕ, ℤ, ◌+◌, suc, zero, Bool, true, false, cond, List, [], ◌∷◌, Option, Some, None, Result, Ok, Err, refl, sym, subst}
use Rattle.std.specs.Prelude.{◌&&◌, ⊤, codes, length, slice_get, is_some}
use Rattle.std.specs.FinMap.{entries}
use Rattle.fs_json.specs.declared.bad.Bad.{Bad}
use Rattle.fs_rpc.specs.declared.envelope.SessionRequest.{SessionRequest}
use Rattle.fs_request.specs.declared.request.Envelope.{Envelope}
use Rattle.fs_request.specs.declared.request.Request.{Request}
use Rattle.fs_status.specs.Refusal.{at_limit}
use Rattle.fs_status.specs.declared.refusal.Refusal.{Refusal}
use Rattle.fs_listen.specs.Cuts.{first_loading}
use Rattle.fs_machine.specs.Compact.{compacted}
use Rattle.fs_machine.specs.Event.{Event}
use Rattle.fs_machine.specs.Leave.{departed}
use Rattle.fs_machine.specs.Listen.{listening_of}
use Rattle.fs_machine.specs.Load.{loaded}
use Rattle.fs_machine.specs.Match.{matched}
use Rattle.fs_machine.specs.Open.{is_full, with_session}
use Rattle.fs_machine.specs.Outbox.{taken}
use Rattle.fs_machine.specs.Raise.{raised}
use Rattle.fs_machine.specs.Request.{asked}
use Rattle.fs_machine.specs.Retry.{retried}
use Rattle.fs_machine.specs.Pending.{next_pending}
use Rattle.fs_machine.specs.Settle.{pending_of, settled}
use Rattle.fs_machine.specs.State.{Machine}
use Rattle.fs_machine.specs.Tick.{later, ticked}
use Rattle.fs_machine.specs.declared.parked_request.ParkedRequest.{ParkedRequest}
use Rattle.fs_machine.proofs.Listening.{beside_listening, loaded_rest, raised_rest}
use Rattle.fs_replay.specs.Directory.{number_of, without}
use Rattle.fs_replay.specs.Outboxes.{drained}
use Rattle.fs_replay.specs.Played.{Played, followed_by, happens, nothing}
use Rattle.fs_replay.specs.Settling.{closed, did_something, emptied, left_to_do, loads_each, loads_from, loads_next, loads_of, loads_one, matches_all, matches_from, place_after, raises_each, serves, settles, settles_if, settles_next, settling, tells, tries, tries_all, tries_from, tries_if, tries_it, turn, turns, unloaded_count}
use Rattle.fs_replay.specs.Step.{asks, asks_if, does_not_apply, in_session, leaves, line_played, named, named_if}
use Rattle.fs_replay.specs.declared.directory.Named.{Named}
use Rattle.fs_replay.specs.declared.request.Line.{Line}
use Rattle.fs_replay.specs.declared.request.Line.TheVariants as line
use Rattle.fs_replay.specs.declared.state.State.{State}
use Rattle.fs_replay.proofs.Hands.{HoldsByHand, loads_hold, matches_hold, raises_hold}
use Rattle.fs_replay.proofs.Known.{has_number, known, knows_it}

-- ---- where a line closes

-- kept where a commit is settled, and where a request is tried again, with the outboxes emptied
pub record Closes (J : State → Type 0) : Type 0 where
  pub by_settling : (s : State) (id : ℕ) → J s → J (settles s id).state
  pub by_trying : (s : State) (place : ℕ) (r : ParkedRequest) → slice_get s.server.parked place ≡ Some r → J s → J (tries_it s place r).state

module _ (J : State → Type 0) (closes : Closes J) where
  next_kept : (s : State) (next : Option ℕ) → J s → J (settles_if s next).state
  next_kept s None j = j
  next_kept s (Some id) j = closes.by_settling s id j

  if_kept : (s : State) (place : ℕ) (found : Option ParkedRequest) → slice_get s.server.parked place ≡ found → J s → J (tries_if s place found).state
  if_kept s place None is j = j
  if_kept s place (Some r) is j = closes.by_trying s place r is j

  pub from_kept : (n place : ℕ) (s : State) → J s → J (tries_from n place s).state
  from_kept zero place s j = j
  from_kept (suc n) place s j = from_kept n (place_after s.server place) (tries s place).state (if_kept s place (slice_get s.server.parked place) refl j)

  pub all_tried_kept : (s : State) → J s → J (tries_all s).state
  all_tried_kept s j = from_kept (length s.server.parked) 0 s j

  pub turn_kept : (s : State) → J s → J (turn s).state
  turn_kept s j = all_tried_kept (settles_next s).state (next_kept s (next_pending s.server.past) j)

  behind_kept : (n : ℕ) (t : State) (b : Bool) → J t → ((t : State) → J t → J (turns n t).state) → J (cond b (turns n t) (nothing t)).state
  behind_kept n t true j more = more t j
  behind_kept n t false j more = j

  pub turns_kept : (n : ℕ) (s : State) → J s → J (turns n s).state
  turns_kept zero s j = j
  turns_kept (suc n) s j = let t = (turn s).state in behind_kept n t (did_something s t) (turn_kept s j) (turns_kept n)

-- ---- where sessions are served

abbrev pub with_server : State → Machine → State
with_server s m = record s { server = m }

-- a session is raised, and its messages are taken
abbrev pub raises_one : Named → State → Played
raises_one n s = followed_by (happens s (Event.raising n.number) []) (tells n)

-- kept where a target is loaded and where a session is raised, each with its messages taken, and where a shard is matched
pub record Serves (J : State → Type 0) : Type 0 where
  pub by_loading : (s : State) (n : Named) (id : ℕ) → J s → J (loads_one n id s).state
  pub by_matching : (s : State) (shard : ℕ) (to : ℤ) → J s → J (with_server s (matched s.server shard to))
  pub by_raising : (s : State) (n : Named) → J s → J (raises_one n s).state

module _ (J : State → Type 0) (loading : (s : State) (n : Named) (id : ℕ) → J s → J (loads_one n id s).state) where
  load_kept : (n : Named) (s : State) (others : State → Played) (next : Option ℕ) → ((t : State) → J t → J (others t).state) → J s → J (loads_next n s others next).state
  load_kept n s others None more j = j
  load_kept n s others (Some id) more j = more (loads_one n id s).state (loading s n id j)

  pub loads_kept : (k : ℕ) (n : Named) (s : State) → J s → J (loads_from k n s).state
  loads_kept zero n s j = j
  loads_kept (suc k) n s j = load_kept n s (loads_from k n) (first_loading (entries (listening_of s.server n.number).targets)) (loads_kept k n) j

  pub all_loaded_kept : (ns : List Named) (s : State) → J s → J (loads_each ns s).state
  all_loaded_kept [] s j = j
  all_loaded_kept (n ∷ ns) s j = all_loaded_kept ns (loads_of n s).state (loads_kept (unloaded_count s.server n.number) n s j)

module _ (J : State → Type 0) (matching : (s : State) (shard : ℕ) (to : ℤ) → J s → J (with_server s (matched s.server shard to))) where
  pub matches_kept : (k shard : ℕ) (s : State) → J s → J (matches_from k shard s).state
  matches_kept zero shard s j = j
  matches_kept (suc k) shard s j =
      matches_kept k (shard + 1) (with_server s (matched s.server shard s.server.past.released)) (matching s shard s.server.past.released j)

module _ (J : State → Type 0) (raising : (s : State) (n : Named) → J s → J (raises_one n s).state) where
  pub all_raised_kept : (ns : List Named) (s : State) → J s → J (raises_each ns s).state
  all_raised_kept [] s j = j
  all_raised_kept (n ∷ ns) s j = all_raised_kept ns (raises_one n s).state (raising s n j)

pub serves_kept : (J : State → Type 0) → Serves J → (s : State) → J s → J (serves s).state
serves_kept J serving s j =
    let loaded_all = (loads_each s.directory s).state in
    let matched_up = (matches_all loaded_all).state in
    all_raised_kept J serving.by_raising matched_up.directory matched_up
    (matches_kept J serving.by_matching loaded_all.server.config.shards 0 loaded_all (all_loaded_kept J serving.by_loading s.directory s j))

-- ---- by each event

-- kept where messages are taken, a target is loaded, a shard is matched, and a session is raised
pub record KeepsServing (J : State → Type 0) : Type 0 where
  pub by_taking : (s : State) (number : ℕ) → J s → J (with_server s (taken s.server number))
  pub by_loading : (s : State) (number target : ℕ) (at : Option ℤ) → J s → J (with_server s (loaded s.server number target at))
  pub by_matching : (s : State) (shard : ℕ) (to : ℤ) → J s → J (with_server s (matched s.server shard to))
  pub by_raising : (s : State) (number : ℕ) → J s → J (with_server s (raised s.server number))

-- what doesn't hang on what sessions listen to and on their outboxes is
pub keeps_beside : (J : State → Type 0) → ((s : State) (n : Machine) → J s → J (with_server s (beside_listening s.server n))) → KeepsServing J
keeps_beside J beside = record {
  by_taking = λ s number j. beside s (taken s.server number) j;
  by_loading = λ s number target at j.
      let n = loaded s.server number target at in subst (λ (k : Machine). J (with_server s k)) (sym (loaded_rest s.server number target at)) (beside s n j);
  by_matching = λ s shard to j. beside s (matched s.server shard to) j;
  by_raising = λ s number j. let n = raised s.server number in subst (λ (k : Machine). J (with_server s k)) (sym (raised_rest s.server number)) (beside s n j);
}

pub keeps_serves : (J : State → Type 0) → KeepsServing J → Serves J
keeps_serves J keeps = record {
  by_loading = λ s n id j. keeps.by_taking (with_server s (loaded s.server n.number id None)) n.number (keeps.by_loading s n.number id None j);
  by_matching = keeps.by_matching;
  by_raising = λ s n j. keeps.by_taking (with_server s (raised s.server n.number)) n.number (keeps.by_raising s n.number j);
}

-- and where a commit is settled, and a request is tried again
pub record Keeps (J : State → Type 0) : Type 0 where
  pub by_settling : (s : State) (id : ℕ) → J s → J (with_server s (settled s.server id))
  pub by_retrying : (s : State) (place : ℕ) (r : ParkedRequest) → slice_get s.server.parked place ≡ Some r → J s → J (with_server s (retried s.server place))
  pub serving : KeepsServing J

module _ (J : State → Type 0) (keeps : Keeps J) where
  drained_kept : (ns : List Named) (s : State) → J s → J (with_server s (drained ns s.server))
  drained_kept [] s j = j
  drained_kept (n ∷ ns) s j = drained_kept ns (with_server s (taken s.server n.number)) (keeps.serving.by_taking s n.number j)

  pub emptied_kept : (s : State) → J s → J (emptied s).state
  emptied_kept s j = drained_kept s.directory s j

  pub keeps_closes : Closes J
  keeps_closes = record {
    by_settling = λ s id j. emptied_kept (with_server s (settled s.server id)) (keeps.by_settling s id j);
    by_trying = λ s place r is j. emptied_kept (with_server s (retried s.server place)) (keeps.by_retrying s place r is j);
  }

  pub settling_kept : (s : State) → J s → J (settling s).state
  settling_kept s j = turns_kept J keeps_closes (left_to_do s.server) s j

  unless_kept : (s : State) (manual : Bool) → J s → J (cond manual (nothing s) (followed_by (settling s) serves)).state
  unless_kept s true j = j
  unless_kept s false j = serves_kept J (keeps_serves J keeps.serving) (settling s).state (settling_kept s j)

  pub closed_kept : (s : State) → J s → J (closed s).state
  closed_kept s j = let t = (emptied s).state in unless_kept t t.manual (emptied_kept s j)

-- ---- by a request, and by a line

-- with one session more, which the script knows
abbrev pub with_one : State → List ℕ → State
with_one s name = named (with_server s (with_session s.server)) name s.server.numbers.sessions

-- the state after the session of a name and a number left
abbrev pub departed_by : State → ℕ → List ℕ → State
departed_by s number name = record s { server = departed s.server number; directory = without name s.directory }

-- the state after the clock went on to a moment
abbrev pub ticked_by : State → ℤ → State
ticked_by s now = record s { server = ticked s.server now; moment = now }

-- kept where a session opens, and where such a request is asked
pub record KeepsAsking (J : State → Type 0) (May : Request → Type 0) : Type 0 where
  pub by_opening : (s : State) (name : List ℕ) → J s → J (with_one s name)
  pub by_asking : (s : State) (number : ℕ) (e : Envelope) → has_number number s.directory ≡ true → May e.request → J s → J (with_server s (asked s.server number e))

-- kept by all that a line is made of, where only such requests are asked
pub record KeepsAll (J : State → Type 0) (May : Request → Type 0) : Type 0 where
  pub closes : Keeps J
  pub asking : KeepsAsking J May
  pub by_leaving : (s : State) (number : ℕ) (name : List ℕ) → number_of name s.directory ≡ Some number → J s → J (departed_by s number name)
  pub by_ticking : (s : State) (now : ℤ) → J s → J (ticked_by s now)
  pub by_compacting : (s : State) (to : ℤ) → J s → J (with_server s (compacted s.server to))
  pub by_hand : (s : State) (on : Bool) → J s → J (record s { manual = on })

abbrev pub MayRead : (Request → Type 0) → Result Request Bad → Type 0
MayRead May (Ok request) = May request
MayRead May (Err bad) = ⊤

abbrev pub MayAsk : (Request → Type 0) → Line → Type 0
MayAsk May line.Empty = ⊤
MayAsk May line.NotBuilt = ⊤
MayAsk May (line.Refused reason) = ⊤
MayAsk May (line.Asked a) = MayRead May a.request
MayAsk May (line.Clock time) = ⊤
MayAsk May (line.Compact time) = ⊤
MayAsk May (line.Leave name) = ⊤
MayAsk May (line.Manual on) = ⊤
MayAsk May (line.Settle id) = ⊤
MayAsk May line.Retry = ⊤
MayAsk May (line.Load name target at) = ⊤
MayAsk May (line.Match shard) = ⊤
MayAsk May (line.Raise name) = ⊤

module _ (J : State → Type 0) (May : Request → Type 0) (keeps : KeepsAsking J May) where
  asks_kept : (s : State) (name : List ℕ) (number : ℕ) (id : Option (List ℕ)) (r : Result Request Bad) → has_number number s.directory ≡ true → MayRead May r → J s → J (asks s name number id r).state
  asks_kept s name number id (Ok request) known may j = keeps.by_asking s number (record { id = id; request = request }) known may j
  asks_kept s name number id (Err bad) known may j = j

  -- unless as many sessions are open as may be
  opening_kept : (s : State) (a : SessionRequest) (full : Bool) (refusal : Refusal) → MayRead May a.request → J s
      → J (asks_if (named_if (with_server s (cond full s.server (with_session s.server))) a.session (cond full (Err refusal) (Ok s.server.numbers.sessions))) a (cond full (Err refusal) (Ok s.server.numbers.sessions))).state
  opening_kept s a true refusal may j = j
  opening_kept s a false refusal may j =
      let number = s.server.numbers.sessions in
      asks_kept (with_one s a.session) a.session number a.id a.request (knows_it s.directory a.session number) may (keeps.by_opening s a.session j)

  session_kept : (s : State) (a : SessionRequest) (number : Option ℕ) → number_of a.session s.directory ≡ number → MayRead May a.request → J s → J (in_session s a number).state
  session_kept s a None is may j = opening_kept s a (is_full s.server) (at_limit (codes "sessions") s.server.limits.sessions) may j
  session_kept s a (Some number) is may j = asks_kept s a.session number a.id a.request (known s.directory a.session number is) may j

  -- a request, before its line is closed
  pub asked_kept : (s : State) (a : SessionRequest) → MayRead May a.request → J s → J (in_session s a (number_of a.session s.directory)).state
  asked_kept s a may j = session_kept s a (number_of a.session s.directory) refl may j

module _ (J : State → Type 0) (May : Request → Type 0) (keeps : KeepsAll J May) where
  leaves_kept : (s : State) (n : ℕ) (name : List ℕ) (number : Option ℕ) → number_of name s.directory ≡ number → J s → J (leaves s n name number).state
  leaves_kept s n name None is j = j
  leaves_kept s n name (Some number) is j = closed_kept J keeps.closes (departed_by s number name) (keeps.by_leaving s number name is j)

  settle_kept : (s : State) (n id : ℕ) (b : Bool) → J s → J (cond b (settles s id) (does_not_apply s n)).state
  settle_kept s n id true j = (keeps_closes J keeps.closes).by_settling s id j
  settle_kept s n id false j = j

  retry_kept : (s : State) (n : ℕ) (b : Bool) → J s → J (cond b (tries_all s) (does_not_apply s n)).state
  retry_kept s n true j = all_tried_kept J (keeps_closes J keeps.closes) s j
  retry_kept s n false j = j

  abbrev KeptBy : Played → Type 0
  KeptBy p = J p.state

  by_hand_kept : (s : State) → J s → HoldsByHand KeptBy s
  by_hand_kept s j = record {
    stays = λ bytes. j;
    loading = λ number target at bytes manual. emptied_kept J keeps.closes (with_server s (loaded s.server number target at)) (keeps.closes.serving.by_loading s number target at j);
    matching = λ shard to manual. emptied_kept J keeps.closes (with_server s (matched s.server shard to)) (keeps.closes.serving.by_matching s shard to j);
    raising = λ number manual. emptied_kept J keeps.closes (with_server s (raised s.server number)) (keeps.closes.serving.by_raising s number j);
  }

  pub line_kept : (s : State) (n : ℕ) (l : Line) → MayAsk May l → J s → J (line_played s n l).state
  line_kept s n line.Empty may j = j
  line_kept s n line.NotBuilt may j = j
  line_kept s n (line.Refused reason) may j = j
  line_kept s n (line.Asked a) may j = closed_kept J keeps.closes (in_session s a (number_of a.session s.directory)).state (asked_kept J May keeps.asking s a may j)
  line_kept s n (line.Clock time) may j = closed_kept J keeps.closes (ticked_by s (later s.moment time)) (keeps.by_ticking s (later s.moment time) j)
  line_kept s n (line.Compact time) may j = closed_kept J keeps.closes (with_server s (compacted s.server time)) (keeps.by_compacting s time j)
  line_kept s n (line.Leave name) may j = leaves_kept s n name (number_of name s.directory) refl j
  line_kept s n (line.Manual on) may j = closed_kept J keeps.closes (record s { manual = on }) (keeps.by_hand s on j)
  line_kept s n (line.Settle id) may j = settle_kept s n id (s.manual && is_some (pending_of s.server.past id)) j
  line_kept s n line.Retry may j = retry_kept s n s.manual j
  line_kept s n (line.Load name target at) may j = loads_hold KeptBy s n (by_hand_kept s j) name target at
  line_kept s n (line.Match shard) may j = matches_hold KeptBy s n (by_hand_kept s j) shard
  line_kept s n (line.Raise name) may j = raises_hold KeptBy s n (by_hand_kept s j) name
