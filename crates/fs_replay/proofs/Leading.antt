-- The events of what is played lead from its server to the server then: those of each line, and so of all lines.
use Rattle.std.proofs.Common.{◌≡◌, ℕ, ℤ, ◌+◌, suc, zero, Bool, true, false, cond, List, [], ◌∷◌, ◌++◌, map, Option, Some, None, Result, Ok, Err, refl, sym, ap, ◌∙◌, subst, append_assoc}
use Rattle.std.specs.Prelude.{◌&&◌, is_some, length, slice_get}
use Rattle.std.specs.FinMap.{entries}
use Rattle.fs_json.specs.declared.bad.Bad.{Bad}
use Rattle.fs_rpc.specs.declared.envelope.SessionRequest.{SessionRequest}
use Rattle.fs_status.specs.declared.refusal.Refusal.{Refusal}
use Rattle.fs_request.specs.declared.request.Request.{Request}
use Rattle.fs_listen.specs.Cuts.{first_loading}
use Rattle.fs_machine.specs.Event.{Event, after, step}
use Rattle.fs_machine.specs.Grows.{Grows}
use Rattle.fs_machine.specs.Laws.{AlwaysGrows, AlwaysKept, AlwaysSerial}
use Rattle.fs_machine.specs.Limits.{AreAllowed}
use Rattle.fs_machine.specs.Listen.{listening_of}
use Rattle.fs_machine.specs.ListenLaws.{CutsAreConsistent, RaisesNeverFall}
use Rattle.fs_machine.specs.Open.{open_answer, opened}
use Rattle.fs_machine.specs.Outbox.{taken}
use Rattle.fs_machine.specs.Pending.{next_pending}
use Rattle.fs_machine.specs.Retry.{tried_answer}
use Rattle.fs_machine.specs.Settle.{pending_of}
use Rattle.fs_machine.specs.State.{Machine}
use Rattle.fs_machine.specs.Tick.{later}
use Rattle.fs_machine.specs.declared.config.Config.{Config}
use Rattle.fs_machine.specs.declared.limits.Limits.{Limits}
use Rattle.fs_machine.specs.declared.parked_request.ParkedRequest.{ParkedRequest}
use Rattle.fs_replay.specs.Directory.{number_of, without}
use Rattle.fs_replay.specs.Lines.{line_in_state}
use Rattle.fs_replay.specs.Outboxes.{drained}
use Rattle.fs_replay.specs.Played.{Played, followed_by, happens, nothing}
use Rattle.fs_replay.specs.Run.{CutsThroughout, GrowsThroughout, IsSerialThroughout, KeptThroughout, LinesAreEvents}
use Rattle.fs_replay.specs.Settling.{closed, did_something, emptied, left_to_do, loads_each, loads_from, loads_next, loads_of, loads_one, matches_all, matches_from, place_after, raises_each, retry_output, serves, settles, settles_if, settles_next, settling, tries, tries_all, tries_from, tries_if, turn, turns, unless_by_hand, unloaded_count}
use Rattle.fs_replay.specs.Step.{after_line, asks, asks_if, clocks, does_not_apply, enters, entry, in_session, leaves, line_events, line_played, named_if, start}
use Rattle.fs_replay.specs.Transcript.{after_lines, events_of}
use Rattle.fs_replay.specs.declared.directory.Named.{Named}
use Rattle.fs_replay.specs.declared.request.Line.{Line}
use Rattle.fs_replay.specs.declared.request.Line.TheVariants as line
use Rattle.fs_replay.specs.declared.state.State.{State}
use Rattle.fs_replay.proofs.Hands.{HoldsByHand, loads_hold, matches_hold, raises_hold}
use Rattle.fs_replay.proofs.Kept.{raises_one}

-- from this server on
abbrev Leads : Machine → Played → Type 0
Leads m p = p.state.server ≡ after m p.events

pub after_both : (m : Machine) (es fs : List Event) → after m (es ++ fs) ≡ after (after m es) fs
after_both m [] fs = refl
after_both m (e ∷ es) fs = after_both (step m e) es fs

lead_on : (m : Machine) (p : Played) (next : State → Played) → Leads m p → Leads p.state.server (next p.state) → Leads m (followed_by p next)
lead_on m p next first more =
    let es = (next p.state).events in
    more ∙ ap (λ (n : Machine). after n es) first ∙ sym (after_both m p.events es)

-- ---- outboxes are emptied

drained_leads : (ns : List Named) (m : Machine) → drained ns m ≡ after m (map (λ n. Event.taking n.number) ns)
drained_leads [] m = refl
drained_leads (n ∷ ns) m = drained_leads ns (taken m n.number)

emptied_leads : (s : State) → Leads s.server (emptied s)
emptied_leads s = drained_leads s.directory s.server

-- an event, and the outboxes
then_emptied : (s : State) (e : Event) (bytes : List ℕ) → Leads s.server (followed_by (happens s e bytes) emptied)
then_emptied s e bytes = let p = happens s e bytes in lead_on s.server p emptied refl (emptied_leads p.state)

-- ---- commits, and requests that wait

settles_leads : (s : State) (id : ℕ) → Leads s.server (settles s id)
settles_leads s id =
    let p = followed_by (happens s (Event.deciding id) []) (λ t. happens t Event.releasing []) in
    lead_on s.server p emptied refl (emptied_leads p.state)

settles_if_leads : (s : State) (next : Option ℕ) → Leads s.server (settles_if s next)
settles_if_leads s None = refl
settles_if_leads s (Some id) = settles_leads s id

tries_if_leads : (s : State) (place : ℕ) (found : Option ParkedRequest) → Leads s.server (tries_if s place found)
tries_if_leads s place None = refl
tries_if_leads s place (Some r) = then_emptied s (Event.retrying place) (retry_output s.directory r (tried_answer s.server r))

tries_from_leads : (n place : ℕ) (s : State) → Leads s.server (tries_from n place s)
tries_from_leads zero place s = refl
tries_from_leads (suc n) place s =
    let p = tries s place in
    let next = place_after s.server place in
    lead_on s.server p (tries_from n next) (tries_if_leads s place (slice_get s.server.parked place)) (tries_from_leads n next p.state)

tries_all_leads : (s : State) → Leads s.server (tries_all s)
tries_all_leads s = tries_from_leads (length s.server.parked) 0 s

turn_leads : (s : State) → Leads s.server (turn s)
turn_leads s = let p = settles_next s in lead_on s.server p tries_all (settles_if_leads s (next_pending s.server.past)) (tries_all_leads p.state)

behind_leads : (n : ℕ) (t : State) (b : Bool) → Leads t.server (turns n t) → Leads t.server (cond b (turns n t) (nothing t))
behind_leads n t true more = more
behind_leads n t false more = refl

turns_leads : (n : ℕ) (s : State) → Leads s.server (turns n s)
turns_leads zero s = refl
turns_leads (suc n) s =
    let p = turn s in
    lead_on s.server p (λ t. cond (did_something s t) (turns n t) (nothing t)) (turn_leads s) (behind_leads n p.state (did_something s p.state) (turns_leads n p.state))

settling_leads : (s : State) → Leads s.server (settling s)
settling_leads s = turns_leads (left_to_do s.server) s

-- ---- sessions are served

load_leads : (n : Named) (s : State) (others : State → Played) (next : Option ℕ) → ((t : State) → Leads t.server (others t)) → Leads s.server (loads_next n s others next)
load_leads n s others None more = refl
load_leads n s others (Some id) more = let p = loads_one n id s in lead_on s.server p others refl (more p.state)

loads_leads : (k : ℕ) (n : Named) (s : State) → Leads s.server (loads_from k n s)
loads_leads zero n s = refl
loads_leads (suc k) n s = load_leads n s (loads_from k n) (first_loading (entries (listening_of s.server n.number).targets)) (loads_leads k n)

each_loaded_leads : (ns : List Named) (s : State) → Leads s.server (loads_each ns s)
each_loaded_leads [] s = refl
each_loaded_leads (n ∷ ns) s =
    let p = loads_of n s in lead_on s.server p (loads_each ns) (loads_leads (unloaded_count s.server n.number) n s) (each_loaded_leads ns p.state)

matches_leads : (k shard : ℕ) (s : State) → Leads s.server (matches_from k shard s)
matches_leads zero shard s = refl
matches_leads (suc k) shard s =
    let p = happens s (Event.matching shard s.server.past.released) [] in lead_on s.server p (matches_from k (shard + 1)) refl (matches_leads k (shard + 1) p.state)

each_raised_leads : (ns : List Named) (s : State) → Leads s.server (raises_each ns s)
each_raised_leads [] s = refl
each_raised_leads (n ∷ ns) s = let p = raises_one n s in lead_on s.server p (raises_each ns) refl (each_raised_leads ns p.state)

serves_leads : (s : State) → Leads s.server (serves s)
serves_leads s =
    let p = loads_each s.directory s in
    let q = followed_by p matches_all in
    lead_on s.server q (λ t. raises_each t.directory t)
    (lead_on s.server p matches_all (each_loaded_leads s.directory s) (matches_leads p.state.server.config.shards 0 p.state))
    (each_raised_leads q.state.directory q.state)

-- ---- a line closes

unless_leads : (s : State) (manual : Bool) → Leads s.server (cond manual (nothing s) (followed_by (settling s) serves))
unless_leads s true = refl
unless_leads s false = let p = settling s in lead_on s.server p serves (settling_leads s) (serves_leads p.state)

closed_leads : (s : State) → Leads s.server (closed s)
closed_leads s = let p = emptied s in lead_on s.server p unless_by_hand (emptied_leads s) (unless_leads p.state p.state.manual)

-- an event, and then it closes
then_closed : (s : State) (e : Event) → Leads s.server (followed_by (happens s e []) closed)
then_closed s e = let p = happens s e [] in lead_on s.server p closed refl (closed_leads p.state)

-- ---- each line

named_leads : (s : State) (m : Machine) (name : List ℕ) (answer : Result ℕ Refusal) → (named_if (record s { server = m }) name answer).server ≡ m
named_leads s m name (Ok number) = refl
named_leads s m name (Err refusal) = refl

enters_leads : (s : State) (name : List ℕ) (number : Option ℕ) → Leads s.server (enters s name number)
enters_leads s name (Some number) = refl
enters_leads s name None = named_leads s (opened s.server) name (open_answer s.server)

asks_leads : (s : State) (name : List ℕ) (number : ℕ) (id : Option (List ℕ)) (r : Result Request Bad) → Leads s.server (asks s name number id r)
asks_leads s name number id (Ok request) = refl
asks_leads s name number id (Err bad) = refl

asks_if_leads : (s : State) (a : SessionRequest) (number : Result ℕ Refusal) → Leads s.server (asks_if s a number)
asks_if_leads s a (Ok number) = asks_leads s a.session number a.id a.request
asks_if_leads s a (Err refusal) = refl

asked_leads : (s : State) (a : SessionRequest) (number : Option ℕ) → Leads s.server (in_session s a number)
asked_leads s a number =
    let p = enters s a.session number in
    lead_on s.server p (λ t. asks_if t a (entry s number)) (enters_leads s a.session number) (asks_if_leads p.state a (entry s number))

clocks_leads : (s : State) (time : ℤ) → Leads s.server (clocks s time)
clocks_leads s time =
    let p = followed_by (happens (record s { moment = later s.moment time }) (Event.advancing (later s.moment time)) []) (λ t. happens t Event.releasing []) in
    lead_on s.server p closed refl (closed_leads p.state)

leaves_leads : (s : State) (n : ℕ) (name : List ℕ) (number : Option ℕ) → Leads s.server (leaves s n name number)
leaves_leads s n name None = refl
leaves_leads s n name (Some number) = then_closed (record s { directory = without name s.directory }) (Event.leaving number)

settle_leads : (s : State) (n id : ℕ) (b : Bool) → Leads s.server (cond b (settles s id) (does_not_apply s n))
settle_leads s n id true = settles_leads s id
settle_leads s n id false = refl

retry_leads : (s : State) (n : ℕ) (b : Bool) → Leads s.server (cond b (tries_all s) (does_not_apply s n))
retry_leads s n true = tries_all_leads s
retry_leads s n false = refl

targets_lead : (s : State) → HoldsByHand (Leads s.server) s
targets_lead s = record {
  stays = λ bytes. refl;
  loading = λ number target at bytes manual. then_emptied s (Event.loading number target at) bytes;
  matching = λ shard to manual. then_emptied s (Event.matching shard to) [];
  raising = λ number manual. then_emptied s (Event.raising number) [];
}

line_leads : (s : State) (n : ℕ) (l : Line) → Leads s.server (line_played s n l)
line_leads s n line.Empty = refl
line_leads s n line.NotBuilt = refl
line_leads s n (line.Refused reason) = refl
line_leads s n (line.Asked a) =
    let p = in_session s a (number_of a.session s.directory) in lead_on s.server p closed (asked_leads s a (number_of a.session s.directory)) (closed_leads p.state)
line_leads s n (line.Clock time) = clocks_leads s time
line_leads s n (line.Compact time) = then_closed s (Event.compacting time)
line_leads s n (line.Leave name) = leaves_leads s n name (number_of name s.directory)
line_leads s n (line.Manual on) = closed_leads (record s { manual = on })
line_leads s n (line.Settle id) = settle_leads s n id (s.manual && is_some (pending_of s.server.past id))
line_leads s n line.Retry = retry_leads s n s.manual
line_leads s n (line.Load name target at) = loads_hold (Leads s.server) s n (targets_lead s) name target at
line_leads s n (line.Match shard) = matches_hold (Leads s.server) s n (targets_lead s) shard
line_leads s n (line.Raise name) = raises_hold (Leads s.server) s n (targets_lead s) name

-- ---- and all lines

leads_once : (s : State) (n : ℕ) (bytes : List ℕ) → (after_line s n bytes).server ≡ after s.server (line_events s n bytes)
unfolding after_line line_events
leads_once s n bytes = line_leads s n (line_in_state s bytes)

pub lines_lead : (s : State) (n : ℕ) (lines : List (List ℕ)) → (after_lines s n lines).server ≡ after s.server (events_of s n lines)
lines_lead s n [] = refl
lines_lead s n (bytes ∷ lines) =
    let t = after_line s n bytes in
    let more = events_of t (n + 1) lines in
    lines_lead t (n + 1) lines ∙ ap (λ (m : Machine). after m more) (leads_once s n bytes) ∙ sym (after_both s.server (line_events s n bytes) more)

-- those of some lines, and of more behind them
events_both : (s : State) (n : ℕ) (front back : List (List ℕ)) → (more : List Event) × (events_of s n (front ++ back) ≡ events_of s n front ++ more)
events_both s n [] back = (events_of s n back, refl)
events_both s n (bytes ∷ front) back =
    let rest = events_both (after_line s n bytes) (n + 1) front back in
    let first = line_events s n bytes in
    let of_front = events_of (after_line s n bytes) (n + 1) front in
    (rest.0, ap (λ (es : List Event). first ++ es) rest.1 ∙ sym (append_assoc first of_front rest.0))

pub lines_are_events : (config : Config) (limits : Limits) (lines : List (List ℕ)) → LinesAreEvents config limits lines
lines_are_events config limits lines front back is =
    let s = start config limits in
    let both = events_both s 1 front back in
    record { more = both.0; events = ap (events_of s 1) is ∙ both.1; server = lines_lead s 1 front }

-- ---- wherever they are cut

pub runs_kept : AlwaysKept → (config : Config) (limits : Limits) (lines : List (List ℕ)) → KeptThroughout config limits lines
runs_kept kept config limits lines front back is = kept config limits (start config limits).moment front

pub runs_serial : AlwaysSerial → (config : Config) (limits : Limits) (lines : List (List ℕ)) → IsSerialThroughout config limits lines
runs_serial serial config limits lines front back is = serial config limits (start config limits).moment front

pub runs_grow : AlwaysKept → AlwaysGrows → (config : Config) (limits : Limits) (lines : List (List ℕ)) → GrowsThroughout config limits lines
runs_grow kept grow config limits lines front back is =
    let m = (start config limits).server in
    let cut = after m front in
    subst (λ (n : Machine). Grows cut.past n.past) (sym (ap (after m) is ∙ after_both m front back)) (grow cut back (kept config limits (start config limits).moment front))

pub runs_cut : CutsAreConsistent → RaisesNeverFall → (config : Config) (limits : Limits) (lines : List (List ℕ)) → AreAllowed limits → CutsThroughout config limits lines
runs_cut cuts times config limits lines allowed = record {
  cuts = λ front back session time is opened ended. cuts config limits (start config limits).moment front session time opened ended;
  times = λ front back session is opened. times config limits (start config limits).moment front session opened;
}
