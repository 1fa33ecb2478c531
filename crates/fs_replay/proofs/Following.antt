-- What follows from a line, by its kind: what it leaves of what was committed, and how many lines it gives.
use Rattle.std.proofs.Common.{◌≡◌, ◌⊎◌, ℕ, ℤ, Bool, true, false, List, [], Option, Some, None, refl, sym, ap, ◌∙◌, subst}
use Rattle.std.specs.Prelude.{pos, ◌+ℤ◌, ◌&&◌, ◌||◌, codes, not}
use Rattle.std.specs.List.{AllByRecursion}
use Rattle.std.proofs.lemmas.Bool.{and_parts, or_parts}
use Rattle.fs_rpc.specs.MessageJson.{error_json}
use Rattle.fs_status.specs.declared.code.Code.TheVariants.{Unimplemented}
use Rattle.fs_machine.specs.Compact.{compacted}
use Rattle.fs_machine.specs.Leave.{departed, is_own, of_others}
use Rattle.fs_machine.specs.Load.{loaded}
use Rattle.fs_machine.specs.Match.{matched}
use Rattle.fs_machine.specs.Raise.{raised}
use Rattle.fs_machine.specs.Release.{all_answered, free_to, kept_back}
use Rattle.fs_machine.specs.State.{Machine}
use Rattle.fs_machine.specs.Stream.{desk_of}
use Rattle.fs_machine.specs.Tick.{later}
use Rattle.fs_machine.specs.declared.parked_request.ParkedRequest.{ParkedRequest}
use Rattle.fs_machine.specs.declared.committed.Committed.{Committed}
use Rattle.fs_machine.specs.declared.unreleased.Unreleased.{Unreleased}
use Rattle.fs_machine.proofs.Listening.{loaded_rest, raised_rest}
use Rattle.fs_replay.specs.Directory.{number_of}
use Rattle.fs_replay.specs.BetweenLines.{HasNothing, IsBetweenLines, IsSettled}
use Rattle.fs_replay.specs.Commits.{is_commit, may_move}
use Rattle.fs_replay.specs.Lines.{IsOneLine, is_answered, is_silent, keeps_waiting, may_let_on, nobody_listens, none_waits}
use Rattle.fs_replay.specs.Played.{Played}
use Rattle.fs_replay.specs.Reply.{line_error, refused_json}
use Rattle.fs_replay.specs.Settling.{closed}
use Rattle.fs_replay.specs.Step.{leaves, line_played}
use Rattle.fs_replay.specs.declared.request.Line.{Line}
use Rattle.fs_replay.specs.declared.request.Line.TheVariants as line
use Rattle.fs_replay.specs.declared.state.State.{State}
use Rattle.fs_replay.proofs.Closing.{closed_by_hand, closed_quiet, closed_silent}
use Rattle.fs_replay.proofs.Each.{all_filtered}
use Rattle.fs_replay.proofs.Emptied.{drained_past}
use Rattle.fs_replay.proofs.Ended.{settled_by_none}
use Rattle.fs_replay.proofs.Hands.{HoldsByHand, loads_hold, matches_hold, raises_hold}
use Rattle.fs_replay.proofs.Kept.{departed_by, ticked_by, with_server}
use Rattle.fs_replay.proofs.OneLine.{json_one_line}
use Rattle.fs_replay.proofs.Quiet.{compacted_served, nobody_served}
use Rattle.fs_replay.proofs.Released.{nobody_told}
use Rattle.fs_replay.proofs.Requested.{asked_one_line, asked_rises, asked_unmoved, never, no_one}
use Rattle.fs_replay.proofs.Staying.{StaysOn, all_compacted, all_departed, all_held, all_stay}
use Rattle.fs_replay.proofs.Waiting.{nothing_left}

-- ---- lines that give nothing

-- by hand, or where nothing waits and no session has a target
clock_quiet : (s : State) (manual : Bool) → s.manual ≡ manual → (manual || (none_waits s.server.parked && nobody_listens s.server)) ≡ true → s.manual ≡ false
    → (s.server.parked ≡ []) × (nobody_listens s.server ≡ true)
clock_quiet s true is quiet off = never (sym is ∙ off)
clock_quiet s false is quiet off = let both = and_parts (none_waits s.server.parked) (nobody_listens s.server) quiet in (no_one s.server.parked both.0, both.1)

clock_silent : (s : State) (time : ℤ) → (s.manual || (none_waits s.server.parked && nobody_listens s.server)) ≡ true → IsBetweenLines s
    → (closed (ticked_by s (later s.moment time))).output ≡ []
clock_silent s time quiet b =
    let now = later s.moment time in
    let t = ticked_by s now in
    let same : t.server.sessions ≡ s.server.sessions = ap (λ (cs : List Committed). (all_answered cs (desk_of s.server)).1) (nobody_told s.server.past now b.facts.past.unreleased b.released) in
    let none : s.server.past.unreleased ≡ [] → t.server.past.unreleased ≡ [] = λ idle. ap (λ (us : List Unreleased). kept_back (free_to (later s.server.past.last now) us) us) idle in
    let then = clock_quiet s s.manual refl quiet in
    closed_silent t (subst (AllByRecursion HasNothing) (sym same) b.empty) (λ manual. settled_by_none t.server (none (b.settled manual).released) (then manual).0) (λ manual. nobody_served t.server (then manual).1)

-- a compaction lets nothing go on
compacted_settled : (m : Machine) (time : ℤ) → IsSettled m → IsSettled (compacted m time)
compacted_settled m time settled =
    let stay = all_stay m m.parked settled.released settled.held in
    record { released = settled.released; held = all_held (compacted m time) m.parked (all_compacted m time m.parked stay) }

compact_silent : (s : State) (time : ℤ) → IsBetweenLines s → (closed (with_server s (compacted s.server time))).output ≡ []
compact_silent s time b =
    let t = with_server s (compacted s.server time) in
    closed_silent t b.empty (λ manual. compacted_settled s.server time (b.settled manual)) (λ manual. compacted_served s.server time (b.served manual))

hands_silent : (s : State) → IsBetweenLines s → (closed (record s { manual = true })).output ≡ []
hands_silent s b = ap (λ (p : Played). p.output) (closed_by_hand (record s { manual = true }) b.empty refl)

manual_silent : (s : State) (on : Bool) → on ≡ true → IsBetweenLines s → (closed (record s { manual = on })).output ≡ []
manual_silent s true is b = hands_silent s b
manual_silent s false is b = never (sym is)

pub silent : (s : State) (n : ℕ) (l : Line) → is_silent s l ≡ true → IsBetweenLines s → (line_played s n l).output ≡ []
silent s n line.Empty is b = refl
silent s n line.NotBuilt is b = never (sym is)
silent s n (line.Refused reason) is b = never (sym is)
silent s n (line.Asked a) is b = never (sym is)
silent s n (line.Clock time) is b = clock_silent s time is b
silent s n (line.Compact time) is b = compact_silent s time b
silent s n (line.Leave name) is b = never (sym is)
silent s n (line.Manual on) is b = manual_silent s on is b
silent s n (line.Settle id) is b = never (sym is)
silent s n line.Retry is b = never (sym is)
silent s n (line.Load name target at) is b = never (sym is)
silent s n (line.Match shard) is b = never (sym is)
silent s n (line.Raise name) is b = never (sym is)

-- ---- lines that leave what was committed

-- where a session leaves, the others' requests are held still
departed_settled : (m : Machine) (number : ℕ) → IsSettled m → IsSettled (departed m number)
departed_settled m number settled =
    let stay = all_stay m m.parked settled.released settled.held in
    let others = all_filtered (λ (r : ParkedRequest). StaysOn m r.envelope.request) (λ r. not (is_own number r)) m.parked stay in
    record { released = settled.released; held = all_held (departed m number) (of_others number m.parked) (all_departed m number (of_others number m.parked) others) }

leaves_unmoved : (s : State) (n : ℕ) (name : List ℕ) (number : Option ℕ) → IsBetweenLines s → (leaves s n name number).state.server.past ≡ s.server.past
leaves_unmoved s n name None b = refl
leaves_unmoved s n name (Some number) b =
    ap (λ (t : State). t.server.past) (closed_quiet (departed_by s number name) (nothing_left s.server.sessions number b.empty) (λ manual. departed_settled s.server number (b.settled manual)))

manual_unmoved : (s : State) (on : Bool) → not on ≡ false → IsBetweenLines s → (closed (record s { manual = on })).state.server.past ≡ s.server.past
manual_unmoved s true is b = ap (λ (p : Played). p.state.server.past) (closed_by_hand (record s { manual = true }) b.empty refl)
manual_unmoved s false is b = never is

-- what is done to targets by hand leaves it too
abbrev LeavesPast : State → Played → Type 0
LeavesPast s p = p.state.server.past ≡ s.server.past

targets_unmoved : (s : State) → HoldsByHand (LeavesPast s) s
targets_unmoved s = record {
  stays = λ bytes. refl;
  loading = λ number target at bytes manual. drained_past s.directory (loaded s.server number target at) ∙ ap (λ (m : Machine). m.past) (loaded_rest s.server number target at);
  matching = λ shard to manual. drained_past s.directory (matched s.server shard to);
  raising = λ number manual. drained_past s.directory (raised s.server number) ∙ ap (λ (m : Machine). m.past) (raised_rest s.server number);
}

pub unmoved : (s : State) (n : ℕ) (l : Line) → may_move s l ≡ false → IsBetweenLines s → (line_played s n l).state.server.past ≡ s.server.past
unmoved s n line.Empty is b = refl
unmoved s n line.NotBuilt is b = refl
unmoved s n (line.Refused reason) is b = refl
unmoved s n (line.Asked a) is b =
    let both = or_parts (is_commit s (line.Asked a)) (may_let_on s (line.Asked a)) is in
    asked_unmoved s a b both.0 both.1
unmoved s n (line.Clock time) is b = never is
unmoved s n (line.Compact time) is b = never is
unmoved s n (line.Leave name) is b = leaves_unmoved s n name (number_of name s.directory) b
unmoved s n (line.Manual on) is b = manual_unmoved s on is b
unmoved s n (line.Settle id) is b = never is
unmoved s n line.Retry is b = never is
unmoved s n (line.Load name target at) is b = loads_hold (LeavesPast s) s n (targets_unmoved s) name target at
unmoved s n (line.Match shard) is b = matches_hold (LeavesPast s) s n (targets_unmoved s) shard
unmoved s n (line.Raise name) is b = raises_hold (LeavesPast s) s n (targets_unmoved s) name

-- ---- commits, and answers

pub rises : (s : State) (n : ℕ) (l : Line) → is_commit s l ≡ true → may_let_on s l ≡ false → IsBetweenLines s → (line_played s n l).state.server.past.last ≡ (s.server.past.last +ℤ pos 1)
rises s n line.Empty is lets b = never (sym is)
rises s n line.NotBuilt is lets b = never (sym is)
rises s n (line.Refused reason) is lets b = never (sym is)
rises s n (line.Asked a) is lets b = asked_rises s a b is lets
rises s n (line.Clock time) is lets b = never (sym is)
rises s n (line.Compact time) is lets b = never (sym is)
rises s n (line.Leave name) is lets b = never (sym is)
rises s n (line.Manual on) is lets b = never (sym is)
rises s n (line.Settle id) is lets b = never (sym is)
rises s n line.Retry is lets b = never (sym is)
rises s n (line.Load name target at) is lets b = never (sym is)
rises s n (line.Match shard) is lets b = never (sym is)
rises s n (line.Raise name) is lets b = never (sym is)

pub answered_once : (s : State) (n : ℕ) (l : Line) → is_answered l ≡ true → s.manual ≡ false → s.server.parked ≡ [] → nobody_listens (line_played s n l).state.server ≡ true
    → (keeps_waiting s.server ≡ false) ⊎ ((line_played s n l).state.server.parked ≡ []) → IsBetweenLines s → IsOneLine (line_played s n l).output
answered_once s n line.Empty is manual none nobody held b = never (sym is)
answered_once s n line.NotBuilt is manual none nobody held b = json_one_line (line_error (error_json Unimplemented (codes "line not read yet")) n)
answered_once s n (line.Refused reason) is manual none nobody held b = json_one_line (line_error (refused_json reason) n)
answered_once s n (line.Asked a) is manual none nobody held b = asked_one_line s a b manual none nobody held
answered_once s n (line.Clock time) is manual none nobody held b = never (sym is)
answered_once s n (line.Compact time) is manual none nobody held b = never (sym is)
answered_once s n (line.Leave name) is manual none nobody held b = never (sym is)
answered_once s n (line.Manual on) is manual none nobody held b = never (sym is)
answered_once s n (line.Settle id) is manual none nobody held b = never (sym is)
answered_once s n line.Retry is manual none nobody held b = never (sym is)
answered_once s n (line.Load name target at) is manual none nobody held b = never (sym is)
answered_once s n (line.Match shard) is manual none nobody held b = never (sym is)
answered_once s n (line.Raise name) is manual none nobody held b = never (sym is)
