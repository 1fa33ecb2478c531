-- Turns end where nothing is left to settle, and after a line nothing waits to be told: so the state is one between lines.
use Rattle.std.proofs.Common.{◌≡◌, ◌⊎◌, inl, inr, ℕ, ◌+◌, ◌≤◌, drop, Bool, true, false, cond, List, [], ◌∷◌, Option, Some, None, refl, sym, ap, ◌∙◌, subst, arith, suc, zero}
use Rattle.std.specs.Prelude.{◌&&◌, is_some, length, nat_lt, slice_get}
use Rattle.std.specs.List.{AllByRecursion}
use Rattle.std.specs.Option.{option_map_or}
use Rattle.std.proofs.lemmas.Bool.{and_parts, or_parts}
use Rattle.std.proofs.lemmas.Bool.Decides.{nat_tests}
use Rattle.std.proofs.lemmas.List.{at_drop_more, drop_all, nil_from_length}
use Rattle.fs_machine.specs.Compact.{compacted}
use Rattle.fs_machine.specs.Load.{loaded}
use Rattle.fs_machine.specs.Match.{matched}
use Rattle.fs_machine.specs.Pending.{next_in, next_pending}
use Rattle.fs_machine.specs.Raise.{raised}
use Rattle.fs_machine.specs.Request.{Decision, decided_answer}
use Rattle.fs_machine.specs.Retry.{retried, retry_decision, tried}
use Rattle.fs_machine.specs.Settle.{pending_of, settled}
use Rattle.fs_machine.specs.State.{Machine}
use Rattle.fs_machine.specs.Tick.{later}
use Rattle.fs_machine.specs.declared.answer.Answer.TheVariants.{Held}
use Rattle.fs_machine.specs.declared.parked_request.ParkedRequest.{ParkedRequest}
use Rattle.fs_replay.specs.Directory.{name_of, number_of}
use Rattle.fs_replay.specs.BetweenLines.{IsBetweenLines, IsHeld, IsHeldStill, IsServed, IsSettled}
use Rattle.fs_replay.specs.Played.{Played, followed_by, nothing, prints}
use Rattle.fs_replay.specs.Settling.{closed, did_something, emptied, left_to_do, place_after, retry_output, serves, settles, settles_if, settling, told_in, tries, tries_all, tries_from, tries_if, turn, turns, waits_on}
use Rattle.fs_replay.specs.Step.{does_not_apply, in_session, leaves, line_played}
use Rattle.fs_replay.specs.declared.directory.Named.{Named}
use Rattle.fs_replay.specs.declared.request.Line.{Line}
use Rattle.fs_replay.specs.declared.request.Line.TheVariants as line
use Rattle.fs_replay.specs.declared.state.State.{State}
use Rattle.fs_replay.proofs.Drained.{drain_none, drained_same}
use Rattle.fs_replay.proofs.Each.{all_at}
use Rattle.fs_replay.proofs.Emptied.{drained_nothing}
use Rattle.fs_replay.proofs.Falling.{fewer_wait, none_next, place_is, retried_is, tries_from_falls, turn_did}
use Rattle.fs_replay.proofs.Hands.{HoldsByHand, loads_hold, matches_hold, raises_hold}
use Rattle.fs_replay.proofs.Kept.{Closes, Serves, all_tried_kept, asked_kept, departed_by, emptied_kept, keeps_closes, keeps_serves, serves_kept, ticked_by, turn_kept, turns_kept, with_server}
use Rattle.fs_replay.proofs.Playing.{found_at}
use Rattle.fs_replay.proofs.Released.{none_under_way, starts_pending}
use Rattle.fs_replay.proofs.Beside.{Empty, empty_serving, serves_settled}
use Rattle.fs_replay.proofs.Served.{serves_all}
use Rattle.fs_replay.proofs.Shown.{shown}
use Rattle.fs_replay.proofs.Standing.{Any, Stands, any_read, stands_all, stands_asking, stands_closing, stands_serving}
use Rattle.fs_replay.proofs.Turns.{less_left}

-- ---- a turn that does nothing

-- so nothing is seen where the outboxes are emptied
pub emptied_none : (s : State) → Empty s → shown (emptied s) ≡ nothing s
emptied_none s empty = λ i. record { state = with_server s (drained_same s.directory s.server empty i); output = drain_none s.directory s.server empty i; events = [] }

untold : (found : Option (List ℕ)) → option_map_or {U = List ℕ} (λ name. []) found [] ≡ []
untold None = refl
untold (Some name) = refl

-- of one that waits on nobody is told, whether it is of a session or of a stream
none_told : (ns : List Named) (r : ParkedRequest) (id : ℕ) (stream : Option ℕ) → told_in ns r (Held id) stream ≡ []
none_told ns r id None = untold (name_of r.session ns)
none_told ns r id (Some n) = refl

-- one that is held is tried in vain
vain_by : (s : State) (place : ℕ) (r : ParkedRequest) (d : Decision) → slice_get s.server.parked place ≡ Some r → retry_decision s.server r.session r.envelope.request ≡ d → IsHeld d → Empty s
    → (shown (tries s place) ≡ nothing s) × (place_after s.server place ≡ place + 1)
vain_by s place r (Decision.refused refusal) at is held empty = absurd held
vain_by s place r (Decision.held id) at is held empty = (
  ap (λ found. shown (tries_if s place found)) at
      ∙ (λ i. shown (followed_by (prints (with_server s ((retried_is s.server place r at ∙ ap (tried s.server place r) is) i)) (retry_output s.directory r (decided_answer s.server r (is i)))) emptied))
      ∙ ap (λ (o : List ℕ). shown (followed_by (prints s o) emptied)) (none_told s.directory r id r.stream)
      ∙ ap (λ (p : Played). followed_by (nothing s) (λ t. p)) (emptied_none s empty),
  place_is s.server place r at ∙ ap (λ (c : Decision). cond (waits_on (Some (decided_answer s.server r c))) (place + 1) place) is,
)
vain_by s place r Decision.goes_on at is held empty = absurd held

tried_in_vain : (s : State) (place : ℕ) (r : ParkedRequest) → slice_get s.server.parked place ≡ Some r → IsHeldStill s.server r → Empty s → (shown (tries s place) ≡ nothing s) × (place_after s.server place ≡ place + 1)
tried_in_vain s place r at held empty = vain_by s place r (retry_decision s.server r.session r.envelope.request) at refl held empty

-- and so are all
none_moves : (n place : ℕ) (s : State) → Empty s → AllByRecursion (IsHeldStill s.server) s.server.parked → place + n ≤ length s.server.parked → shown (tries_from n place s) ≡ nothing s
none_moves zero place s empty all within = refl
none_moves (suc n) place s empty all within =
    let at = found_at s.server.parked place (omega (arith, within)) in
    let vain = tried_in_vain s place at.0 at.1 (all_at (IsHeldStill s.server) s.server.parked place at.0 at.1 all) empty in
    ap (λ (p : Played). shown (followed_by p (tries_from n (place_after s.server place)))) vain.0
    ∙ ap (λ (k : ℕ). shown (followed_by (nothing s) (tries_from n k))) vain.1
    ∙ none_moves n (place + 1) s empty all (omega (arith, within))

turn_of_tries : (s : State) → next_pending s.server.past ≡ None → turn s ≡ tries_all s
turn_of_tries s none = ap (λ next. followed_by (settles_if s next) tries_all) none

pub settled_turn : (s : State) → Empty s → IsSettled s.server → shown (turn s) ≡ nothing s
settled_turn s empty settled = ap shown (turn_of_tries s (ap next_in settled.released)) ∙ none_moves (length s.server.parked) 0 s empty settled.held (omega arith)

-- ---- where a turn does nothing

none_of : (o : Option ℕ) → is_some o ≡ false → o ≡ None
none_of None is = refl
none_of (Some n) is = absurd (cc)

held_or : (d : Decision) → IsHeld d ⊎ (IsHeld d → ⊥)
held_or (Decision.refused refusal) = inr (λ held. held)
held_or (Decision.held id) = inl tt
held_or Decision.goes_on = inr (λ held. held)

-- as many wait then as before
abbrev NoneLess : State → Played → Type 0
NoneLess s p = nat_lt (length p.state.server.parked) (length s.server.parked) ≡ false

moves_less : (n place : ℕ) (s : State) (r : ParkedRequest) → slice_get s.server.parked place ≡ Some r → (IsHeldStill s.server r → ⊥) → NoneLess s (tries_from (suc n) place s) → ⊥
moves_less n place s r at moves none =
    let t = (tries s place).state in
    let one = fewer_wait s place r at moves in
    let rest = (tries_from_falls n (place_after s.server place) t).fewer in
    grind (arith, nat_tests, one, rest, none)

-- so each is held still
held_next : (n place : ℕ) (s : State) (r : ParkedRequest) → Empty s → slice_get s.server.parked place ≡ Some r → drop place s.server.parked ≡ r ∷ drop (place + 1) s.server.parked
    → IsHeldStill s.server r ⊎ (IsHeldStill s.server r → ⊥) → NoneLess s (tries_from (suc n) place s)
    → (NoneLess s (tries_from n (place + 1) s) → AllByRecursion (IsHeldStill s.server) (drop (place + 1) s.server.parked)) → AllByRecursion (IsHeldStill s.server) (drop place s.server.parked)
held_next n place s r empty at cut (inr moves) none more = absurd (moves_less n place s r at moves none)
held_next n place s r empty at cut (inl held) none more =
    let vain = tried_in_vain s place r at held empty in
    let same : shown (tries_from (suc n) place s) ≡ shown (tries_from n (place + 1) s) =
    ap (λ (p : Played). shown (followed_by p (tries_from n (place_after s.server place)))) vain.0 ∙ ap (λ (k : ℕ). shown (followed_by (nothing s) (tries_from n k))) vain.1 in
    subst (AllByRecursion (IsHeldStill s.server)) (sym cut) (held, more (subst (NoneLess s) same none))

held_from : (n place : ℕ) (s : State) → Empty s → place + n ≡ length s.server.parked → NoneLess s (tries_from n place s) → AllByRecursion (IsHeldStill s.server) (drop place s.server.parked)
held_from zero place s empty within none = subst (AllByRecursion (IsHeldStill s.server)) (sym (drop_all place s.server.parked (omega (arith, within)))) tt
held_from (suc n) place s empty within none =
    let rs = s.server.parked in
    let at = found_at rs place (omega (arith, within)) in
    let cut : drop place rs ≡ at.0 ∷ drop (place + 1) rs = at_drop_more (λ (l : List ParkedRequest). l) rs place at.0 (omega (arith, within)) ∙ ap (λ r. r ∷ drop (place + 1) rs) (sym at.2) in
    held_next n place s at.0 empty at.1 cut (held_or (retry_decision s.server at.0.session at.0.envelope.request)) none (λ less. held_from n (place + 1) s empty (omega (arith, within)) less)

abbrev pub StandsEmpty : State → Type 0
StandsEmpty s = Stands s × Empty s

pub settled_at_end : (s : State) → StandsEmpty s → did_something s (turn s).state ≡ false → IsSettled s.server
settled_at_end s both idle =
    let stands = both.0 in
    let parts = or_parts (is_some (next_pending s.server.past)) (nat_lt (length (turn s).state.server.parked) (length s.server.parked)) (sym (turn_did s) ∙ idle) in
    let none = none_of (next_pending s.server.past) parts.0 in
    record {
      released = none_under_way s.server.past.unreleased (starts_pending s.server.past stands.facts.past.unreleased stands.fits.released) none;
      held = held_from (length s.server.parked) 0 s both.1 (omega arith) (subst (NoneLess s) (turn_of_tries s none) parts.1);
    }

-- ---- settling ends

none_held : (m : Machine) (rs : List ParkedRequest) → rs ≡ [] → AllByRecursion (IsHeldStill m) rs
none_held m rs none = subst (AllByRecursion (IsHeldStill m)) (sym none) tt

-- where nothing is under way, and nothing waits
pub settled_by_none : (m : Machine) → m.past.unreleased ≡ [] → m.parked ≡ [] → IsSettled m
settled_by_none m idle none = record { released = idle; held = none_held m m.parked none }

settled_where_none : (s : State) → Stands s → left_to_do s.server ≡ 0 → IsSettled s.server
settled_where_none s stands none =
    settled_by_none s.server
    (none_under_way s.server.past.unreleased (starts_pending s.server.past stands.facts.past.unreleased stands.fits.released) (none_next s.server.past.unreleased (omega (arith, none))))
    (nil_from_length s.server.parked (omega (arith, none)))

ends_next : (n : ℕ) (s : State) (b : Bool) → did_something s (turn s).state ≡ b → StandsEmpty s → (b ≡ true → IsSettled (turns n (turn s).state).state.server)
    → IsSettled (cond b (turns n (turn s).state) (nothing (turn s).state)).state.server
ends_next n s true is both more = more refl
ends_next n s false is both more =
    let settled = settled_at_end s both is in
    subst (λ (p : Played). IsSettled p.state.server) (sym (settled_turn s both.1 settled)) settled

pub emptied_empty : (s : State) → Stands s → Empty (emptied s).state
emptied_empty s stands = drained_nothing s.directory s.server 0 s.server.numbers.sessions stands.fits.known stands.facts.sessions

pub empty_closing : Closes StandsEmpty
empty_closing =
    let closes = keeps_closes Stands stands_closing in
    record {
      by_settling = λ s id both. (closes.by_settling s id both.0, emptied_empty (with_server s (settled s.server id)) (stands_closing.by_settling s id both.0));
      by_trying = λ s place r is both. (closes.by_trying s place r is both.0, emptied_empty (with_server s (retried s.server place)) (stands_closing.by_retrying s place r is both.0));
    }

ends_settled : (n : ℕ) (s : State) → left_to_do s.server ≤ n → StandsEmpty s → IsSettled (turns n s).state.server
ends_settled zero s within both = settled_where_none s both.0 (omega (arith, within))
ends_settled (suc n) s within both =
    let t = (turn s).state in
    ends_next n s (did_something s t) refl both (λ did. ends_settled n t (less_left s t n did within) (turn_kept StandsEmpty empty_closing s both))

pub settling_ends : (s : State) → StandsEmpty s → IsSettled (settling s).state.server
settling_ends s both = ends_settled (left_to_do s.server) s (omega arith) both

-- ---- a line that closes

settling_empty : (s : State) → StandsEmpty s → StandsEmpty (settling s).state
settling_empty s both = turns_kept StandsEmpty empty_closing (left_to_do s.server) s both

stands_empty_serving : Serves StandsEmpty
stands_empty_serving =
    let serving = keeps_serves Stands stands_serving in
    record {
      by_loading = λ s n id both. (serving.by_loading s n id both.0, empty_serving.by_loading s n id both.1);
      by_matching = λ s shard to both. (serving.by_matching s shard to both.0, empty_serving.by_matching s shard to both.1);
      by_raising = λ s n both. (serving.by_raising s n both.0, empty_serving.by_raising s n both.1);
    }

-- nothing is left to settle, and each session was told all
abbrev IsDone : State → Type 0
IsDone s = IsSettled s.server × IsServed s.server

unless_between : (t : State) (manual : Bool) → t.manual ≡ manual → StandsEmpty t
    → ((cond manual (nothing t) (followed_by (settling t) serves)).state.manual ≡ false → IsDone (cond manual (nothing t) (followed_by (settling t) serves)).state)
    × StandsEmpty (cond manual (nothing t) (followed_by (settling t) serves)).state
unless_between t true is both = (λ other. absurd (let never : true ≡ false = sym is ∙ other in cc), both)
unless_between t false is both =
    let u = (settling t).state in
    let then = settling_empty t both in
    (λ other. (serves_settled u (settling_ends t both), serves_all u then.0 then.1), serves_kept StandsEmpty stands_empty_serving u then)

pub between_from : (s : State) → (s.manual ≡ false → IsDone s) → StandsEmpty s → IsBetweenLines s
between_from s done both = record {
  settled = λ manual. (done manual).0;
  served = λ manual. (done manual).1;
  released = both.0.fits.released;
  empty = both.1;
  known = both.0.fits.known;
  waiting = both.0.fits.waiting;
  facts = both.0.facts;
  limits = both.0.fits.limits;
}

pub closed_between : (s : State) → Stands s → IsBetweenLines (closed s).state
closed_between s stands =
    let t = (emptied s).state in
    let all = unless_between t t.manual refl (emptied_kept Stands stands_closing s stands, emptied_empty s stands) in
    between_from (closed s).state all.0 all.1

-- ---- each line

pub stands_between : (s : State) → IsBetweenLines s → Stands s
stands_between s b = record { facts = b.facts; fits = record { released = b.released; known = b.known; waiting = b.waiting; limits = b.limits } }

leaves_between : (s : State) (n : ℕ) (name : List ℕ) (number : Option ℕ) → number_of name s.directory ≡ number → IsBetweenLines s → IsBetweenLines (leaves s n name number).state
leaves_between s n name None is b = b
leaves_between s n name (Some number) is b = closed_between (departed_by s number name) (stands_all.by_leaving s number name is (stands_between s b))

-- what is settled by hand leaves the rest to the script
left_by_hand : (s t : State) → t.manual ≡ s.manual → s.manual ≡ true → StandsEmpty t → IsBetweenLines t
left_by_hand s t same manual both = between_from t (λ other. absurd (let never : true ≡ false = sym manual ∙ sym same ∙ other in cc)) both

tried_manual : Closes (λ s. s.manual ≡ true)
tried_manual = record { by_settling = λ s id is. is; by_trying = λ s place r _ is. is }

settle_between : (s : State) (n id : ℕ) (b : Bool) → (s.manual && is_some (pending_of s.server.past id)) ≡ b → IsBetweenLines s → IsBetweenLines (cond b (settles s id) (does_not_apply s n)).state
settle_between s n id true is b =
    let manual = (and_parts s.manual (is_some (pending_of s.server.past id)) is).0 in
    left_by_hand s (settles s id).state refl manual (empty_closing.by_settling s id (stands_between s b, b.empty))
settle_between s n id false is b = b

retry_between : (s : State) (n : ℕ) (b : Bool) → s.manual ≡ b → IsBetweenLines s → IsBetweenLines (cond b (tries_all s) (does_not_apply s n)).state
retry_between s n true is b =
    let manual : (tries_all s).state.manual ≡ true = all_tried_kept (λ (t : State). t.manual ≡ true) tried_manual s is in
    left_by_hand s (tries_all s).state (manual ∙ sym is) is (all_tried_kept StandsEmpty empty_closing s (stands_between s b, b.empty))
retry_between s n false is b = b

-- so does what is done to targets by hand
by_hand_between : (s t : State) → t.manual ≡ s.manual → s.manual ≡ true → Stands t → IsBetweenLines (emptied t).state
by_hand_between s t same manual stands = left_by_hand s (emptied t).state same manual (emptied_kept Stands stands_closing t stands, emptied_empty t stands)

abbrev LeadsBetween : Played → Type 0
LeadsBetween p = IsBetweenLines p.state

targets_between : (s : State) → IsBetweenLines s → HoldsByHand LeadsBetween s
targets_between s b =
    let stands = stands_between s b in
    record {
      stays = λ bytes. b;
      loading = λ number target at bytes manual. by_hand_between s (with_server s (loaded s.server number target at)) refl manual (stands_serving.by_loading s number target at stands);
      matching = λ shard to manual. by_hand_between s (with_server s (matched s.server shard to)) refl manual (stands_serving.by_matching s shard to stands);
      raising = λ number manual. by_hand_between s (with_server s (raised s.server number)) refl manual (stands_serving.by_raising s number stands);
    }

pub line_between : (s : State) (n : ℕ) (l : Line) → IsBetweenLines s → IsBetweenLines (line_played s n l).state
line_between s n line.Empty b = b
line_between s n line.NotBuilt b = b
line_between s n (line.Refused reason) b = b
line_between s n (line.Asked a) b =
    closed_between (in_session s a (number_of a.session s.directory)).state (asked_kept Stands Any stands_asking s a (any_read a.request) (stands_between s b))
line_between s n (line.Clock time) b = closed_between (ticked_by s (later s.moment time)) (stands_all.by_ticking s (later s.moment time) (stands_between s b))
line_between s n (line.Compact time) b = closed_between (with_server s (compacted s.server time)) (stands_all.by_compacting s time (stands_between s b))
line_between s n (line.Leave name) b = leaves_between s n name (number_of name s.directory) refl b
line_between s n (line.Manual on) b = closed_between (record s { manual = on }) (stands_all.by_hand s on (stands_between s b))
line_between s n (line.Settle id) b = settle_between s n id (s.manual && is_some (pending_of s.server.past id)) refl b
line_between s n line.Retry b = retry_between s n s.manual refl b
line_between s n (line.Load name target at) b = loads_hold LeadsBetween s n (targets_between s b) name target at
line_between s n (line.Match shard) b = matches_hold LeadsBetween s n (targets_between s b) shard
line_between s n (line.Raise name) b = raises_hold LeadsBetween s n (targets_between s b) name
