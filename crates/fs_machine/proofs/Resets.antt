-- Which event resets a target, and that only after times were given up one does whose token is of a time since the start.
use Rattle.std.proofs.Common.{◌≡◌, inl, inr, ℕ, ℤ, ◌≤ℤ◌, ◌<ℤ◌, Bool, true, false, cond, ◌||◌, List, [], ◌∷◌, ◌++◌, Option, Some, None, Result, Ok, Err, refl, sym, ap, ◌∙◌, subst, arith}
use Rattle.std.specs.Prelude.{IfSome, int_lt, slice_get, ◌==◌}
use Rattle.std.specs.FinMap.{get, get-empty}
use Rattle.std.specs.List.{list_any}
use Rattle.std.specs.Ordering.{nat_cmp}
use Rattle.std.proofs.lemmas.Bool.{eqb-true, or_parts}
use Rattle.std.proofs.lemmas.Int.{ints}
use Rattle.fs_path.specs.declared.name.DocName.{DocName}
use Rattle.fs_query.specs.declared.listen.ListenMessage.{ListenMessage}
use Rattle.fs_query.specs.declared.listen.ListenMessage.TheVariants as listen
use Rattle.fs_status.specs.declared.refusal.Refusal.{Refusal}
use Rattle.fs_token.specs.Token.{token_of}
use Rattle.fs_write.specs.Batch.{Docs}
use Rattle.fs_write.specs.declared.write_result.WriteResult.{WriteResult}
use Rattle.fs_listen.specs.Cuts.{is_loaded, is_ready}
use Rattle.fs_listen.specs.Listening.{Listened, Listening, Loaded}
use Rattle.fs_listen.specs.Raised.{stands_at, views_of}
use Rattle.fs_listen.specs.Runs.{is_lost, reset_of}
use Rattle.fs_listen.specs.Sent.{current_from, new_targets, sent}
use Rattle.fs_listen.specs.Told.{Views, told}
use Rattle.fs_listen.specs.declared.cut.Cut.{Cut}
use Rattle.fs_listen.specs.declared.cut.Cut.TheVariants.{At, Loading, NoTarget}
use Rattle.fs_listen.proofs.Listed.{same_itself}
use Rattle.fs_listen.proofs.OfDocuments.{AreOfDocuments, is_of_document, told_of_documents}
use Rattle.fs_machine.specs.declared.unreleased.Unreleased.{Unreleased}
use Rattle.fs_machine.specs.Event.{Event, after, step}
use Rattle.fs_machine.specs.Facts.{Facts}
use Rattle.fs_machine.specs.Listen.{listening_of}
use Rattle.fs_machine.specs.Load.{load_refusal, loaded}
use Rattle.fs_machine.specs.Open.{is_full, with_session}
use Rattle.fs_machine.specs.Past.{Past}
use Rattle.fs_machine.specs.Raise.{cut_of, raised}
use Rattle.fs_machine.specs.Refusing.{outbox_is_full}
use Rattle.fs_machine.specs.Request.{arrival_refusal, arrived, asked}
use Rattle.fs_machine.specs.ResetLaws.{FloorStaysUntilGivenUp, LoadsLost, ResetsAreOfLostLoads, ResetsFollowCompaction, gives_up, has_reset, resets}
use Rattle.fs_machine.specs.Retry.{retried_if}
use Rattle.fs_machine.specs.Settle.{decided_if, decided_with, outcome_of, pending_of}
use Rattle.fs_machine.specs.State.{Machine, started}
use Rattle.fs_machine.specs.Told.{is_open, told_by}
use Rattle.fs_machine.proofs.Carried.{AtMostPrepares, asked_follows, retried_follows}
use Rattle.fs_machine.proofs.Heard.{among_open, heard_none}
use Rattle.fs_machine.proofs.Listening.{beside_listening, loaded_rest, raised_rest}
use Rattle.fs_machine.proofs.ListenersHold.{listed_in}
use Rattle.fs_machine.proofs.Runs.{all_kept, begins}
use Rattle.fs_machine.proofs.Says.{Says, load_says, load_says_if, raise_says, raise_says_at, raise_says_if, told_closed, told_says}
use Rattle.fs_machine.proofs.Told.{AddOrRemove, adds_or_removes}

-- ---- messages that reset nothing

resets-append : (id : ℕ) (ms ns : List ListenMessage) → has_reset id ms ≡ false → has_reset id ns ≡ false → has_reset id (ms ++ ns) ≡ false
resets-append id [] ns first second = second
resets-append id (m ∷ ms) ns first second =
    let both = or_parts (resets id m) (has_reset id ms) first in
    ap (λ b. b || has_reset id (ms ++ ns)) both.0 ∙ resets-append id ms ns both.1 second

answer_resets : (id : ℕ) (m : ListenMessage) → adds_or_removes m ≡ true → resets id m ≡ false
answer_resets id (listen.Add ids) is = refl
answer_resets id (listen.Remove ids cause) is = refl
answer_resets id (listen.Reset ids) is = absurd (cc)
answer_resets id (listen.Current ids time token) is = refl
answer_resets id (listen.NoChange time token) is = refl
answer_resets id (listen.Changed d ids left) is = refl
answer_resets id (listen.Deleted name time left) is = refl
answer_resets id (listen.Removed name time left) is = refl

answers_reset_none : (id : ℕ) (ms : List ListenMessage) → AddOrRemove ms → has_reset id ms ≡ false
answers_reset_none id [] are = refl
answers_reset_none id (m ∷ ms) are = ap (λ b. b || has_reset id ms) (answer_resets id m are.0) ∙ answers_reset_none id ms are.1

document_resets : (id : ℕ) (m : ListenMessage) → is_of_document m ≡ true → resets id m ≡ false
document_resets id (listen.Add ids) is = refl
document_resets id (listen.Remove ids cause) is = refl
document_resets id (listen.Reset ids) is = absurd (cc)
document_resets id (listen.Current ids time token) is = refl
document_resets id (listen.NoChange time token) is = refl
document_resets id (listen.Changed d ids left) is = refl
document_resets id (listen.Deleted name time left) is = refl
document_resets id (listen.Removed name time left) is = refl

documents_reset_none : (id : ℕ) (ms : List ListenMessage) → AreOfDocuments ms → has_reset id ms ≡ false
documents_reset_none id [] are = refl
documents_reset_none id (m ∷ ms) are = ap (λ b. b || has_reset id ms) (document_resets id m are.0) ∙ documents_reset_none id ms are.1

none_current : (id : ℕ) (time : ℤ) (ids : List ℕ) → has_reset id (current_from time ids) ≡ false
none_current id time [] = refl
none_current id time (k ∷ ids) = refl

raise_resets_none : (id : ℕ) (stands : DocName → Bool) (time : ℤ) (s : Listening) (vs : List Views) → has_reset id (sent stands time s vs) ≡ false
raise_resets_none id stands time s vs =
    resets-append id (told stands time vs) (current_from time (new_targets s) ++ listen.NoChange time (token_of time) ∷ [])
    (documents_reset_none id (told stands time vs) (told_of_documents stands time vs))
    (resets-append id (current_from time (new_targets s)) (listen.NoChange time (token_of time) ∷ []) (none_current id time (new_targets s)) refl)

says_at : (m : Machine) (session id : ℕ) (to : Cut) → has_reset id (raise_says_at m session to) ≡ false
says_at m session id (At time) =
    raise_resets_none id (stands_at m.past.history time) time (listening_of m session) (views_of m.past.history time (listening_of m session))
says_at m session id (Loading k) = refl
says_at m session id NoTarget = refl

says_if : (m : Machine) (session id : ℕ) (full ready : Bool) → has_reset id (raise_says_if m session full ready) ≡ false
says_if m session id true ready = refl
says_if m session id false true = says_at m session id (cut_of m session)
says_if m session id false false = refl

either_way : (id : ℕ) (ms : List ListenMessage) (b : Bool) → has_reset id ms ≡ false → has_reset id (cond b ms []) ≡ false
either_way id ms true none = none
either_way id ms false none = refl

-- ---- a reset is of a load

unloaded_is : (o : Option Loaded) → is_loaded o ≡ false → o ≡ None
unloaded_is None is = refl
unloaded_is (Some l) is = absurd (cc)

not_both : (b : Bool) → b ≡ true → b ≡ false → ⊥
not_both b is none = let both : true ≡ false = sym is ∙ none in cc

front_is : (a : Bool) → (a || false) ≡ true → a ≡ true
front_is true is = refl
front_is false is = absurd (cc)

module _ (m : Machine) (session target id : ℕ) (at : Option ℤ) where
  of_lost : (l : Listened) (token : Option ℤ) → get (listening_of m session).targets target ≡ Some l → load_refusal m session target at ≡ None → l.loaded ≡ None → l.token ≡ token
      → (reset : Bool) → is_lost m.past.floor token ≡ reset → has_reset id (reset_of target reset) ≡ true → LoadsLost m (Event.loading session target at) session id
  of_lost l None there allowed unloaded shown reset lost is = absurd (let none : has_reset id (reset_of target reset) ≡ false = ap (λ b. has_reset id (reset_of target b)) (sym lost) in not_both _ is none)
  of_lost l (Some token) there allowed unloaded shown false lost is = absurd (cc)
  of_lost l (Some token) there allowed unloaded shown true lost is =
      let one : id ≡ target = eqb-true id target (front_is (id == target) (front_is ((id == target) || false) is)) in
      record {
        at = at;
        loads = ap (λ k. Event.loading session k at) (sym one);
        target = l;
        listened = ap (get (listening_of m session).targets) one ∙ there;
        unloaded = unloaded;
        allowed = ap (λ k. load_refusal m session k at) one ∙ allowed;
        token = token;
        shown = shown;
        lost = grind (arith, ints);
      }

  of_unloaded : (l : Listened) (there : Bool) → is_loaded l.loaded ≡ there → get (listening_of m session).targets target ≡ Some l → load_refusal m session target at ≡ None
      → has_reset id (cond there [] (reset_of target (is_lost m.past.floor l.token))) ≡ true → LoadsLost m (Event.loading session target at) session id
  of_unloaded l true loaded there allowed is = absurd (cc)
  of_unloaded l false loaded there allowed is = of_lost l l.token there allowed (unloaded_is l.loaded loaded) refl (is_lost m.past.floor l.token) refl is

  of_load : (found : Option Listened) (refusal : Option Refusal) → get (listening_of m session).targets target ≡ found → load_refusal m session target at ≡ refusal
      → has_reset id (load_says_if m target found refusal) ≡ true → LoadsLost m (Event.loading session target at) session id
  of_load None refusal there allowed is = absurd (cc)
  of_load (Some l) (Some refusal) there allowed is = absurd (cc)
  of_load (Some l) None there allowed is = of_unloaded l (is_loaded l.loaded) refl there allowed is

  of_session : (k : ℕ) (b : Bool) → (session == k) ≡ b → has_reset id (cond b (load_says m session target at) []) ≡ true → LoadsLost m (Event.loading session target at) k id
  of_session k true same is =
      subst (λ x. LoadsLost m (Event.loading session target at) x id) (eqb-true session k same)
      (of_load (get (listening_of m session).targets target) (load_refusal m session target at) refl refl is)
  of_session k false same is = absurd (cc)

none_reset : (id : ℕ) (said : List ListenMessage) → said ≡ [] → has_reset id said ≡ true → ⊥
none_reset id said none is = not_both (has_reset id said) is (ap (has_reset id) none)

from_says : (m : Machine) (e : Event) (k id : ℕ) (said : List ListenMessage) → Says m e k said → has_reset id said ≡ true → LoadsLost m e k id
from_says m Event.opening k id said says is = absurd (none_reset id said says is)
from_says m (Event.leaving session) k id said says is = absurd (none_reset id said says is)
from_says m (Event.asking session e) k id said says is = absurd (not_both (has_reset id said) is (answers_reset_none id said says))
from_says m (Event.retrying place) k id said says is = absurd (none_reset id said says is)
from_says m (Event.deciding n) k id said says is = absurd (none_reset id said says is)
from_says m (Event.advancing now) k id said says is = absurd (none_reset id said says is)
from_says m Event.releasing k id said says is = absurd (none_reset id said says is)
from_says m (Event.compacting to) k id said says is = absurd (none_reset id said says is)
from_says m (Event.loading session target at) k id said says is = of_session m session target id at k (session == k) refl (ap (has_reset id) (sym says) ∙ is)
from_says m (Event.matching shard to) k id said says is = absurd (none_reset id said says is)
from_says m (Event.raising session) k id said says is =
    absurd (not_both (has_reset id said) is (ap (has_reset id) says
    ∙ either_way id (raise_says m session) (session == k) (says_if m session id (outbox_is_full m session) (is_ready (listening_of m session)))))
from_says m (Event.taking session) k id said says is = absurd (none_reset id said says is)

from_told : (m : Machine) (e : Event) (k id : ℕ) (b : Bool) → Facts m → is_open k m.sessions ≡ b → has_reset id (told_by m e k) ≡ true → LoadsLost m e k id
from_told m e k id true facts is reset = from_says m e k id (told_by m e k) (told_says m e k facts is) reset
from_told m e k id false facts is reset = absurd (none_reset id (told_by m e k) (told_closed m e k is) reset)

-- ---- and such a load resets

-- who listens is open
open_one : (m : Machine) (k id : ℕ) (l : Listened) (b : Bool) → Facts m → is_open k m.sessions ≡ b → get (listening_of m k).targets id ≡ Some l → is_open k m.sessions ≡ true
open_one m k id l true facts is there = is
open_one m k id l false facts is there =
    let closed = heard_none m.listeners k (among_open m.sessions (listed_in m.listeners) k false facts.listeners.listed is) in
    absurd (let none : None ≡ Some l = sym (get-empty nat_cmp id) ∙ ap (λ (s : Listening). get s.targets id) (sym closed) ∙ there in cc)

is_before : (s t : ℤ) → s <ℤ t → int_lt s t ≡ true
is_before s t less = grind (arith, ints)

load_resets : (m : Machine) (session id : ℕ) (at : Option ℤ) (is : LoadsLost m (Event.loading session id at) session id) → load_refusal m session id at ≡ None → load_says m session id at ≡ reset_of id true
load_resets m session id at is allowed =
    (λ i. load_says_if m id (is.listened i) (allowed i))
    ∙ (λ i. cond (is_loaded (is.unloaded i)) [] (reset_of id (is_lost m.past.floor (is.shown i))))
    ∙ ap (reset_of id) (is_before is.token m.past.floor is.lost)

loads_reset : (m : Machine) (session id : ℕ) (at : Option ℤ) → Facts m → (is : LoadsLost m (Event.loading session id at) session id) → load_refusal m session id at ≡ None
    → has_reset id (told_by m (Event.loading session id at) session) ≡ true
loads_reset m session id at facts is allowed =
    let says = told_says m (Event.loading session id at) session facts (open_one m session id is.target (is_open session m.sessions) facts refl is.listened) in
    ap (has_reset id) (says ∙ (λ i. cond (same_itself session i) (load_resets m session id at is allowed i) []))
    ∙ ap (λ b. (b || false) || false) (same_itself id)

by_event : (m : Machine) (e : Event) (session id : ℕ) → Facts m → (is : LoadsLost m e session id) → has_reset id (told_by m e session) ≡ true
by_event m e session id facts is =
    subst (λ d. has_reset id (told_by m d session) ≡ true) (sym is.loads)
    (loads_reset m session id is.at facts (subst (λ d. LoadsLost m d session id) is.loads is) is.allowed)

pub resets_are_of_lost_loads : ResetsAreOfLostLoads
resets_are_of_lost_loads m e session id facts = (from_told m e session id (is_open session m.sessions) facts refl, by_event m e session id facts)

-- ---- the floor

abbrev FloorStays : Machine → Machine → Type 0
FloorStays m n = n.past.floor ≡ m.past.floor

opened_floor : (m : Machine) (full : Bool) → FloorStays m (cond full m (with_session m))
opened_floor m true = refl
opened_floor m false = refl

prepares_floor : (p q : Past) → AtMostPrepares p q → q.floor ≡ p.floor
prepares_floor p q (inl same) = ap (λ (x : Past). x.floor) same
prepares_floor p q (inr one) = ap (λ (x : Past). x.floor) one.1

with_floor : (m : Machine) (u : Unreleased) (r : Result (Docs × List WriteResult) Refusal) → FloorStays m (decided_with m u r)
with_floor m u (Ok done) = refl
with_floor m u (Err refusal) = refl

decided_floor : (m : Machine) (found : Option Unreleased) → FloorStays m (decided_if m found)
decided_floor m None = refl
decided_floor m (Some u) = with_floor m u (outcome_of m.past u)

beside_floor : (m n : Machine) → n ≡ beside_listening m n → FloorStays m n
beside_floor m n is = ap (λ (x : Machine). x.past.floor) is

step_floor : (m : Machine) (e : Event) → gives_up e ≡ false → FloorStays m (step m e)
step_floor m Event.opening none = opened_floor m (is_full m)
step_floor m (Event.leaving session) none = refl
step_floor m (Event.asking session e) none = prepares_floor m.past (asked m session e).past (asked_follows m (arrived m session e) (arrival_refusal m session e.request))
step_floor m (Event.retrying place) none = prepares_floor m.past (retried_if m place (slice_get m.parked place)).past (retried_follows m place (slice_get m.parked place))
step_floor m (Event.deciding id) none = decided_floor m (pending_of m.past id)
step_floor m (Event.advancing now) none = refl
step_floor m Event.releasing none = refl
step_floor m (Event.compacting to) none = absurd (cc)
step_floor m (Event.loading session target at) none = beside_floor m (loaded m session target at) (loaded_rest m session target at)
step_floor m (Event.matching shard to) none = refl
step_floor m (Event.raising session) none = beside_floor m (raised m session) (raised_rest m session)
step_floor m (Event.taking session) none = refl

all_floors : (m : Machine) (es : List Event) → list_any gives_up es ≡ false → FloorStays m (after m es)
all_floors m [] none = refl
all_floors m (e ∷ es) none =
    let both = or_parts (gives_up e) (list_any gives_up es) none in
    all_floors (step m e) es both.1 ∙ step_floor m e both.0

pub floor_stays : FloorStaysUntilGivenUp
floor_stays config limits start events none = all_floors (started config limits start) events none

-- ---- so where nothing was given up, no token since the start is lost

since_start : (token : Option ℤ) (lost : ℤ) (start : ℤ) → token ≡ Some lost → IfSome token (λ time. start ≤ℤ time) → start ≤ℤ lost
since_start token lost start is since = subst (λ o. IfSome o (λ time. start ≤ℤ time)) is since

same_target : (a b : Listened) (o : Option Listened) → o ≡ Some a → o ≡ Some b → a ≡ b
same_target a b o first second = let both : Some a ≡ Some b = sym first ∙ second in cc

not_before : (start token floor : ℤ) → floor ≡ start → start ≤ℤ token → token <ℤ floor → ⊥
not_before start token floor same low high = let above : token <ℤ start = subst (λ x. token <ℤ x) same high in omega (arith, ints)

pub resets_follow_compaction : ResetsFollowCompaction
resets_follow_compaction config limits start events e session id target there since is = by_test (list_any gives_up events) refl where
  by_test : (b : Bool) → list_any gives_up events ≡ b → b ≡ true
  by_test true gives = refl
  by_test false none =
      let m = after (started config limits start) events in
      let facts = all_kept (started config limits start) events (begins config limits start) in
      let lost = (resets_are_of_lost_loads m e session id facts).0 is in
      let one = same_target lost.target target (get (listening_of m session).targets id) lost.listened there in
      absurd (not_before start lost.token m.past.floor (floor_stays config limits start events none)
      (since_start target.token lost.token start (ap (λ (l : Listened). l.token) (sym one) ∙ lost.shown) since) lost.lost)
