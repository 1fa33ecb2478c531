-- What each event tells a session: that targets are added or removed, that one is reset, or what a raise sends.
use Rattle.std.proofs.Common.{◌≡◌, ℕ, ℤ, Bool, true, false, cond, ◌||◌, List, [], ◌∷◌, ◌++◌, map, Option, Some, None, Result, Ok, Err, refl, sym, ap, ◌∙◌, subst}
use Rattle.std.specs.Prelude.{drop, length, slice_get, unwrap_or, ◌==◌}
use Rattle.std.specs.FinMap.{get}
use Rattle.std.proofs.lemmas.Bool.{eqb-true}
use Rattle.std.proofs.lemmas.List.{append-nil}
use Rattle.std.proofs.Math.Seq.{drop-nil}
use Rattle.fs_query.specs.declared.listen.ListenMessage.{ListenMessage}
use Rattle.fs_query.specs.declared.listen.ListenMessage.TheVariants as listen
use Rattle.fs_request.specs.declared.message.Message.{Message}
use Rattle.fs_request.specs.declared.message.Message.TheVariants as message
use Rattle.fs_request.specs.declared.request.Envelope.{Envelope}
use Rattle.fs_status.specs.declared.refusal.Refusal.{Refusal}
use Rattle.fs_write.specs.Batch.{Docs}
use Rattle.fs_write.specs.declared.write_result.WriteResult.{WriteResult}
use Rattle.fs_listen.specs.Cuts.{is_loaded, is_ready}
use Rattle.fs_listen.specs.Listening.{Listened}
use Rattle.fs_listen.specs.Raised.{raised as sent_by}
use Rattle.fs_listen.specs.Runs.{is_lost, reset_of}
use Rattle.fs_listen.specs.declared.cut.Cut.{Cut}
use Rattle.fs_listen.specs.declared.cut.Cut.TheVariants.{At, Loading, NoTarget}
use Rattle.fs_machine.specs.Event.{Event, step}
use Rattle.fs_machine.specs.Facts.{Facts}
use Rattle.fs_machine.specs.Leave.{departed}
use Rattle.fs_machine.specs.Listen.{listening_of}
use Rattle.fs_machine.specs.Load.{load_refusal, loaded_unless, loaded_with}
use Rattle.fs_machine.specs.Open.{is_full, with_session}
use Rattle.fs_machine.specs.Outbox.{outbox_of}
use Rattle.fs_machine.specs.Raise.{cut_of, raised, raised_at, raised_to_time}
use Rattle.fs_machine.specs.Refusing.{outbox_is_full}
use Rattle.fs_machine.specs.Release.{committed_out}
use Rattle.fs_machine.specs.Request.{answered, arrival_refusal, arrived, asked}
use Rattle.fs_machine.specs.Retry.{retried_if}
use Rattle.fs_machine.specs.Sessions.{outbox_in, without}
use Rattle.fs_machine.specs.Settle.{decided_if, decided_with, outcome_of, pending_of}
use Rattle.fs_machine.specs.State.{Machine}
use Rattle.fs_machine.specs.Stream.{desk_of}
use Rattle.fs_machine.specs.Told.{all_said, answer_said, is_open, outbox_said, retry_said, said_by, told_by}
use Rattle.fs_machine.specs.declared.parked_request.ParkedRequest.{ParkedRequest}
use Rattle.fs_machine.specs.declared.session.Session.{Session}
use Rattle.fs_machine.specs.declared.unreleased.Unreleased.{Unreleased}
use Rattle.fs_machine.proofs.Asking.{waiter_asks}
use Rattle.fs_machine.proofs.Carried.{asked_sessions, retried_said}
use Rattle.fs_machine.proofs.DesksSaid.{SaysNothing, all_answered_said, refused_said}
use Rattle.fs_machine.proofs.Heard.{left_closed, listened_said, outbox_more, outbox_with, outbox_without, said_behind, said_same, said_taken, said_to}
use Rattle.fs_machine.proofs.Told.{AddOrRemove, asked_answers, retried_quiet}

-- ---- what loads and raises say

abbrev pub load_says_if : Machine → ℕ → Option Listened → Option Refusal → List ListenMessage
load_says_if m target None refusal = []
load_says_if m target (Some l) (Some refusal) = []
load_says_if m target (Some l) None = cond (is_loaded l.loaded) [] (reset_of target (is_lost m.past.floor l.token))

abbrev pub load_says : Machine → ℕ → ℕ → Option ℤ → List ListenMessage
load_says m session target at = load_says_if m target (get (listening_of m session).targets target) (load_refusal m session target at)

abbrev pub raise_says_at : Machine → ℕ → Cut → List ListenMessage
raise_says_at m session (At time) = sent_by m.past.history time (listening_of m session)
raise_says_at m session (Loading id) = []
raise_says_at m session NoTarget = []

abbrev pub raise_says_if : Machine → ℕ → Bool → Bool → List ListenMessage
raise_says_if m session full ready = cond full [] (cond ready (raise_says_at m session (cut_of m session)) [])

abbrev pub raise_says : Machine → ℕ → List ListenMessage
raise_says m session = raise_says_if m session (outbox_is_full m session) (is_ready (listening_of m session))

-- ---- what is told by each event

abbrev pub Says : Machine → Event → ℕ → List ListenMessage → Type 0
Says m (Event.asking s e) k said = AddOrRemove said
Says m (Event.loading s target at) k said = said ≡ cond (s == k) (load_says m s target at) []
Says m (Event.raising s) k said = said ≡ cond (s == k) (raise_says m s) []
Says m _ k said = said ≡ []

pub none_either : {X : Type 0} (b : Bool) → ◌≡◌ {A = List X} (cond b [] []) []
none_either true = refl
none_either false = refl

-- what comes into an outbox as another server follows
abbrev comes : Machine → Machine → ℕ → List ListenMessage
comes m n k = all_said (drop (length (outbox_of m k)) (outbox_of n k))

says_nothing : (m n : Machine) (k : ℕ) → SaysNothing k m.sessions n.sessions → comes m n k ≡ []
says_nothing m n k nothing = said_behind (outbox_of m k) (outbox_of n k) nothing.0 nothing.1 ∙ nothing.2

nothing_comes : (m n : Machine) (k : ℕ) → outbox_of n k ≡ outbox_of m k → comes m n k ≡ []
nothing_comes m n k same = said_same (outbox_of m k) (outbox_of n k) same

-- ---- sessions open and leave

opened_says : (m : Machine) (k : ℕ) (full : Bool) → is_open k m.sessions ≡ true → comes m (cond full m (with_session m)) k ≡ []
opened_says m k true is = nothing_comes m m k refl
opened_says m k false is = nothing_comes m (with_session m) k (outbox_more m.sessions (record { number = m.numbers.sessions; outbox = []; has_owned = false }) k is)

no_outbox : (ss : List Session) (k : ℕ) → is_open k ss ≡ false → outbox_in k ss ≡ []
no_outbox [] k closed = refl
no_outbox (s ∷ ss) k closed = by_test (no_outbox ss k) (s.number == k) closed where
  by_test : (is_open k ss ≡ false → outbox_in k ss ≡ []) → (here : Bool) → (here || is_open k ss) ≡ false → cond here s.outbox (outbox_in k ss) ≡ []
  by_test again true closed = absurd (cc)
  by_test again false closed = again closed

departed_says : (m : Machine) (session k : ℕ) → Facts m → comes m (departed m session) k ≡ []
departed_says m session k facts = by_same (session == k) refl where
  gone : (b : Bool) → is_open session (without session m.sessions) ≡ b → comes m (departed m session) session ≡ []
  gone true is = absurd (left_closed m.sessions session 0 m.numbers.sessions facts.sessions is)
  gone false is = ap (λ ms. all_said (drop (length (outbox_of m session)) ms)) (no_outbox (without session m.sessions) session is) ∙ ap all_said (drop-nil {A = Message} (length (outbox_of m session)))

  by_same : (b : Bool) → (session == k) ≡ b → comes m (departed m session) k ≡ []
  by_same true is =
      subst (λ x. comes m (departed m session) x ≡ []) (eqb-true session k is) (gone (is_open session (without session m.sessions)) refl)
  by_same false is = nothing_comes m (departed m session) k (outbox_without m.sessions session k is)

-- ---- requests

asked_says : (m : Machine) (s : ℕ) (e : Envelope) (k : ℕ) → Says m (Event.asking s e) k (cond (s == k) (said_by (answered m s e)) [] ++ comes m (asked m s e) k)
asked_says m s e k =
    let refusal = arrival_refusal m s e.request in
    let none = nothing_comes m (asked m s e) k ((asked_sessions m (arrived m s e) refusal).outboxes k) in
    subst AddOrRemove (sym (ap (λ ms. cond (s == k) (said_by (answered m s e)) [] ++ ms) none ∙ append-nil (cond (s == k) (said_by (answered m s e)) [])))
    (by_same (s == k))
  where
    by_same : (b : Bool) → AddOrRemove (cond b (said_by (answered m s e)) [])
    by_same true = asked_answers m s e (arrival_refusal m s e.request)
    by_same false = tt

retried_says : (m : Machine) (place k : ℕ) (found : Option ParkedRequest) → Facts m → is_open k m.sessions ≡ true → slice_get m.parked place ≡ found
    → retry_said m found k ++ comes m (retried_if m place found) k ≡ []
retried_says m place k None facts is at = nothing_comes m m k refl
retried_says m place k (Some r) facts is at =
    let quiet = (retried_quiet m place r (waiter_asks m.parked place r at facts.waiters).waits).1 in
    (λ i. cond (r.session == k) (quiet i) [] ++ says_nothing m (retried_if m place (Some r)) k (retried_said m place (Some r) k is) i)
    ∙ ap (λ ms. ms ++ []) (none_either (r.session == k))

-- ---- commits

decided_says : (m : Machine) (k : ℕ) (u : Unreleased) (r : Result (Docs × List WriteResult) Refusal) → is_open k m.sessions ≡ true → comes m (decided_with m u r) k ≡ []
decided_says m k u (Ok done) is = nothing_comes m (decided_with m u (Ok done)) k refl
decided_says m k u (Err refusal) is = says_nothing m (decided_with m u (Err refusal)) k (refused_said k u.asker refusal (desk_of m) is)

decided_if_says : (m : Machine) (k : ℕ) (found : Option Unreleased) → is_open k m.sessions ≡ true → comes m (decided_if m found) k ≡ []
decided_if_says m k None is = nothing_comes m m k refl
decided_if_says m k (Some u) is = decided_says m k u (outcome_of m.past u) is

-- ---- loads

module _ (m : Machine) (session target k : ℕ) (at : Option ℤ) (is : is_open k m.sessions ≡ true) where
  loaded_says : (time : ℤ) (reset : Bool) → comes m (loaded_with m session target time reset) k ≡ cond (session == k) (reset_of target reset) []
  loaded_says time true =
      let one = message.Listen (listen.Reset (target ∷ [])) in
      said_to (outbox_of m k) (outbox_of (loaded_with m session target time true) k) (one ∷ []) (session == k) (outbox_with m.sessions session k (λ ms. ms ++ one ∷ []) is)
  loaded_says time false = nothing_comes m (loaded_with m session target time false) k refl ∙ sym (none_either (session == k))

  load_by_test : (time : ℤ) (reset there : Bool) → comes m (cond there m (loaded_with m session target time reset)) k ≡ cond (session == k) (cond there [] (reset_of target reset)) []
  load_by_test time reset true = nothing_comes m m k refl ∙ sym (none_either (session == k))
  load_by_test time reset false = loaded_says time reset

  unless_says : (found : Option Listened) (refusal : Option Refusal) → comes m (loaded_unless m session target at found refusal) k ≡ cond (session == k) (load_says_if m target found refusal) []
  unless_says None refusal = nothing_comes m m k refl ∙ sym (none_either (session == k))
  unless_says (Some l) (Some refusal) = nothing_comes m m k refl ∙ sym (none_either (session == k))
  unless_says (Some l) None = load_by_test (unwrap_or at m.past.released) (is_lost m.past.floor l.token) (is_loaded l.loaded)

-- ---- raises

module _ (m : Machine) (session k : ℕ) (is : is_open k m.sessions ≡ true) where
  raise_at : (to : Cut) → comes m (raised_at m session to) k ≡ cond (session == k) (raise_says_at m session to) []
  raise_at (At time) =
      let said = sent_by m.past.history time (listening_of m session) in
      said_to (outbox_of m k) (outbox_of (raised_to_time m session time) k) (map message.Listen said) (session == k) (outbox_with m.sessions session k (λ ms. ms ++ map message.Listen said) is)
      ∙ ap (λ ms. cond (session == k) ms []) (listened_said said)
  raise_at (Loading id) = nothing_comes m m k refl ∙ sym (none_either (session == k))
  raise_at NoTarget = nothing_comes m m k refl ∙ sym (none_either (session == k))

  raise_by_tests : (full ready : Bool) → comes m (cond full m (cond ready (raised_at m session (cut_of m session)) m)) k ≡ cond (session == k) (raise_says_if m session full ready) []
  raise_by_tests true ready = nothing_comes m m k refl ∙ sym (none_either (session == k))
  raise_by_tests false true = raise_at (cut_of m session)
  raise_by_tests false false = nothing_comes m m k refl ∙ sym (none_either (session == k))

  pub raised_says : comes m (raised m session) k ≡ cond (session == k) (raise_says m session) []
  raised_says = raise_by_tests (outbox_is_full m session) (is_ready (listening_of m session))

-- ---- every event

says : (m : Machine) (e : Event) (k : ℕ) → Facts m → is_open k m.sessions ≡ true → Says m e k (answer_said m e k ++ outbox_said m e k)
says m Event.opening k facts is = opened_says m k (is_full m) is
says m (Event.leaving session) k facts is = departed_says m session k facts
says m (Event.asking session e) k facts is = asked_says m session e k
says m (Event.retrying place) k facts is = retried_says m place k (slice_get m.parked place) facts is refl
says m (Event.deciding id) k facts is = decided_if_says m k (pending_of m.past id) is
says m (Event.advancing now) k facts is = nothing_comes m (step m (Event.advancing now)) k refl
says m Event.releasing k facts is = says_nothing m (step m Event.releasing) k (all_answered_said k (committed_out m.past) (desk_of m) is)
says m (Event.compacting to) k facts is = nothing_comes m (step m (Event.compacting to)) k refl
says m (Event.loading session target at) k facts is = unless_says m session target k at is (get (listening_of m session).targets target) (load_refusal m session target at)
says m (Event.matching shard to) k facts is = nothing_comes m (step m (Event.matching shard to)) k refl
says m (Event.raising session) k facts is = raised_says m session k is
says m (Event.taking session) k facts is =
    let n = step m (Event.taking session) in
    said_taken (outbox_of m k) (outbox_of n k) (session == k) (outbox_with m.sessions session k (λ ms. []) is)

pub told_open : (m : Machine) (e : Event) (k : ℕ) → is_open k m.sessions ≡ true → told_by m e k ≡ answer_said m e k ++ outbox_said m e k
told_open m e k is = ap (λ b. cond b (answer_said m e k ++ outbox_said m e k) []) is

pub told_closed : (m : Machine) (e : Event) (k : ℕ) → is_open k m.sessions ≡ false → told_by m e k ≡ []
told_closed m e k is = ap (λ b. cond b (answer_said m e k ++ outbox_said m e k) []) is

pub told_says : (m : Machine) (e : Event) (k : ℕ) → Facts m → is_open k m.sessions ≡ true → Says m e k (told_by m e k)
told_says m e k facts is = subst (Says m e k) (sym (told_open m e k is)) (says m e k facts is)
