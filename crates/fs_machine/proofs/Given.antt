-- What comes into the outbox of a session, event by event, is what is taken from it, and then what waits there.
use Rattle.std.proofs.Common.{◌≡◌, ◌⊎◌, inl, inr, ℕ, ℤ, ◌<◌, Bool, true, false, cond, ◌||◌, List, [], ◌∷◌, ◌++◌, map, Option, Some, None, Result, Ok, Err, refl, sym, ap, ◌∙◌, subst, arith}
use Rattle.std.specs.Prelude.{◌==◌, drop, length, slice_get, unwrap_or}
use Rattle.std.specs.FinMap.{get}
use Rattle.std.proofs.Math.Seq.{drop-append_seam}
use Rattle.std.proofs.lemmas.Bool.{eqb-true}
use Rattle.std.proofs.lemmas.List.{append-nil, append_assoc}
use Rattle.fs_query.specs.declared.listen.ListenMessage.TheVariants as listen
use Rattle.fs_request.specs.declared.message.Message.{Message}
use Rattle.fs_request.specs.declared.message.Message.TheVariants as message
use Rattle.fs_status.specs.declared.refusal.Refusal.{Refusal}
use Rattle.fs_listen.specs.Cuts.{is_loaded, is_ready}
use Rattle.fs_listen.specs.Listening.{Listened}
use Rattle.fs_listen.specs.Raised.{raised as sent_by}
use Rattle.fs_listen.specs.Runs.{is_lost}
use Rattle.fs_listen.specs.declared.cut.Cut.{Cut}
use Rattle.fs_listen.specs.declared.cut.Cut.TheVariants.{At, Loading, NoTarget}
use Rattle.fs_write.specs.Batch.{Docs}
use Rattle.fs_write.specs.declared.write_result.WriteResult.{WriteResult}
use Rattle.fs_machine.specs.Event.{Event, after, step}
use Rattle.fs_machine.specs.Facts.{Facts}
use Rattle.fs_machine.specs.Given.{AreTaken, given_by, given_in, lost_by, lost_in, taken_by, taken_in}
use Rattle.fs_machine.specs.Listen.{listening_of}
use Rattle.fs_machine.specs.Load.{load_refusal, loaded_unless, loaded_with, with_reset}
use Rattle.fs_machine.specs.Open.{is_full, with_session}
use Rattle.fs_machine.specs.Outbox.{outbox_of}
use Rattle.fs_machine.specs.Raise.{cut_of, raised, raised_at}
use Rattle.fs_machine.specs.Refusing.{outbox_is_full}
use Rattle.fs_machine.specs.Release.{committed_out}
use Rattle.fs_machine.specs.Request.{arrival_refusal, arrived, asked}
use Rattle.fs_machine.specs.Retry.{retried_if}
use Rattle.fs_machine.specs.Sessions.{emptied, outbox_in, with_outbox, without}
use Rattle.fs_machine.specs.Settle.{decided_if, decided_with, outcome_of, pending_of}
use Rattle.fs_machine.specs.State.{Machine}
use Rattle.fs_machine.specs.Stream.{desk_of}
use Rattle.fs_machine.specs.Told.{all_said, is_open, outbox_said}
use Rattle.fs_machine.specs.declared.parked_request.ParkedRequest.{ParkedRequest}
use Rattle.fs_machine.specs.declared.session.Session.{Session}
use Rattle.fs_machine.specs.declared.unreleased.Unreleased.{Unreleased}
use Rattle.fs_machine.proofs.Carried.{asked_alone, asked_sessions, retried_alone, retried_numbers, retried_said}
use Rattle.fs_machine.proofs.Desks.{numbers_answered, numbers_refused}
use Rattle.fs_machine.proofs.DesksSaid.{all_answered_said, refused_said}
use Rattle.fs_machine.proofs.Heard.{left_closed, open_given, open_more, open_same, open_without, outbox_with, outbox_without, said_same, said_taken}
use Rattle.fs_machine.proofs.Listening.{loaded_numbers, loaded_rest, raised_numbers, raised_rest}
use Rattle.fs_machine.proofs.Runs.{keeps}
use Rattle.fs_machine.proofs.SessionsNumbered.{numbers_of, same_numbers}

-- ---- more messages

-- a session has some more
abbrev Gets : ℕ → List Session → List Session → Type 0
Gets k before now = (more : List Message) × (outbox_in k now ≡ outbox_in k before ++ more)

gets_nothing : (k : ℕ) (before now : List Session) → outbox_in k now ≡ outbox_in k before → Gets k before now
gets_nothing k before now same = ([], same ∙ sym (append-nil (outbox_in k before)))

-- one that isn't open has none
closed_none : (ss : List Session) (k : ℕ) → is_open k ss ≡ false → outbox_in k ss ≡ []
closed_none [] k is = refl
closed_none (s ∷ ss) k is = by_test (closed_none ss k) (s.number == k) is where
  by_test : (is_open k ss ≡ false → outbox_in k ss ≡ []) → (here : Bool) → (here || is_open k ss) ≡ false → cond here s.outbox (outbox_in k ss) ≡ []
  by_test again true is = absurd (cc)
  by_test again false is = again is

still_none : (ss now : List Session) (k : ℕ) → numbers_of now ≡ numbers_of ss → is_open k ss ≡ false → outbox_in k now ≡ outbox_in k ss
still_none ss now k same is = closed_none now k (open_same ss now k same ∙ is) ∙ sym (closed_none ss k is)

gets_if : (k : ℕ) (ss now : List Session) → numbers_of now ≡ numbers_of ss → (is_open k ss ≡ true → Gets k ss now) → Gets k ss now
gets_if k ss now same gets = by_test (is_open k ss) refl where
  by_test : (b : Bool) → is_open k ss ≡ b → Gets k ss now
  by_test true is = gets is
  by_test false is = gets_nothing k ss now (still_none ss now k same is)

gets_more : (k of : ℕ) (more : List Message) (ss : List Session) → Gets k ss (with_outbox of (λ ms. ms ++ more) ss)
gets_more k of more ss = gets_if k ss (with_outbox of (λ ms. ms ++ more) ss) (same_numbers ss of (λ ms. ms ++ more)) (λ is. by_test (of == k) (outbox_with ss of k (λ ms. ms ++ more) is)) where
  by_test : (b : Bool) → outbox_in k (with_outbox of (λ ms. ms ++ more) ss) ≡ cond b (outbox_in k ss ++ more) (outbox_in k ss) → Gets k ss (with_outbox of (λ ms. ms ++ more) ss)
  by_test true same = (more, same)
  by_test false same = gets_nothing k ss (with_outbox of (λ ms. ms ++ more) ss) same

-- they are those behind what stood there
all_behind : (before now more : List Message) → now ≡ before ++ more → before ++ drop (length before) now ≡ now
all_behind before now more is = ap (λ ms. before ++ drop (length before) ms) is ∙ ap (λ ms. before ++ ms) (drop-append_seam before more) ∙ sym is

-- ---- what each event leaves of an outbox

module _ (m : Machine) (k : ℕ) where
  retried_gets : (place : ℕ) (found : Option ParkedRequest) → Gets k m.sessions (retried_if m place found).sessions
  retried_gets place found =
      gets_if k m.sessions (retried_if m place found).sessions (retried_numbers m place found) (λ is. let said = retried_said m place found k is in (said.0, said.1))

  with_gets : (u : Unreleased) (r : Result (Docs × List WriteResult) Refusal) → Gets k m.sessions (decided_with m u r).sessions
  with_gets u (Ok done) = gets_nothing k m.sessions m.sessions refl
  with_gets u (Err refusal) =
      gets_if k m.sessions (decided_with m u (Err refusal)).sessions (numbers_refused u.asker refusal (desk_of m)) (λ is. let said = refused_said k u.asker refusal (desk_of m) is in (said.0, said.1))

  decided_gets : (found : Option Unreleased) → Gets k m.sessions (decided_if m found).sessions
  decided_gets None = gets_nothing k m.sessions m.sessions refl
  decided_gets (Some u) = with_gets u (outcome_of m.past u)

  released_gets : Gets k m.sessions (step m Event.releasing).sessions
  released_gets =
      gets_if k m.sessions (step m Event.releasing).sessions (numbers_answered (committed_out m.past) (desk_of m))
      (λ is. let said = all_answered_said k (committed_out m.past) (desk_of m) is in (said.0, said.1))

  reset_gets : (session target : ℕ) (reset : Bool) → Gets k m.sessions (with_reset session target reset m.sessions)
  reset_gets session target true = gets_more k session (message.Listen (listen.Reset (target ∷ [])) ∷ []) m.sessions
  reset_gets session target false = gets_nothing k m.sessions m.sessions refl

  loaded_gets_by : (session target : ℕ) (time : ℤ) (reset there : Bool) → Gets k m.sessions (cond there m (loaded_with m session target time reset)).sessions
  loaded_gets_by session target time reset true = gets_nothing k m.sessions m.sessions refl
  loaded_gets_by session target time reset false = reset_gets session target reset

  loaded_gets : (session target : ℕ) (at : Option ℤ) (found : Option Listened) (refusal : Option Refusal) → Gets k m.sessions (loaded_unless m session target at found refusal).sessions
  loaded_gets session target at None refusal = gets_nothing k m.sessions m.sessions refl
  loaded_gets session target at (Some l) (Some refusal) = gets_nothing k m.sessions m.sessions refl
  loaded_gets session target at (Some l) None = loaded_gets_by session target (unwrap_or at m.past.released) (is_lost m.past.floor l.token) (is_loaded l.loaded)

  raised_at_gets : (session : ℕ) (to : Cut) → Gets k m.sessions (raised_at m session to).sessions
  raised_at_gets session (At time) = gets_more k session (map message.Listen (sent_by m.past.history time (listening_of m session))) m.sessions
  raised_at_gets session (Loading id) = gets_nothing k m.sessions m.sessions refl
  raised_at_gets session NoTarget = gets_nothing k m.sessions m.sessions refl

  raised_gets : (session : ℕ) (full ready : Bool) → Gets k m.sessions (cond full m (cond ready (raised_at m session (cut_of m session)) m)).sessions
  raised_gets session true ready = gets_nothing k m.sessions m.sessions refl
  raised_gets session false true = raised_at_gets session (cut_of m session)
  raised_gets session false false = gets_nothing k m.sessions m.sessions refl

-- a session more has no messages
opened_outbox : (ss : List Session) (s : Session) (k : ℕ) → s.outbox ≡ [] → outbox_in k (ss ++ s ∷ []) ≡ outbox_in k ss
opened_outbox [] s k none = by_test (s.number == k) where
  by_test : (b : Bool) → cond b s.outbox [] ≡ []
  by_test true = none
  by_test false = refl
opened_outbox (t ∷ ss) s k none = ap (cond (t.number == k) t.outbox) (opened_outbox ss s k none)

opened_if : (m : Machine) (k : ℕ) (full : Bool) → outbox_of (cond full m (with_session m)) k ≡ outbox_of m k
opened_if m k true = refl
opened_if m k false = opened_outbox m.sessions (record { number = m.numbers.sessions; outbox = []; has_owned = false }) k refl

none_either : (b : Bool) → ◌≡◌ {A = List Message} (cond b [] []) []
none_either true = refl
none_either false = refl

emptied_outbox : (ss : List Session) (session k : ℕ) → outbox_in k (emptied session ss) ≡ cond (session == k) [] (outbox_in k ss)
emptied_outbox ss session k = by_test (is_open k ss) refl where
  by_test : (b : Bool) → is_open k ss ≡ b → outbox_in k (emptied session ss) ≡ cond (session == k) [] (outbox_in k ss)
  by_test true is = outbox_with ss session k (λ ms. []) is
  by_test false is =
      let none = closed_none ss k is in
      still_none ss (emptied session ss) k (same_numbers ss session (λ ms. [])) is ∙ none ∙ sym (ap (cond (session == k) []) none ∙ none_either (session == k))

is_false : (b : Bool) → (b ≡ true → ⊥) → b ≡ false
is_false true never = absurd (never refl)
is_false false never = refl

-- one that leaves has none
left_outbox : (m : Machine) (session k : ℕ) → Facts m → (session == k) ≡ true → is_open k (without session m.sessions) ≡ false
left_outbox m session k facts is =
    let one = eqb-true session k is in
    subst (λ j. is_open j (without session m.sessions) ≡ false) one (is_false (is_open session (without session m.sessions)) (left_closed m.sessions session 0 m.numbers.sessions facts.sessions))

-- ---- one event

left_leaves : (m : Machine) (session k : ℕ) → Facts m → (b : Bool) → (session == k) ≡ b
    → outbox_of m k ++ [] ≡ cond b (outbox_of m k) [] ++ outbox_in k (without session m.sessions)
left_leaves m session k facts true is = ap (λ ms. outbox_of m k ++ ms) (sym (closed_none (without session m.sessions) k (left_outbox m session k facts is)))
left_leaves m session k facts false is = append-nil (outbox_of m k) ∙ sym (outbox_without m.sessions session k is)

taken_leaves : (before now : List Message) (b : Bool) → now ≡ cond b [] before → before ++ [] ≡ cond b before [] ++ now
taken_leaves before now true is = ap (λ ms. before ++ ms) (sym is)
taken_leaves before now false is = append-nil before ∙ sym is

leaves : (m : Machine) (e : Event) (k : ℕ) → Facts m → outbox_of m k ++ given_by m e k ≡ taken_by m e k ++ (lost_by m e k ++ outbox_of (step m e) k)
leaves m Event.opening k facts = append-nil (outbox_of m k) ∙ sym (opened_if m k (is_full m))
leaves m (Event.leaving session) k facts = left_leaves m session k facts (session == k) refl
leaves m (Event.asking session e) k facts = append-nil (outbox_of m k) ∙ sym ((asked_sessions m (arrived m session e) (arrival_refusal m session e.request)).outboxes k)
leaves m (Event.retrying place) k facts =
    let gets = retried_gets m k place (slice_get m.parked place) in all_behind (outbox_of m k) (outbox_of (step m (Event.retrying place)) k) gets.0 gets.1
leaves m (Event.deciding id) k facts =
    let gets = decided_gets m k (pending_of m.past id) in all_behind (outbox_of m k) (outbox_of (step m (Event.deciding id)) k) gets.0 gets.1
leaves m (Event.advancing now) k facts = append-nil (outbox_of m k)
leaves m Event.releasing k facts = let gets = released_gets m k in all_behind (outbox_of m k) (outbox_of (step m Event.releasing) k) gets.0 gets.1
leaves m (Event.compacting to) k facts = append-nil (outbox_of m k)
leaves m (Event.loading session target at) k facts =
    let gets = loaded_gets m k session target at (get (listening_of m session).targets target) (load_refusal m session target at) in
    all_behind (outbox_of m k) (outbox_of (step m (Event.loading session target at)) k) gets.0 gets.1
leaves m (Event.matching shard to) k facts = append-nil (outbox_of m k)
leaves m (Event.raising session) k facts =
    let gets = raised_gets m k session (outbox_is_full m session) (is_ready (listening_of m session)) in
    all_behind (outbox_of m k) (outbox_of (step m (Event.raising session)) k) gets.0 gets.1
leaves m (Event.taking session) k facts = taken_leaves (outbox_of m k) (outbox_of (step m (Event.taking session)) k) (session == k) (emptied_outbox m.sessions session k)

-- ---- a session that left comes never again

abbrev IsGone : ℕ → Machine → Type 0
IsGone k m = (is_open k m.sessions ≡ false) × (k < m.numbers.sessions)

still_gone : (m n : Machine) (k : ℕ) → numbers_of n.sessions ≡ numbers_of m.sessions → n.numbers.sessions ≡ m.numbers.sessions → IsGone k m → IsGone k n
still_gone m n k same given gone = (open_same m.sessions n.sessions k same ∙ gone.0, subst (λ to. k < to) (sym given) gone.1)

gone_opened : (m : Machine) (k : ℕ) (full : Bool) → IsGone k m → IsGone k (cond full m (with_session m))
gone_opened m k true gone = gone
gone_opened m k false gone =
    let below = gone.1 in (
      is_false (is_open k (with_session m).sessions) (λ now.
          let one = eqb-true m.numbers.sessions k (open_more m.sessions (record { number = m.numbers.sessions; outbox = []; has_owned = false }) k gone.0 now) in
          omega (arith, one, below)),
      omega (arith, below),
    )

decided_numbers_with : (m : Machine) (u : Unreleased) (r : Result (Docs × List WriteResult) Refusal) → numbers_of (decided_with m u r).sessions ≡ numbers_of m.sessions
decided_numbers_with m u (Ok done) = refl
decided_numbers_with m u (Err refusal) = numbers_refused u.asker refusal (desk_of m)

decided_given_with : (m : Machine) (u : Unreleased) (r : Result (Docs × List WriteResult) Refusal) → (decided_with m u r).numbers.sessions ≡ m.numbers.sessions
decided_given_with m u (Ok done) = refl
decided_given_with m u (Err refusal) = refl

gone_decided : (m : Machine) (k : ℕ) (found : Option Unreleased) → IsGone k m → IsGone k (decided_if m found)
gone_decided m k None gone = gone
gone_decided m k (Some u) gone = still_gone m (decided_with m u (outcome_of m.past u)) k (decided_numbers_with m u (outcome_of m.past u)) (decided_given_with m u (outcome_of m.past u)) gone

gone_stays : (m : Machine) (e : Event) (k : ℕ) → IsGone k m → IsGone k (step m e)
gone_stays m Event.opening k gone = gone_opened m k (is_full m) gone
gone_stays m (Event.leaving session) k gone =
    (is_false (is_open k (without session m.sessions)) (λ now. let both : true ≡ false = sym (open_without m.sessions session k now) ∙ gone.0 in cc), gone.1)
gone_stays m (Event.asking session e) k gone =
    let alone = asked_alone m (arrived m session e) (arrival_refusal m session e.request) in still_gone m (asked m session e) k alone.sessions alone.given gone
gone_stays m (Event.retrying place) k gone =
    let alone = retried_alone m place (slice_get m.parked place) in still_gone m (step m (Event.retrying place)) k alone.sessions alone.given gone
gone_stays m (Event.deciding id) k gone = gone_decided m k (pending_of m.past id) gone
gone_stays m (Event.advancing now) k gone = gone
gone_stays m Event.releasing k gone = still_gone m (step m Event.releasing) k (numbers_answered (committed_out m.past) (desk_of m)) refl gone
gone_stays m (Event.compacting to) k gone = gone
gone_stays m (Event.loading session target at) k gone =
    still_gone m (step m (Event.loading session target at)) k (loaded_numbers m session target at) (ap (λ (n : Machine). n.numbers.sessions) (loaded_rest m session target at)) gone
gone_stays m (Event.matching shard to) k gone = gone
gone_stays m (Event.raising session) k gone = still_gone m (raised m session) k (raised_numbers m session) (ap (λ (n : Machine). n.numbers.sessions) (raised_rest m session)) gone
gone_stays m (Event.taking session) k gone = still_gone m (step m (Event.taking session)) k (same_numbers m.sessions session (λ ms. [])) refl gone

gone_for_good : (m : Machine) (es : List Event) (k : ℕ) → IsGone k m → is_open k (after m es).sessions ≡ false
gone_for_good m [] k gone = gone.0
gone_for_good m (e ∷ es) k gone = gone_for_good (step m e) es k (gone_stays m e k gone)

none_taken_by : (m : Machine) (e : Event) (k : ℕ) → outbox_of m k ≡ [] → taken_by m e k ≡ []
none_taken_by m (Event.taking session) k none = ap (λ ms. cond (session == k) ms []) none ∙ none_either (session == k)
none_taken_by m e k none = refl

none_taken : (m : Machine) (es : List Event) (k : ℕ) → IsGone k m → taken_in m es k ≡ []
none_taken m [] k gone = refl
none_taken m (e ∷ es) k gone =
    ap (λ ms. ms ++ taken_in (step m e) es k) (none_taken_by m e k (closed_none m.sessions k gone.0)) ∙ none_taken (step m e) es k (gone_stays m e k gone)

-- ---- what is lost is the last

none_or_gone : (m : Machine) (session k : ℕ) → Facts m → (cond (session == k) (outbox_of m k) [] ≡ []) ⊎ IsGone k (step m (Event.leaving session))
none_or_gone m session k facts = by_test (session == k) refl (is_open k m.sessions) refl where
  by_test : (b : Bool) → (session == k) ≡ b → (c : Bool) → is_open k m.sessions ≡ c → (cond b (outbox_of m k) [] ≡ []) ⊎ IsGone k (step m (Event.leaving session))
  by_test true is true now = inr (left_outbox m session k facts is, open_given m.sessions m.numbers.sessions k facts.sessions now)
  by_test true is false now = inl (closed_none m.sessions k now)
  by_test false is c now = inl refl

lost_or_gone : (m : Machine) (e : Event) (k : ℕ) → Facts m → (lost_by m e k ≡ []) ⊎ IsGone k (step m e)
lost_or_gone m (Event.leaving session) k facts = none_or_gone m session k facts
lost_or_gone m e k facts = inl refl

moved_on : (xs ys : List Message) → (xs ≡ []) ⊎ (ys ≡ []) → xs ++ ys ≡ ys ++ xs
moved_on xs ys (inl none) = ap (λ ms. ms ++ ys) none ∙ sym (append-nil ys) ∙ ap (λ ms. ys ++ ms) (sym none)
moved_on xs ys (inr none) = ap (λ ms. xs ++ ms) none ∙ append-nil xs ∙ ap (λ ms. ms ++ xs) (sym none)

both_taken : (out given taken lost next more later gone last : List Message) → out ++ given ≡ taken ++ (lost ++ next) → next ++ more ≡ later ++ (gone ++ last) → lost ++ later ≡ later ++ lost
    → out ++ (given ++ more) ≡ (taken ++ later) ++ ((lost ++ gone) ++ last)
both_taken out given taken lost next more later gone last one rest moved =
    sym (append_assoc out given more) ∙ ap (λ ms. ms ++ more) one ∙ append_assoc taken (lost ++ next) more
    ∙ ap (λ ms. taken ++ ms)
    (append_assoc lost next more ∙ ap (λ ms. lost ++ ms) rest ∙ sym (append_assoc lost later (gone ++ last)) ∙ ap (λ ms. ms ++ (gone ++ last)) moved
    ∙ append_assoc later lost (gone ++ last) ∙ ap (λ ms. later ++ ms) (sym (append_assoc lost gone last)))
    ∙ sym (append_assoc taken later ((lost ++ gone) ++ last))

pub messages_are_taken : (m : Machine) (es : List Event) (k : ℕ) → Facts m → AreTaken m es k
messages_are_taken m [] k facts = record { all = append-nil (outbox_of m k); lost = λ now. refl }
messages_are_taken m (e ∷ es) k facts =
    let n = step m e in
    let rest = messages_are_taken n es k (keeps m e facts) in
    record {
      all =
          both_taken (outbox_of m k) (given_by m e k) (taken_by m e k) (lost_by m e k) (outbox_of n k) (given_in n es k) (taken_in n es k) (lost_in n es k) (outbox_of (after n es) k)
          (leaves m e k facts) rest.all (moved_on (lost_by m e k) (taken_in n es k) (last_lost (lost_or_gone m e k facts)));
      lost = λ now. none_lost now (lost_or_gone m e k facts) (rest.lost now);
    }
  where
    last_lost : (lost_by m e k ≡ []) ⊎ IsGone k (step m e) → (lost_by m e k ≡ []) ⊎ (taken_in (step m e) es k ≡ [])
    last_lost (inl none) = inl none
    last_lost (inr gone) = inr (none_taken (step m e) es k gone)

    none_lost : is_open k (after (step m e) es).sessions ≡ true → (lost_by m e k ≡ []) ⊎ IsGone k (step m e) → lost_in (step m e) es k ≡ [] → lost_by m e k ++ lost_in (step m e) es k ≡ []
    none_lost now (inl none) rest = ap (λ ms. ms ++ lost_in (step m e) es k) none ∙ rest
    none_lost now (inr gone) rest = absurd (let both : true ≡ false = sym now ∙ gone_for_good (step m e) es k gone in cc)

-- ---- what is said in them

left_said : (m : Machine) (session k : ℕ) → Facts m → (b : Bool) → (session == k) ≡ b → outbox_in k (without session m.sessions) ≡ cond b [] (outbox_of m k)
left_said m session k facts true is = closed_none (without session m.sessions) k (left_outbox m session k facts is)
left_said m session k facts false is = outbox_without m.sessions session k is

pub said_is_given : (m : Machine) (e : Event) (k : ℕ) → Facts m → outbox_said m e k ≡ all_said (given_by m e k)
said_is_given m Event.opening k facts = said_same (outbox_of m k) (outbox_of (step m Event.opening) k) (opened_if m k (is_full m))
said_is_given m (Event.leaving session) k facts = said_taken (outbox_of m k) (outbox_of (step m (Event.leaving session)) k) (session == k) (left_said m session k facts (session == k) refl)
said_is_given m (Event.asking session e) k facts =
    said_same (outbox_of m k) (outbox_of (asked m session e) k) ((asked_sessions m (arrived m session e) (arrival_refusal m session e.request)).outboxes k)
said_is_given m (Event.retrying place) k facts = refl
said_is_given m (Event.deciding id) k facts = refl
said_is_given m (Event.advancing now) k facts = said_same (outbox_of m k) (outbox_of m k) refl
said_is_given m Event.releasing k facts = refl
said_is_given m (Event.compacting to) k facts = said_same (outbox_of m k) (outbox_of m k) refl
said_is_given m (Event.loading session target at) k facts = refl
said_is_given m (Event.matching shard to) k facts = said_same (outbox_of m k) (outbox_of m k) refl
said_is_given m (Event.raising session) k facts = refl
said_is_given m (Event.taking session) k facts = said_taken (outbox_of m k) (outbox_of (step m (Event.taking session)) k) (session == k) (emptied_outbox m.sessions session k)
