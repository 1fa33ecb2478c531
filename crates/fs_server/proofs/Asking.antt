-- A request comes, and passes no limit: where that leads, by what becomes of it.
use Rattle.std.proofs.Common.{◌≡◌, ℕ, Bool, false, cond, List, [], ◌∷◌, ◌++◌, Option, Some, None, length, refl, sym, ap, ◌∙◌, subst}
use Rattle.std.specs.Prelude.{nat_le, codes}
use Rattle.fs_request.specs.declared.request.Envelope.{Envelope}
use Rattle.fs_request.specs.declared.request.Request.{Request}
use Rattle.fs_request.specs.declared.request.Request.TheVariants as request
use Rattle.fs_status.specs.Refusal.{at_limit}
use Rattle.fs_status.specs.declared.refusal.Refusal.{Refusal}
use Rattle.fs_txn.specs.Transactions.{Transactions}
use Rattle.fs_machine.specs.Config.{IsAllowed}
use Rattle.fs_machine.specs.Event.{Event}
use Rattle.fs_machine.specs.Facts.{Facts}
use Rattle.fs_machine.specs.Limits.{AreAllowed}
use Rattle.fs_machine.specs.ListenersHold.{ListenersHold}
use Rattle.fs_machine.specs.Past.{Past}
use Rattle.fs_machine.specs.Request.{Decision, answer_by, answered, answered_unless, arrival_refusal, arrived, arrives, asked, asked_unless, drawn, numbered, taken_unless, carried_by, check_refusal, decided_answer, decision, held_by, unless_full, unless_held, unless_refused}
use Rattle.fs_machine.specs.State.{Machine}
use Rattle.fs_machine.specs.declared.answer.Answer.{Answer}
use Rattle.fs_machine.specs.declared.answer.Answer.TheVariants.{Held, Refused}
use Rattle.fs_machine.specs.declared.parked_request.ParkedRequest.{ParkedRequest}
use Rattle.fs_machine.proofs.Holding.{beside}
use Rattle.fs_machine.proofs.Runs.{keeps}
use Rattle.fs_machine.specs.declared.config.Config.{Config}
use Rattle.fs_machine.specs.declared.limits.Limits.{Limits}
use Rattle.fs_server.specs.Changes.{Does, asking, changed, past_changed, txns_changed}
use Rattle.fs_sessions.specs.Heard.{AreHeard, Heard, listeners_of}
use Rattle.fs_server.specs.Kept.{IsKept}
use Rattle.fs_server.specs.Noted.{ids_after, is_streaming, own_number}
use Rattle.fs_server.specs.Plain.{after_plain, told_plain}
use Rattle.fs_server.specs.declared.changes.Change.{Change}
use Rattle.fs_server.specs.declared.changes.Change.TheVariants.{Nothing, Prepares, Commits, Ends, Begins, Notes}
use Rattle.fs_server.proofs.Heard.{heard_same}
use Rattle.fs_server.proofs.Beside.{carried_beside, drawn_is, own_carried, own_held, own_told, then_drawn, told_beside}

-- what stands at every moment is what is kept, with what is kept of what sessions listen to
pub kept_of : (m : Machine) (hs : List Heard) → m.listeners ≡ listeners_of hs → IsAllowed m.config → AreAllowed m.limits → m.past.shards ≡ m.config.shards → AreHeard m.config m.limits m.past hs → Facts m
    → IsKept m.config m.limits m.past m.txns m.sessions hs m.parked m.streams m.numbers
kept_of m hs listened configured allowed shards heard facts = record {
  configured = configured;
  allowed = allowed;
  drawn = facts.ids;
  held = facts.txns;
  numbered = facts.sessions;
  listened = subst (λ ls. ListenersHold m.past m.sessions ls m.numbers.targets) listened facts.listeners;
  waiting = facts.waiters;
  streaming = facts.streams;
  shards = shards;
  heard = heard;
}

-- a change leaves the history, what is released of it and the shards as they were
changed_history : (p : Past) (c : Change) → (past_changed p c).history ≡ p.history
changed_history p Nothing = refl
changed_history p (Prepares u) = refl
changed_history p (Commits u) = refl
changed_history p (Ends id) = refl
changed_history p (Begins id kind time) = refl
changed_history p (Notes id reads) = refl

changed_released : (p : Past) (c : Change) → (past_changed p c).released ≡ p.released
changed_released p Nothing = refl
changed_released p (Prepares u) = refl
changed_released p (Commits u) = refl
changed_released p (Ends id) = refl
changed_released p (Begins id kind time) = refl
changed_released p (Notes id reads) = refl

changed_shards : (p : Past) (c : Change) → (past_changed p c).shards ≡ p.shards
changed_shards p Nothing = refl
changed_shards p (Prepares u) = refl
changed_shards p (Commits u) = refl
changed_shards p (Ends id) = refl
changed_shards p (Begins id kind time) = refl
changed_shards p (Notes id reads) = refl

pub heard_changed : (config : Config) (limits : Limits) (p q : Past) (c : Change) (hs : List Heard) → q ≡ past_changed p c → AreHeard config limits p hs → AreHeard config limits q hs
heard_changed config limits p q c hs is all =
    heard_same config limits p q hs (ap (λ (x : Past). x.history) is ∙ changed_history p c) (ap (λ (x : Past). x.released) is ∙ changed_released p c) all

pub shards_changed : (p q : Past) (c : Change) (n : ℕ) → q ≡ past_changed p c → p.shards ≡ n → q.shards ≡ n
shards_changed p q c n is was = ap (λ (x : Past). x.shards) is ∙ changed_shards p c ∙ was

taken_none : (d : Decision) (m : Machine) → taken_unless d None m ≡ m
taken_none (Decision.refused refusal) m = refl
taken_none (Decision.held id) m = refl
taken_none Decision.goes_on m = refl

-- no stream takes it
arrived_plain : (m : Machine) (session : ℕ) (id : Option (List ℕ)) (q : Request) → is_streaming q ≡ false → numbered m session (record { id = id; request = q }) ≡ arrived m session (record { id = id; request = q })
arrived_plain m session id (request.Commit database writes transaction) plain = refl
arrived_plain m session id (request.GetDocument name mask when) plain = refl
arrived_plain m session id (request.BatchGetDocuments database names mask when) plain = refl
arrived_plain m session id (request.RunQuery database query when) plain = refl
arrived_plain m session id (request.BeginTransaction database options) plain = refl
arrived_plain m session id (request.Rollback database transaction) plain = refl
arrived_plain m session id (request.AddTarget database target t token) plain = absurd (cc)
arrived_plain m session id (request.RemoveTarget database target) plain = absurd (cc)
arrived_plain m session id (request.Write database asked) plain = absurd (cc)

module _ (m : Machine) (session : ℕ) (e : Envelope) (plain : is_streaming e.request ≡ false) where
  pub plain_asked : after_plain m session e ≡ asked m session e
  plain_asked = ap (asked_unless (arrival_refusal m session e.request) m) (arrived_plain m session e.id e.request plain)

  pub plain_told : told_plain m session e ≡ answered m session e
  plain_told = ap (answered_unless (arrival_refusal m session e.request) m) (arrived_plain m session e.id e.request plain)

module _ (m : Machine) (session : ℕ) (e : Envelope) (passes : arrival_refusal m session e.request ≡ None) where
  abbrev r : ParkedRequest
  r = numbered m session e

  abbrev then : Machine
  then = then_drawn m e.request

  leads : after_plain m session e ≡ arrives then r (unless_full m (decision m session e.request))
  leads = ap (λ o. asked_unless o m r) passes ∙ ap (λ n. arrives n r (unless_full m (decision m session e.request))) (taken_none (unless_full m (decision m session e.request)) (drawn m e.request) ∙ drawn_is m e.request)

  tells : told_plain m session e ≡ decided_answer then r (unless_full m (decision m session e.request))
  tells = ap (λ o. answered_unless o m r) passes ∙ ap (λ n. decided_answer n r (unless_full m (decision m session e.request))) (drawn_is m e.request)

  decided : (c : Option Refusal) (h : Option ℕ) → check_refusal m session e.request ≡ c → held_by m e.request ≡ h → decision m session e.request ≡ unless_refused c (unless_held h)
  decided c h is by = λ i. unless_refused (is i) (unless_held (by i))

  module _ (refusal : Refusal) (check : check_refusal m session e.request ≡ Some refusal) where
    pub state_refused : then ≡ after_plain m session e
    state_refused = sym (leads ∙ ap (λ d. arrives then r (unless_full m d)) (decided (Some refusal) (held_by m e.request) check refl))

    pub told_refused : Refused refusal ≡ told_plain m session e
    told_refused = sym (tells ∙ ap (λ d. decided_answer then r (unless_full m d)) (decided (Some refusal) (held_by m e.request) check refl))

  module _ (check : check_refusal m session e.request ≡ None) where
    abbrev as_full : ℕ → Bool → Decision
    as_full id full = cond full (Decision.refused (at_limit (codes "parked") m.limits.parked)) (Decision.held id)

    waits : (id : ℕ) (full : Bool) → nat_le m.limits.parked (length m.parked) ≡ full → held_by m e.request ≡ Some id → unless_full m (decision m session e.request) ≡ as_full id full
    waits id full is held = ap (unless_full m) (decided None (Some id) check held) ∙ ap (as_full id) is

    module _ (id : ℕ) (held : held_by m e.request ≡ Some id) where
      pub state_held : nat_le m.limits.parked (length m.parked) ≡ false
          → record then { parked = m.parked ++ asking session (own_number m.numbers.ids e.request) None e ∷ [] } ≡ after_plain m session e
      state_held room =
          ap (λ n. record then { parked = m.parked ++ asking session n None e ∷ [] }) (own_held m e.request m.numbers.ids id held)
          ∙ sym (leads ∙ ap (arrives then r) (waits id false room held))

      pub told_held : nat_le m.limits.parked (length m.parked) ≡ false → Held id ≡ told_plain m session e
      told_held room = sym (tells ∙ ap (decided_answer then r) (waits id false room held))

    module _ (plain : is_streaming e.request ≡ false) (free : held_by m e.request ≡ None) (d : Answer × Change)
        (does : Does m (answer_by m (asking session (own_number m.numbers.ids e.request) None e) e.request) (carried_by m (asking session (own_number m.numbers.ids e.request) None e) e.request) d) where
      goes : unless_full m (decision m session e.request) ≡ Decision.goes_on
      goes = ap (unless_full m) (decided None None check free)

      pub state_goes : beside (changed m d.1) (record m.numbers { ids = ids_after m.numbers.ids e.request }) m.parked ≡ after_plain m session e
      state_goes =
          ap (λ n. beside n (record m.numbers { ids = ids_after m.numbers.ids e.request }) m.parked) (does.state ∙ own_carried m session m.numbers.ids e e.request)
          ∙ sym (leads ∙ ap (arrives then r) goes ∙ carried_beside m (record m.numbers { ids = ids_after m.numbers.ids e.request }) m.parked r e.request plain)

      pub told_goes : d.0 ≡ told_plain m session e
      told_goes =
          does.told ∙ own_told m session m.numbers.ids e e.request
          ∙ sym (tells ∙ ap (decided_answer then r) goes ∙ told_beside m (record m.numbers { ids = ids_after m.numbers.ids e.request }) m.parked r e.request)

-- ---- as the code has it: the server as it was made of, and what its parts are then

module _ (m0 m : Machine) (view : m0 ≡ m) (session : ℕ) (e : Envelope) (passes : arrival_refusal m session e.request ≡ None) (check : check_refusal m session e.request ≡ None)
    (id ids : ℕ) (number : id ≡ own_number m0.numbers.ids e.request) (last : ids ≡ ids_after m0.numbers.ids e.request) where
  number_is : id ≡ own_number m.numbers.ids e.request
  number_is = number ∙ ap (λ (k : Machine). own_number k.numbers.ids e.request) view

  -- it is carried out
  module _ (plain : is_streaming e.request ≡ false) (free : held_by m e.request ≡ None) (d : Answer × Change) (does : Does m (answer_by m (asking session id None e) e.request) (carried_by m (asking session id None e) e.request) d)
      (p : Past) (ts : Transactions) (past : p ≡ past_changed m0.past d.1) (txns : ts ≡ txns_changed m0.txns m0.past.moment d.1) where
    own_does : Does m (answer_by m (asking session (own_number m.numbers.ids e.request) None e) e.request) (carried_by m (asking session (own_number m.numbers.ids e.request) None e) e.request) d
    own_does = subst (λ n. Does m (answer_by m (asking session n None e) e.request) (carried_by m (asking session n None e) e.request) d) number_is does

    pub went : record m0 { past = p; txns = ts; numbers = record m0.numbers { ids = ids } } ≡ after_plain m session e
    went =
        (λ i. record m0 { past = past i; txns = txns i; numbers = record m0.numbers { ids = last i } })
        ∙ ap (λ (k : Machine). beside (changed k d.1) (record k.numbers { ids = ids_after k.numbers.ids e.request }) k.parked) view
        ∙ state_goes m session e passes check plain free d own_does

    pub went_kept : (hs : List Heard) → m0.listeners ≡ listeners_of hs → IsAllowed m0.config → AreAllowed m0.limits → m0.past.shards ≡ m0.config.shards → AreHeard m0.config m0.limits m0.past hs → Facts m
        → IsKept m0.config m0.limits p ts m0.sessions hs m0.parked m0.streams (record m0.numbers { ids = ids })
    went_kept hs listened configured allowed shards heard facts =
        kept_of (record m0 { past = p; txns = ts; numbers = record m0.numbers { ids = ids } }) hs listened configured allowed (shards_changed m0.past p d.1 m0.config.shards past shards)
        (heard_changed m0.config m0.limits m0.past p d.1 hs past heard) (subst Facts (sym (went ∙ plain_asked m session e plain)) (keeps m (Event.asking session e) facts))

  -- it waits
  module _ (plain : is_streaming e.request ≡ false) (by : ℕ) (held : held_by m e.request ≡ Some by) (room : nat_le m.limits.parked (length m.parked) ≡ false) (ps : List ParkedRequest) (more : ps ≡ m0.parked ++ asking session id None e ∷ []) where
    pub waits_on : record m0 { parked = ps; numbers = record m0.numbers { ids = ids } } ≡ after_plain m session e
    waits_on =
        (λ i. record m0 { parked = more i; numbers = record m0.numbers { ids = last i } })
        ∙ ap (λ n. record m0 { parked = m0.parked ++ asking session n None e ∷ []; numbers = record m0.numbers { ids = ids_after m0.numbers.ids e.request } }) number
        ∙ ap (λ (k : Machine). record (then_drawn k e.request) { parked = k.parked ++ asking session (own_number k.numbers.ids e.request) None e ∷ [] }) view
        ∙ state_held m session e passes check by held room

    pub waits_kept : (hs : List Heard) → m0.listeners ≡ listeners_of hs → IsAllowed m0.config → AreAllowed m0.limits → m0.past.shards ≡ m0.config.shards → AreHeard m0.config m0.limits m0.past hs → Facts m
        → IsKept m0.config m0.limits m0.past m0.txns m0.sessions hs ps m0.streams (record m0.numbers { ids = ids })
    waits_kept hs listened configured allowed shards heard facts =
        kept_of (record m0 { parked = ps; numbers = record m0.numbers { ids = ids } }) hs listened configured allowed shards heard (subst Facts (sym (waits_on ∙ plain_asked m session e plain)) (keeps m (Event.asking session e) facts))
