-- A request that waits at a place, and is tried again: where that leads, by what becomes of it.
use Rattle.std.proofs.Common.{◌≡◌, inl, inr, refl, arith, ℕ, ◌<◌, false, List, Option, Some, None, sym, ap, ◌∙◌, subst}
use Rattle.std.specs.Prelude.{length, option_map, remove, slice_get}
use Rattle.std.proofs.lemmas.Option.{slice_get_cases}
use Rattle.fs_history.specs.declared.read.Read.{Read}
use Rattle.fs_request.specs.declared.request.Request.{Request}
use Rattle.fs_status.specs.declared.refusal.Refusal.{Refusal}
use Rattle.fs_txn.specs.Transactions.{Transactions}
use Rattle.fs_machine.specs.Commit.{unless_closed}
use Rattle.fs_machine.specs.Config.{IsAllowed}
use Rattle.fs_machine.specs.Event.{Event}
use Rattle.fs_machine.specs.Facts.{Facts}
use Rattle.fs_machine.specs.Limits.{AreAllowed}
use Rattle.fs_machine.specs.Past.{Past}
use Rattle.fs_machine.specs.Request.{Decision, answer_by, carried_by, check_refusal, decided_answer, held_by, retry_refusal, unless_held, unless_refused}
use Rattle.fs_machine.specs.Retry.{given_up, retried, retried_if, retry_answer, retry_decision, tried, tried_answer, unparked}
use Rattle.fs_machine.specs.State.{Machine}
use Rattle.fs_machine.specs.Stream.{Desk, desk_of, with_desk}
use Rattle.fs_machine.specs.declared.answer.Answer.{Answer}
use Rattle.fs_machine.specs.declared.answer.Answer.TheVariants.{Held, Refused}
use Rattle.fs_machine.specs.declared.parked_request.ParkedRequest.{ParkedRequest}
use Rattle.fs_machine.proofs.Holding.{beside}
use Rattle.fs_machine.proofs.Runs.{keeps}
use Rattle.fs_server.specs.Changes.{Does, IsClear, asking, changed, past_changed, txns_changed}
use Rattle.fs_server.specs.declared.changes.Change.{Change}
use Rattle.fs_sessions.specs.Heard.{AreHeard, Heard, listeners_of}
use Rattle.fs_server.specs.Kept.{IsKept}
use Rattle.fs_server.specs.Noted.{is_streaming, noted_reads}
use Rattle.fs_server.proofs.Asking.{heard_changed, kept_of, shards_changed}
use Rattle.fs_server.proofs.Beside.{carried_beside}
use Rattle.fs_server.proofs.Within.{behind_closed}

-- with no refusal
first_closed : (first others : Option Refusal) → unless_closed first others ≡ None → first ≡ None
first_closed None others none = refl
first_closed (Some refusal) others none = absurd (cc)

pub is_clear : (m : Machine) (session : ℕ) (q : Request) (rs : List Read) → None ≡ unless_closed (retry_refusal m q) (check_refusal m session q) → rs ≡ noted_reads m q → IsClear m session q rs
is_clear m session q rs none reads = record {
  limits = first_closed (retry_refusal m q) (check_refusal m session q) (sym none);
  check = behind_closed (retry_refusal m q) (check_refusal m session q) (sym none);
  reads = reads;
}

-- it stands there
pub there : (rs : List ParkedRequest) (place : ℕ) → place < length rs → (r : ParkedRequest) × (slice_get rs place ≡ Some r)
there rs place within =
    elim (slice_get_cases rs place).1
    [ inl h ↦ (h.0, h.2) | inr h ↦ absurd (omega (arith, within, h.0)) ]

module _ (m : Machine) (place : ℕ) (r : ParkedRequest) (here : slice_get m.parked place ≡ Some r) where
  leads : retried m place ≡ tried m place r (retry_decision m r.session r.envelope.request)
  leads = ap (retried_if m place) here

  tells : retry_answer m place ≡ Some (decided_answer m r (retry_decision m r.session r.envelope.request))
  tells = ap (option_map (tried_answer m)) here

  refused_by : (l c : Option Refusal) (d : Decision) (refusal : Refusal) → unless_closed l c ≡ Some refusal → unless_refused l (unless_refused c d) ≡ Decision.refused refusal
  refused_by None None d refusal is = absurd (cc)
  refused_by None (Some x) d refusal is = let same : x ≡ refusal = cc in ap Decision.refused same
  refused_by (Some x) c d refusal is = let same : x ≡ refusal = cc in ap Decision.refused same

  module _ (refusal : Refusal) (is : unless_closed (retry_refusal m r.envelope.request) (check_refusal m r.session r.envelope.request) ≡ Some refusal) where
    refused : retry_decision m r.session r.envelope.request ≡ Decision.refused refusal
    refused = refused_by (retry_refusal m r.envelope.request) (check_refusal m r.session r.envelope.request) (unless_held (held_by m r.envelope.request)) refusal is

    pub state_refused : with_desk (unparked m place) (given_up r.stream refusal (desk_of m)) ≡ retried m place
    state_refused = sym (leads ∙ ap (tried m place r) refused)

    pub told_refused : Some (Refused refusal) ≡ retry_answer m place
    told_refused = sym (tells ∙ ap (λ d. Some (decided_answer m r d)) refused)

  module _ (limits : retry_refusal m r.envelope.request ≡ None) (check : check_refusal m r.session r.envelope.request ≡ None) where
    decided : (h : Option ℕ) → held_by m r.envelope.request ≡ h → retry_decision m r.session r.envelope.request ≡ unless_held h
    decided h by = λ i. unless_refused (limits i) (unless_refused (check i) (unless_held (by i)))

    module _ (id : ℕ) (held : held_by m r.envelope.request ≡ Some id) where
      pub state_held : m ≡ retried m place
      state_held = sym (leads ∙ ap (tried m place r) (decided (Some id) held))

      pub told_held : Some (Held id) ≡ retry_answer m place
      told_held = sym (tells ∙ ap (λ d. Some (decided_answer m r d)) (decided (Some id) held))

    module _ (plain : is_streaming r.envelope.request ≡ false) (free : held_by m r.envelope.request ≡ None) (d : Answer × Change)
        (does : Does m (answer_by m (asking r.session r.id r.stream r.envelope) r.envelope.request) (carried_by m (asking r.session r.id r.stream r.envelope) r.envelope.request) d) where
      pub state_goes : beside (changed m d.1) m.numbers (remove m.parked place) ≡ retried m place
      state_goes =
          ap (λ n. beside n m.numbers (remove m.parked place)) does.state
          ∙ sym (leads ∙ ap (tried m place r) (decided None free) ∙ carried_beside m m.numbers (remove m.parked place) r r.envelope.request plain)

      pub told_goes : Some d.0 ≡ retry_answer m place
      told_goes = ap Some does.told ∙ sym (tells ∙ ap (λ x. Some (decided_answer m r x)) (decided None free))

-- ---- as the code has it: the server as it was made of, and what its parts are then

module _ (m0 m : Machine) (view : m0 ≡ m) (place : ℕ) (r : ParkedRequest) (here : slice_get m.parked place ≡ Some r) (limits : retry_refusal m r.envelope.request ≡ None) (check : check_refusal m r.session r.envelope.request ≡ None)
    (plain : is_streaming r.envelope.request ≡ false) (free : held_by m r.envelope.request ≡ None) (d : Answer × Change)
    (does : Does m (answer_by m (asking r.session r.id r.stream r.envelope) r.envelope.request) (carried_by m (asking r.session r.id r.stream r.envelope) r.envelope.request) d)
    (p : Past) (ts : Transactions) (ps : List ParkedRequest) (past : p ≡ past_changed m0.past d.1) (txns : ts ≡ txns_changed m0.txns m0.past.moment d.1) (less : ps ≡ remove m0.parked place) where
  pub went_on : record m0 { past = p; txns = ts; parked = ps } ≡ retried m place
  went_on =
      (λ i. record m0 { past = past i; txns = txns i; parked = less i })
      ∙ ap (λ (k : Machine). beside (changed k d.1) k.numbers (remove k.parked place)) view
      ∙ state_goes m place r here limits check plain free d does

  pub went_on_kept : (hs : List Heard) → m0.listeners ≡ listeners_of hs → IsAllowed m0.config → AreAllowed m0.limits → m0.past.shards ≡ m0.config.shards → AreHeard m0.config m0.limits m0.past hs → Facts m
      → IsKept m0.config m0.limits p ts m0.sessions hs ps m0.streams m0.numbers
  went_on_kept hs listened configured allowed shards heard facts =
      kept_of (record m0 { past = p; txns = ts; parked = ps }) hs listened configured allowed (shards_changed m0.past p d.1 m0.config.shards past shards)
      (heard_changed m0.config m0.limits m0.past p d.1 hs past heard) (subst Facts (sym went_on) (keeps m (Event.retrying place) facts))

-- it is refused
module _ (m0 m : Machine) (view : m0 ≡ m) (place : ℕ) (r : ParkedRequest) (here : slice_get m.parked place ≡ Some r) (refusal : Refusal)
    (is : unless_closed (retry_refusal m r.envelope.request) (check_refusal m r.session r.envelope.request) ≡ Some refusal)
    (d : Desk) (ps : List ParkedRequest) (told : d ≡ given_up r.stream refusal (desk_of m0)) (less : ps ≡ remove m0.parked place) where
  pub gave_up : with_desk (record m0 { parked = ps }) d ≡ retried m place
  gave_up =
      (λ i. with_desk (record m0 { parked = less i }) (told i))
      ∙ ap (λ (k : Machine). with_desk (unparked k place) (given_up r.stream refusal (desk_of k))) view
      ∙ state_refused m place r here refusal is

  pub gave_up_kept : (hs : List Heard) → m0.listeners ≡ listeners_of hs → IsAllowed m0.config → AreAllowed m0.limits → m0.past.shards ≡ m0.config.shards → AreHeard m0.config m0.limits m0.past hs → Facts m
      → IsKept m0.config m0.limits m0.past m0.txns d.1 hs ps d.0 m0.numbers
  gave_up_kept hs listened configured allowed shards heard facts =
      kept_of (with_desk (record m0 { parked = ps }) d) hs listened configured allowed shards heard (subst Facts (sym gave_up) (keeps m (Event.retrying place) facts))
