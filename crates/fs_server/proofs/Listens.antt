-- Where a request of a target leads, and what it is answered; and what one of no target and no stream is.
use Rattle.std.proofs.Common.{◌≡◌, ℕ, ℤ, true, false, List, Option, Some, None, refl, sym, subst}
use Rattle.std.specs.Prelude.{slice_get}
use Rattle.fs_path.specs.declared.name.Root.{Root}
use Rattle.fs_query.specs.declared.target.Target.{Target}
use Rattle.fs_request.specs.declared.request.Envelope.{Envelope}
use Rattle.fs_request.specs.declared.request.Request.{Request}
use Rattle.fs_request.specs.declared.request.Request.TheVariants.{Commit, GetDocument, BatchGetDocuments, RunQuery, BeginTransaction, Rollback, AddTarget, RemoveTarget, Write}
use Rattle.fs_status.specs.declared.refusal.Refusal.{Refusal}
use Rattle.fs_machine.specs.Listen.{adding_refusal, removing_refusal}
use Rattle.fs_machine.specs.Request.{answered, answered_unless, arrived, asked, asked_unless, refused_by}
use Rattle.fs_machine.specs.State.{Machine}
use Rattle.fs_machine.specs.WaitersAsk.{WaitersAsk, may_wait}
use Rattle.fs_machine.specs.declared.answer.Answer.TheVariants.{Refused}
use Rattle.fs_machine.specs.declared.parked_request.ParkedRequest.{ParkedRequest}
use Rattle.fs_machine.proofs.Asking.{waiter_asks}
use Rattle.fs_server.specs.Listening.{adding_answer, adding_unless, after_adding, after_removing, answer_unless, removed_unless, removing_answer, removing_unless}
use Rattle.fs_server.specs.Noted.{is_streaming}

module _ (m : Machine) (session : ℕ) (e : Envelope) where
  abbrev with_request : Request → Envelope
  with_request q = record e { request = q }

  module _ (database : Root) (id : ℕ) (t : Target) (token : Option (List ℕ)) (is : e.request ≡ AddTarget database id t token) where
    adding_leads : (o : Option Refusal) → adding_unless o m session id t token ≡ asked_unless o m (arrived m session (with_request (AddTarget database id t token)))
    adding_leads (Some refusal) = refl
    adding_leads None = refl

    pub state_adding : after_adding m session id t token ≡ asked m session e
    state_adding = subst (λ q. after_adding m session id t token ≡ asked m session (with_request q)) (sym is) (adding_leads (adding_refusal m session id t token))

    adding_tells : (o : Option Refusal) → answer_unless o m session id ≡ answered_unless o m (arrived m session (with_request (AddTarget database id t token)))
    adding_tells (Some refusal) = refl
    adding_tells None = refl

    pub told_adding : adding_answer m session id t token ≡ answered m session e
    told_adding = subst (λ q. adding_answer m session id t token ≡ answered m session (with_request q)) (sym is) (adding_tells (adding_refusal m session id t token))

  module _ (database : Root) (id : ℤ) (is : e.request ≡ RemoveTarget database id) where
    removing_leads : (o : Option Refusal) → removing_unless o m session id ≡ asked_unless o m (arrived m session (with_request (RemoveTarget database id)))
    removing_leads (Some refusal) = refl
    removing_leads None = refl

    pub state_removing : after_removing m session id ≡ asked m session e
    state_removing = subst (λ q. after_removing m session id ≡ asked m session (with_request q)) (sym is) (removing_leads (removing_refusal m session id))

    removing_tells : (o : Option Refusal) → removed_unless o id ≡ answered_unless o m (arrived m session (with_request (RemoveTarget database id)))
    removing_tells (Some refusal) = refl
    removing_tells None = refl

    pub told_removing : removing_answer m session id ≡ answered m session e
    told_removing = subst (λ q. removing_answer m session id ≡ answered m session (with_request q)) (sym is) (removing_tells (removing_refusal m session id))

-- ---- of no target and no stream

-- one that is refused is told just so
pub refused_plain : (m : Machine) (session : ℕ) (q : Request) (refusal : Refusal) → is_streaming q ≡ false → Refused refusal ≡ refused_by m session q refusal
refused_plain m session (Commit database writes transaction) refusal plain = refl
refused_plain m session (GetDocument name mask when) refusal plain = refl
refused_plain m session (BatchGetDocuments database names mask when) refusal plain = refl
refused_plain m session (RunQuery database query when) refusal plain = refl
refused_plain m session (BeginTransaction database options) refusal plain = refl
refused_plain m session (Rollback database transaction) refusal plain = refl
refused_plain m session (AddTarget database id t token) refusal plain = absurd (cc)
refused_plain m session (RemoveTarget database id) refusal plain = refl
refused_plain m session (Write database asked) refusal plain = refl

-- what waits is of none
waits_plain : (q : Request) → may_wait q ≡ true → is_streaming q ≡ false
waits_plain (Commit database writes transaction) waits = refl
waits_plain (GetDocument name mask when) waits = refl
waits_plain (BatchGetDocuments database names mask when) waits = refl
waits_plain (RunQuery database query when) waits = refl
waits_plain (BeginTransaction database options) waits = refl
waits_plain (Rollback database transaction) waits = refl
waits_plain (AddTarget database id t token) waits = absurd (cc)
waits_plain (RemoveTarget database id) waits = absurd (cc)
waits_plain (Write database asked) waits = absurd (cc)

pub plain_parked : (m : Machine) (place : ℕ) (r : ParkedRequest) → slice_get m.parked place ≡ Some r → WaitersAsk m.parked → is_streaming r.envelope.request ≡ false
plain_parked m place r here waits = waits_plain r.envelope.request ((waiter_asks m.parked place r here waits).waits)
