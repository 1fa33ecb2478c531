-- Always: what waits is a commit or a read, a stream's batch as the commit that it is. A target is added or removed, a transaction begins or
-- ends, and a stream is opened or resumed, at once.
use Rattle.std.specs.Prelude.{◌≡◌, true, false, Bool, List, None, is_some}
use Rattle.std.specs.List.{AllByRecursion}
use Rattle.fs_request.specs.declared.request.Request.{Request}
use Rattle.fs_request.specs.declared.request.Request.TheVariants.{Commit, GetDocument, BatchGetDocuments, RunQuery, BeginTransaction, Rollback, AddTarget, RemoveTarget, Write}
use Rattle.fs_machine.specs.declared.parked_request.ParkedRequest.{ParkedRequest}

abbrev pub may_wait : Request → Bool
may_wait (Commit database writes transaction) = true
may_wait (GetDocument name mask when) = true
may_wait (BatchGetDocuments database names mask when) = true
may_wait (RunQuery database query when) = true
may_wait (BeginTransaction database options) = false
may_wait (Rollback database transaction) = false
may_wait (AddTarget database id t token) = false
may_wait (RemoveTarget database id) = false
may_wait (Write database asked) = false

-- a commit of no transaction
abbrev pub is_plain : Request → Bool
is_plain (Commit database writes None) = true
is_plain _ = false

pub record Asks (r : ParkedRequest) : Type 0 where
  pub waits : may_wait r.envelope.request ≡ true
  pub plain : is_some r.stream ≡ true → is_plain r.envelope.request ≡ true

abbrev pub WaitersAsk : List ParkedRequest → Type 0
WaitersAsk rs = AllByRecursion Asks rs
