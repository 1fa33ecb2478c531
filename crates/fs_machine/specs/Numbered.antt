-- The number of a request: that of its transaction, or the one that it draws. Commits that are of no transaction draw one, batches of streams do,
-- and begins.
--
--     3 was drawn last      a plain commit and a begin draw 4; a commit of transaction 2 has 2, and so has a read in it
use Rattle.std.specs.Prelude.{ℕ, ◌+◌, Bool, true, false, is_none, Option, Some, None, unwrap_or}
use Rattle.fs_request.specs.When.{transaction_of}
use Rattle.fs_request.specs.declared.request.Request.{Request}
use Rattle.fs_request.specs.declared.request.Request.TheVariants.{Commit, GetDocument, BatchGetDocuments, RunQuery, BeginTransaction, Rollback, AddTarget, RemoveTarget, Write}
use Rattle.fs_request.specs.declared.stream_request.StreamRequest.{StreamRequest}
use Rattle.fs_request.specs.declared.stream_request.StreamRequest.TheVariants.{Open, Resume, Batch, Ask, Mixed}

-- the transaction that a request names
abbrev pub transaction_in : Request → Option ℕ
transaction_in (Commit database writes transaction) = transaction
transaction_in (GetDocument name mask when) = transaction_of when
transaction_in (BatchGetDocuments database names mask when) = transaction_of when
transaction_in (RunQuery database query when) = transaction_of when
transaction_in (BeginTransaction database options) = None
transaction_in (Rollback database transaction) = Some transaction
transaction_in (AddTarget database id t token) = None
transaction_in (RemoveTarget database id) = None
transaction_in (Write database asked) = None

-- a batch does, whatever its stream makes of it
abbrev pub stream_draws : StreamRequest → Bool
stream_draws Open = false
stream_draws (Resume n token) = false
stream_draws (Batch token writes) = true
stream_draws (Ask token) = false
stream_draws (Mixed n token writes) = false

-- whether it draws a number
abbrev pub draws : Request → Bool
draws (Commit database writes transaction) = is_none transaction
draws (GetDocument name mask when) = false
draws (BatchGetDocuments database names mask when) = false
draws (RunQuery database query when) = false
draws (BeginTransaction database options) = true
draws (Rollback database transaction) = false
draws (AddTarget database id t token) = false
draws (RemoveTarget database id) = false
draws (Write database asked) = stream_draws asked

-- its number, where so many were drawn
abbrev pub number_of : ℕ → Request → ℕ
number_of ids r = unwrap_or (transaction_in r) (ids + 1)
