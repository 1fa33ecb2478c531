-- Only private clauses cite this: the reads that are noted, those that a request makes in an open read-write transaction; and its number.
use Rattle.std.specs.Prelude.{ℕ, ◌+◌, Bool, true, false, List, [], Option, None, unwrap_or, if◌then◌else◌}
use Rattle.fs_history.specs.declared.read.Read.{Read}
use Rattle.fs_request.specs.declared.request.Request.{Request}
use Rattle.fs_request.specs.declared.request.Request.TheVariants.{Commit, GetDocument, BatchGetDocuments, RunQuery, BeginTransaction, Rollback, AddTarget, RemoveTarget, Write}
use Rattle.fs_request.specs.declared.when.When.{When}
use Rattle.fs_request.specs.declared.when.When.TheVariants.{Released, At, In}
use Rattle.fs_status.specs.declared.refusal.Refusal.{Refusal}
use Rattle.fs_machine.specs.Conflict.{read_behind}
use Rattle.fs_machine.specs.Numbered.{draws, transaction_in}
use Rattle.fs_machine.specs.Read.{is_noted, shown_at}
use Rattle.fs_machine.specs.Refusing.{reads_refusal}
use Rattle.fs_machine.specs.State.{Machine}
use Rattle.fs_machine.specs.Transact.{with_reads}

-- whether one is of a target or of a write stream, and so a message among others of its session (v1 reference, "Listen", "Write")
abbrev pub is_streaming : Request → Bool
is_streaming (AddTarget database id t token) = true
is_streaming (RemoveTarget database id) = true
is_streaming (Commit database writes transaction) = false
is_streaming (GetDocument name mask when) = false
is_streaming (BatchGetDocuments database names mask when) = false
is_streaming (RunQuery database query when) = false
is_streaming (BeginTransaction database options) = false
is_streaming (Rollback database transaction) = false
is_streaming (Write database asked) = true

-- when a request reads; one that reads nothing may do so at any time
abbrev pub when_of : Request → When
when_of (Commit database writes transaction) = Released
when_of (GetDocument name mask when) = when
when_of (BatchGetDocuments database names mask when) = when
when_of (RunQuery database query when) = when
when_of (BeginTransaction database options) = Released
when_of (Rollback database transaction) = Released
when_of (AddTarget database id t token) = Released
when_of (RemoveTarget database id) = Released
when_of (Write database asked) = Released

abbrev pub noted_by : Machine → When → Request → List Read
noted_by m when q = if is_noted m when then shown_at m when q else []

abbrev pub noted_reads : Machine → Request → List Read
noted_reads m q = noted_by m (when_of q) q

-- the limit that they would pass, whom they wait for, and what is left of them
abbrev pub noted_refusal : Machine → When → List Read → Option Refusal
noted_refusal m when reads = if is_noted m when then reads_refusal m reads else None

abbrev pub noted_behind : Machine → When → List Read → Option ℕ
noted_behind m when reads = if is_noted m when then read_behind m.config.mode m.past reads else None

abbrev pub noted_in : Machine → When → List Read → Machine
noted_in m Released reads = m
noted_in m (At time) reads = m
noted_in m (In id) reads = with_reads m id reads

-- ---- numbers

-- that of a request that comes: the one that it draws, or its transaction's. One that has neither has 0, which nothing has
abbrev pub own_number : ℕ → Request → ℕ
own_number ids q = if draws q then ids + 1 else unwrap_or (transaction_in q) 0

-- and the last that was drawn then
abbrev pub ids_after : ℕ → Request → ℕ
ids_after ids q = if draws q then ids + 1 else ids
