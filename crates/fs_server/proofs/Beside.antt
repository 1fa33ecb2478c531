-- What is carried out of no target and no stream, and what is answered, doesn't hang on the numbers that were drawn, nor on the requests that wait.
use Rattle.std.proofs.Common.{◌≡◌, ℕ, ◌+◌, Bool, true, false, cond, List, [], Option, Some, None, refl, ap}
use Rattle.std.specs.Prelude.{unwrap_or}
use Rattle.fs_request.specs.When.{transaction_of}
use Rattle.fs_request.specs.declared.message.Message.TheVariants as message
use Rattle.fs_request.specs.declared.request.Envelope.{Envelope}
use Rattle.fs_request.specs.declared.request.Request.{Request}
use Rattle.fs_request.specs.declared.request.Request.TheVariants.{Commit, GetDocument, BatchGetDocuments, RunQuery, BeginTransaction, Rollback, AddTarget, RemoveTarget, Write}
use Rattle.fs_request.specs.declared.stream_request.StreamRequest.{StreamRequest}
use Rattle.fs_request.specs.declared.stream_request.StreamRequest.TheVariants.{Open, Resume, Batch, Ask, Mixed}
use Rattle.fs_request.specs.declared.when.When.{When}
use Rattle.fs_request.specs.declared.when.When.TheVariants.{Released, At, In}
use Rattle.fs_txn.specs.Transactions.{is_read_write, txn_of}
use Rattle.fs_txn.specs.declared.txn.Txn.{Txn}
use Rattle.fs_write.specs.declared.write.Write.{Write as WriteOne}
use Rattle.fs_machine.specs.Commit.{committed, committed_answer, committed_answer_in, committed_answer_unless, committed_in, committed_unless}
use Rattle.fs_machine.specs.Conflict.{conflict}
use Rattle.fs_machine.specs.Numbered.{draws, number_of}
use Rattle.fs_machine.specs.Read.{get_answer, batch_get_answer, run_answer, read_in, read_time, reader_behind}
use Rattle.fs_machine.specs.Request.{answer_by, carried_by, drawn, held_by}
use Rattle.fs_machine.specs.State.{Machine}
use Rattle.fs_machine.specs.Stream.{streamed_answer}
use Rattle.fs_machine.specs.Transact.{with_ended}
use Rattle.fs_machine.specs.declared.answer.Answer.TheVariants.{Reply}
use Rattle.fs_machine.specs.declared.numbers.Numbers.{Numbers}
use Rattle.fs_machine.specs.declared.parked_request.ParkedRequest.{ParkedRequest}
use Rattle.fs_machine.proofs.Holding.{beside}
use Rattle.fs_server.specs.Changes.{asking}
use Rattle.fs_server.specs.Noted.{ids_after, is_streaming, own_number}

module _ (m : Machine) (k : Numbers) (ps : List ParkedRequest) where
  -- ---- what is carried out

  unless_beside : (r : ParkedRequest) (ws : List WriteOne) (t : Txn) (found : Option ℕ) → committed_unless (beside m k ps) r ws t found ≡ beside (committed_unless m r ws t found) k ps
  unless_beside r ws t (Some other) = refl
  unless_beside r ws t None = refl

  if_beside : (r : ParkedRequest) (ws : List WriteOne) (t : Txn) (b : Bool)
      → cond b (committed_unless (beside m k ps) r ws t (conflict m.config.mode m.past m.txns.open t ws)) (with_ended (beside m k ps) t.id)
      ≡ beside (cond b (committed_unless m r ws t (conflict m.config.mode m.past m.txns.open t ws)) (with_ended m t.id)) k ps
  if_beside r ws t true = unless_beside r ws t (conflict m.config.mode m.past m.txns.open t ws)
  if_beside r ws t false = refl

  in_beside : (r : ParkedRequest) (ws : List WriteOne) (found : Option Txn) → committed_in (beside m k ps) r ws found ≡ beside (committed_in m r ws found) k ps
  in_beside r ws None = refl
  in_beside r ws (Some t) = if_beside r ws t (is_read_write t.kind)

  commit_beside : (r : ParkedRequest) (ws : List WriteOne) (transaction : Option ℕ) → committed (beside m k ps) r ws transaction ≡ beside (committed m r ws transaction) k ps
  commit_beside r ws None = refl
  commit_beside r ws (Some id) = in_beside r ws (txn_of id m.txns.open)

  read_beside : (when : When) (q : Request) → read_in (beside m k ps) when q ≡ beside (read_in m when q) k ps
  read_beside Released q = refl
  read_beside (At time) q = refl
  read_beside (In id) q = refl

  pub carried_beside : (r : ParkedRequest) (q : Request) → is_streaming q ≡ false → carried_by (beside m k ps) r q ≡ beside (carried_by m r q) k ps
  carried_beside r (Commit database writes transaction) plain = commit_beside r writes transaction
  carried_beside r (GetDocument name mask when) plain = read_beside when (GetDocument name mask when)
  carried_beside r (BatchGetDocuments database names mask when) plain = read_beside when (BatchGetDocuments database names mask when)
  carried_beside r (RunQuery database query when) plain = read_beside when (RunQuery database query when)
  carried_beside r (BeginTransaction database options) plain = refl
  carried_beside r (Rollback database transaction) plain = refl
  carried_beside r (AddTarget database id t token) plain = absurd (cc)
  carried_beside r (RemoveTarget database id) plain = absurd (cc)
  carried_beside r (Write database asked) plain = absurd (cc)

  -- ---- what is answered

  told_unless : (t : Txn) (found : Option ℕ) → committed_answer_unless (beside m k ps) t found ≡ committed_answer_unless m t found
  told_unless t (Some other) = refl
  told_unless t None = refl

  told_if : (r : ParkedRequest) (ws : List WriteOne) (t : Txn) (b : Bool)
      → cond b (committed_answer_unless (beside m k ps) t (conflict m.config.mode m.past m.txns.open t ws)) (Reply (message.Commit r.envelope.id t.read_time []))
      ≡ cond b (committed_answer_unless m t (conflict m.config.mode m.past m.txns.open t ws)) (Reply (message.Commit r.envelope.id t.read_time []))
  told_if r ws t true = told_unless t (conflict m.config.mode m.past m.txns.open t ws)
  told_if r ws t false = refl

  told_in : (r : ParkedRequest) (ws : List WriteOne) (found : Option Txn) → committed_answer_in (beside m k ps) r ws found ≡ committed_answer_in m r ws found
  told_in r ws None = refl
  told_in r ws (Some t) = told_if r ws t (is_read_write t.kind)

  told_commit : (r : ParkedRequest) (ws : List WriteOne) (transaction : Option ℕ) → committed_answer (beside m k ps) r ws transaction ≡ committed_answer m r ws transaction
  told_commit r ws None = refl
  told_commit r ws (Some id) = told_in r ws (txn_of id m.txns.open)

  time_beside : (when : When) → read_time (beside m k ps) when ≡ read_time m when
  time_beside Released = refl
  time_beside (At time) = refl
  time_beside (In id) = refl

  told_streamed : (session : ℕ) (asked : StreamRequest) → streamed_answer (beside m k ps) session asked ≡ streamed_answer m session asked
  told_streamed session Open = refl
  told_streamed session (Resume n token) = refl
  told_streamed session (Batch token writes) = refl
  told_streamed session (Ask token) = refl
  told_streamed session (Mixed n token writes) = refl

  pub told_beside : (r : ParkedRequest) (q : Request) → answer_by (beside m k ps) r q ≡ answer_by m r q
  told_beside r (Commit database writes transaction) = told_commit r writes transaction
  told_beside r (GetDocument name mask when) = ap (get_answer m.past r.envelope.id name mask) (time_beside when)
  told_beside r (BatchGetDocuments database names mask when) = ap (batch_get_answer m.past r.envelope.id names mask) (time_beside when)
  told_beside r (RunQuery database query when) = ap (run_answer m.past r.envelope.id query) (time_beside when)
  told_beside r (BeginTransaction database options) = refl
  told_beside r (Rollback database transaction) = refl
  told_beside r (AddTarget database id t token) = refl
  told_beside r (RemoveTarget database id) = refl
  told_beside r (Write database asked) = told_streamed r.session asked

-- ---- the number that a request has

-- of those that were drawn by then
abbrev pub then_drawn : Machine → Request → Machine
then_drawn m q = beside m (record m.numbers { ids = ids_after m.numbers.ids q }) m.parked

drawn_by : (m : Machine) (b : Bool) → cond b (record m { numbers = record m.numbers { ids = m.numbers.ids + 1 } }) m ≡ beside m (record m.numbers { ids = cond b (m.numbers.ids + 1) m.numbers.ids }) m.parked
drawn_by m true = refl
drawn_by m false = refl

pub drawn_is : (m : Machine) (q : Request) → drawn m q ≡ then_drawn m q
drawn_is m q = drawn_by m (draws q)

module _ (m : Machine) (session ids : ℕ) (e : Envelope) where
  abbrev own : Request → ParkedRequest
  own q = asking session (own_number ids q) None e

  abbrev its : Request → ParkedRequest
  its q = asking session (number_of ids q) None e

  pub own_carried : (q : Request) → carried_by m (own q) q ≡ carried_by m (its q) q
  own_carried (Commit database writes None) = refl
  own_carried (Commit database writes (Some id)) = refl
  own_carried (GetDocument name mask when) = refl
  own_carried (BatchGetDocuments database names mask when) = refl
  own_carried (RunQuery database query when) = refl
  own_carried (BeginTransaction database options) = refl
  own_carried (Rollback database transaction) = refl
  own_carried (AddTarget database id t token) = refl
  own_carried (RemoveTarget database id) = refl
  own_carried (Write database asked) = refl

  pub own_told : (q : Request) → answer_by m (own q) q ≡ answer_by m (its q) q
  own_told (Commit database writes None) = refl
  own_told (Commit database writes (Some id)) = refl
  own_told (GetDocument name mask when) = refl
  own_told (BatchGetDocuments database names mask when) = refl
  own_told (RunQuery database query when) = refl
  own_told (BeginTransaction database options) = refl
  own_told (Rollback database transaction) = refl
  own_told (AddTarget database id t token) = refl
  own_told (RemoveTarget database id) = refl
  own_told (Write database asked) = refl

-- one that has to wait has a number
own_read : (m : Machine) (when : When) (q : Request) (ids by : ℕ) → reader_behind m when q ≡ Some by → unwrap_or (transaction_of when) 0 ≡ unwrap_or (transaction_of when) (ids + 1)
own_read m Released q ids by is = absurd (cc)
own_read m (At time) q ids by is = absurd (cc)
own_read m (In id) q ids by is = refl

pub own_held : (m : Machine) (q : Request) (ids by : ℕ) → held_by m q ≡ Some by → own_number ids q ≡ number_of ids q
own_held m (Commit database writes None) ids by is = refl
own_held m (Commit database writes (Some id)) ids by is = refl
own_held m (GetDocument name mask when) ids by is = own_read m when (GetDocument name mask when) ids by is
own_held m (BatchGetDocuments database names mask when) ids by is = own_read m when (BatchGetDocuments database names mask when) ids by is
own_held m (RunQuery database query when) ids by is = own_read m when (RunQuery database query when) ids by is
own_held m (BeginTransaction database options) ids by is = absurd (cc)
own_held m (Rollback database transaction) ids by is = absurd (cc)
own_held m (AddTarget database id t token) ids by is = absurd (cc)
own_held m (RemoveTarget database id) ids by is = absurd (cc)
own_held m (Write database asked) ids by is = absurd (cc)
