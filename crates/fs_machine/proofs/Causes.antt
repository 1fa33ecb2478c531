-- A transaction is aborted, and a request waits, exactly where its cause is there.
use Rattle.std.proofs.Common.{◌≡◌, ℕ, ◌<◌, ◌≤◌, Bool, true, false, cond, List, [], ◌∷◌, Option, Some, None, refl, sym, ap, ◌∙◌, subst, arith}
use Rattle.std.specs.Prelude.{⊤, ◌+◌, codes, length, nat_le}
use Rattle.std.specs.Option.{option_map_or}
use Rattle.std.proofs.lemmas.Bool.{leb-false, lt-leb}
use Rattle.fs_path.specs.declared.name.Root.{Root}
use Rattle.fs_request.specs.declared.message.Message.TheVariants as message
use Rattle.fs_request.specs.declared.request.Envelope.{Envelope}
use Rattle.fs_request.specs.declared.request.Request.{Request}
use Rattle.fs_request.specs.declared.request.Request.TheVariants.{Commit, GetDocument, BatchGetDocuments, RunQuery, BeginTransaction, Rollback, AddTarget, RemoveTarget}
use Rattle.fs_request.specs.declared.request.Request.TheVariants as request
use Rattle.fs_request.specs.declared.stream_request.StreamRequest.{StreamRequest}
use Rattle.fs_request.specs.declared.stream_request.StreamRequest.TheVariants.{Open, Resume, Batch, Ask, Mixed}
use Rattle.fs_status.specs.Refusal.{at_limit, conflict_with}
use Rattle.fs_status.specs.declared.refusal.Refusal.{Refusal}
use Rattle.fs_txn.specs.Transactions.{expired_of, is_read_write, txn_of}
use Rattle.fs_txn.specs.declared.txn.Txn.{Txn}
use Rattle.fs_write.specs.declared.write.Write.{Write}
use Rattle.fs_machine.specs.Causes.{AbortsNameTheirCause, AskedIsAborted, AskedIsHeld, IsAborted, IsMadeToWait, NamesItsConflict, OnlyConflictsAbort, RetriedIsAborted, RetriedIsHeld, WaitsNameTheirCause}
use Rattle.fs_machine.specs.Commit.{author_refusal, committed_answer_in, committed_answer_unless, only_reads, unless_closed, writing_refusal}
use Rattle.fs_machine.specs.Conflict.{conflict}
use Rattle.fs_machine.specs.Laws.{IsConflict, IsHolder, IsLeastOf}
use Rattle.fs_machine.specs.Numbered.{transaction_in}
use Rattle.fs_machine.specs.Request.{Decision, answer_by, answered, answered_unless, arrival_refusal, arrived, carried_answer, check_refusal, decided_answer, decision, drawn, held_by, numbered, refused_by, retry_refusal, unless_full, unless_held, unless_refused}
use Rattle.fs_machine.specs.Retry.{tried_answer}
use Rattle.fs_machine.specs.State.{Machine}
use Rattle.fs_machine.specs.Stream.{taken_as, taker, taker_of}
use Rattle.fs_machine.specs.Transact.{refusal_unless}
use Rattle.fs_machine.specs.declared.answer.Answer.{Answer}
use Rattle.fs_machine.specs.declared.answer.Answer.TheVariants.{Reply, Prepared, Held, InProgress, Refused}
use Rattle.fs_machine.specs.declared.parked_request.ParkedRequest.{ParkedRequest}
use Rattle.fs_machine.proofs.Holders.{aborted_by_the_least, held_by_the_least}
use Rattle.fs_machine.proofs.Ordinary.{IsNoAbort, IsOrdinary, carried_told, is_aborted, is_commit, isnt_aborted, isnt_held, never_both, none_arrival, none_check, none_retry, refused_told}

-- ---- the least is one

same_number : (i j : ℕ) → i ≤ j → j ≤ i → i ≡ j
same_number i j up down = omega arith

-- of the same numbers
least_is : (P : ℕ → Type 0) (a b : Option ℕ) → IsLeastOf P a → IsLeastOf P b → a ≡ b
least_is P None None x y = refl
least_is P None (Some j) x y = absurd (x j y.0)
least_is P (Some i) None x y = absurd (y i x.0)
least_is P (Some i) (Some j) x y = ap Some (same_number i j (x.1 j y.0) (y.1 i x.0))

-- ---- what one that is carried out is in conflict with

abbrev conflict_told : Answer → Option ℕ
conflict_told (Refused refusal) = refusal.conflict
conflict_told (Reply message) = None
conflict_told (Prepared id time) = None
conflict_told (Held id) = None
conflict_told (InProgress n) = None

record IsInConflict (m : Machine) (q : Request) (id : ℕ) : Type 0 where
  database : Root
  writes : List Write
  transaction : ℕ
  asks : q ≡ Commit database writes (Some transaction)
  txn : Txn
  is_open : txn_of transaction m.txns.open ≡ Some txn
  read_write : is_read_write txn.kind ≡ true
  least : conflict m.config.mode m.past m.txns.open txn writes ≡ Some id

module _ (m : Machine) (r : ParkedRequest) (id : ℕ) where
  unless_conflict : (t : Txn) (found : Option ℕ) → committed_answer_unless m t found ≡ Refused (conflict_with id) → found ≡ Some id
  unless_conflict t (Some other) is = ap conflict_told is
  unless_conflict t None is = absurd (cc)

  if_conflict : (database : Root) (ws : List Write) (of : ℕ) (t : Txn) (b : Bool) → is_read_write t.kind ≡ b → txn_of of m.txns.open ≡ Some t
      → cond b (committed_answer_unless m t (conflict m.config.mode m.past m.txns.open t ws)) (Reply (message.Commit r.envelope.id t.read_time [])) ≡ Refused (conflict_with id)
      → IsInConflict m (Commit database ws (Some of)) id
  if_conflict database ws of t true writes here is = record {
    database = database;
    writes = ws;
    transaction = of;
    asks = refl;
    txn = t;
    is_open = here;
    read_write = writes;
    least = unless_conflict t (conflict m.config.mode m.past m.txns.open t ws) is;
  }
  if_conflict database ws of t false writes here is = absurd (cc)

  in_conflict : (database : Root) (ws : List Write) (of : ℕ) (found : Option Txn) → txn_of of m.txns.open ≡ found → committed_answer_in m r ws found ≡ Refused (conflict_with id)
      → IsInConflict m (Commit database ws (Some of)) id
  in_conflict database ws of None here is = absurd (cc)
  in_conflict database ws of (Some t) here is = if_conflict database ws of t (is_read_write t.kind) refl here is

  other_isnt : (q : Request) → is_commit q ≡ false → answer_by m r q ≡ Refused (conflict_with id) → IsInConflict m q id
  other_isnt q isnt is = absurd (isnt_aborted (answer_by m r q) id (carried_told m r q isnt) is)

  carried_conflict : (q : Request) → answer_by m r q ≡ Refused (conflict_with id) → IsInConflict m q id
  carried_conflict (Commit database ws None) is = absurd (cc)
  carried_conflict (Commit database ws (Some of)) is = in_conflict database ws of (txn_of of m.txns.open) refl is
  carried_conflict (GetDocument name mask when) is = other_isnt (GetDocument name mask when) refl is
  carried_conflict (BatchGetDocuments database names mask when) is = other_isnt (BatchGetDocuments database names mask when) refl is
  carried_conflict (RunQuery database query when) is = other_isnt (RunQuery database query when) refl is
  carried_conflict (BeginTransaction database o) is = other_isnt (BeginTransaction database o) refl is
  carried_conflict (Rollback database transaction) is = other_isnt (Rollback database transaction) refl is
  carried_conflict (AddTarget database target t token) is = other_isnt (AddTarget database target t token) refl is
  carried_conflict (RemoveTarget database target) is = other_isnt (RemoveTarget database target) refl is
  carried_conflict (request.Write database asked) is = other_isnt (request.Write database asked) refl is

  -- and is answered so
  answer_in_conflict : (ws : List Write) (of : ℕ) (t : Txn) → txn_of of m.txns.open ≡ Some t → is_read_write t.kind ≡ true → conflict m.config.mode m.past m.txns.open t ws ≡ Some id
      → committed_answer_in m r ws (txn_of of m.txns.open) ≡ Refused (conflict_with id)
  answer_in_conflict ws of t here writes least =
      ap (committed_answer_in m r ws) here
      ∙ ap (λ b. cond b (committed_answer_unless m t (conflict m.config.mode m.past m.txns.open t ws)) (Reply (message.Commit r.envelope.id t.read_time []))) writes
      ∙ ap (committed_answer_unless m t) least

  -- nothing that is carried out is told to wait
  unless_waits : (t : Txn) (found : Option ℕ) → committed_answer_unless m t found ≡ Held id → ⊥
  unless_waits t (Some other) is = cc
  unless_waits t None is = cc

  if_waits : (ws : List Write) (t : Txn) (b : Bool)
      → cond b (committed_answer_unless m t (conflict m.config.mode m.past m.txns.open t ws)) (Reply (message.Commit r.envelope.id t.read_time [])) ≡ Held id → ⊥
  if_waits ws t true is = unless_waits t (conflict m.config.mode m.past m.txns.open t ws) is
  if_waits ws t false is = cc

  in_waits : (ws : List Write) (found : Option Txn) → committed_answer_in m r ws found ≡ Held id → ⊥
  in_waits ws None is = cc
  in_waits ws (Some t) is = if_waits ws t (is_read_write t.kind) is

  other_waits : (q : Request) → is_commit q ≡ false → answer_by m r q ≡ Held id → ⊥
  other_waits q isnt is = isnt_held (answer_by m r q) id (carried_told m r q isnt) is

  carried_waits : (q : Request) → answer_by m r q ≡ Held id → ⊥
  carried_waits (Commit database ws None) is = cc
  carried_waits (Commit database ws (Some of)) is = in_waits ws (txn_of of m.txns.open) is
  carried_waits (GetDocument name mask when) is = other_waits (GetDocument name mask when) refl is
  carried_waits (BatchGetDocuments database names mask when) is = other_waits (BatchGetDocuments database names mask when) refl is
  carried_waits (RunQuery database query when) is = other_waits (RunQuery database query when) refl is
  carried_waits (BeginTransaction database o) is = other_waits (BeginTransaction database o) refl is
  carried_waits (Rollback database transaction) is = other_waits (Rollback database transaction) refl is
  carried_waits (AddTarget database target t token) is = other_waits (AddTarget database target t token) refl is
  carried_waits (RemoveTarget database target) is = other_waits (RemoveTarget database target) refl is
  carried_waits (request.Write database asked) is = other_waits (request.Write database asked) refl is

-- ---- no check refuses the commit of an open read-write transaction

writing_free : (ws : List Write) (id : ℕ) → writing_refusal ws id false ≡ None
writing_free [] id = refl
writing_free (w ∷ ws) id = refl

author_free : (m : Machine) (ws : List Write) (id : ℕ) (t : Txn) → txn_of id m.txns.open ≡ Some t → is_read_write t.kind ≡ true → author_refusal m ws (Some id) ≡ None
author_free m ws id t here writes =
    let reads : only_reads m (Some id) ≡ false = ap (λ o. option_map_or (λ (x : Txn). cond (is_read_write x.kind) false true) o false) here ∙ ap (λ b. cond b false true) writes in
    ap (λ o. unless_closed (refusal_unless id (expired_of id m.txns.expired) o) (writing_refusal ws id (only_reads m (Some id)))) here ∙ ap (writing_refusal ws id) reads ∙ writing_free ws id

none_is_some : (id : ℕ) → None ≡ Some id → ⊥
none_is_some id is = cc

-- ---- decisions

refused_isnt : (refusal : Refusal) (id : ℕ) → is_aborted refusal.code ≡ false → Refused refusal ≡ Refused (conflict_with id) → ⊥
refused_isnt refusal id none is = isnt_aborted (Refused refusal) id none is

-- one that comes is aborted as it is carried out
module _ (m n : Machine) (r : ParkedRequest) (id : ℕ) where
  full_isnt : (by : ℕ) (full : Bool) → decided_answer n r (cond full (Decision.refused (at_limit (codes "parked") m.limits.parked)) (Decision.held by)) ≡ Refused (conflict_with id) → ⊥
  full_isnt by true is = refused_isnt (at_limit (codes "parked") m.limits.parked) id refl is
  full_isnt by false is = cc

  comes_on : (refusal : Option Refusal) (found : Option ℕ) → IsNoAbort refusal → decided_answer n r (unless_full m (unless_refused refusal (unless_held found))) ≡ Refused (conflict_with id)
      → (refusal ≡ None) × (found ≡ None) × (carried_answer n r ≡ Refused (conflict_with id))
  comes_on (Some refusal) found none is = absurd (refused_isnt refusal id none is)
  comes_on None (Some by) none is = absurd (full_isnt by (nat_le m.limits.parked (length m.parked)) is)
  comes_on None None none is = (refl, refl, is)

-- so is one that is tried again
tried_on : (m : Machine) (r : ParkedRequest) (id : ℕ) (first refusal : Option Refusal) (found : Option ℕ) → IsNoAbort first → IsNoAbort refusal
    → decided_answer m r (unless_refused first (unless_refused refusal (unless_held found))) ≡ Refused (conflict_with id)
    → (first ≡ None) × (found ≡ None) × (carried_answer m r ≡ Refused (conflict_with id))
tried_on m r id (Some first) refusal found none more is = absurd (refused_isnt first id none is)
tried_on m r id None (Some refusal) found none more is = absurd (refused_isnt refusal id more is)
tried_on m r id None None (Some by) none more is = absurd (cc)
tried_on m r id None None None none more is = (refl, refl, is)

within_abort : (m : Machine) (r : ParkedRequest) (id : ℕ) (refusal : Option Refusal) → IsNoAbort refusal → answered_unless refusal m r ≡ Refused (conflict_with id)
    → (refusal ≡ None) × (decided_answer (drawn m r.envelope.request) r (unless_full m (decision m r.session r.envelope.request)) ≡ Refused (conflict_with id))
within_abort m r id (Some refusal) none is = absurd (isnt_aborted (refused_by m r.session r.envelope.request refusal) id (refused_told m r.session r.envelope.request refusal none) is)
within_abort m r id None none is = (refl, is)

-- ---- aborted

-- a plain commit is of none
plain_isnt : (database : Root) (ws : List Write) (other : Root) (vs : List Write) (id : ℕ) → Commit database ws None ≡ Commit other vs (Some id) → ⊥
plain_isnt database ws other vs id is = none_is_some id (ap transaction_in is)

-- of the commit of a transaction
aborted_of : (m : Machine) (q : Request) (limits : Option Refusal) (id : ℕ) → limits ≡ None → held_by m q ≡ None → IsInConflict m q id → IsAborted m q limits id
aborted_of m q limits id within free here = record {
  database = here.database;
  writes = here.writes;
  transaction = here.transaction;
  asks = here.asks;
  txn = here.txn;
  is_open = here.is_open;
  read_write = here.read_write;
  within = within;
  free = subst (IsLeastOf (IsHolder m q)) free (held_by_the_least m q);
  conflict = subst (IsLeastOf (IsConflict m.config.mode m.past m.txns.open here.txn here.writes)) here.least (aborted_by_the_least m.config.mode m.past m.txns.open here.txn here.writes);
}

module _ (m : Machine) (session : ℕ) (of : Option (List ℕ)) (id : ℕ) where
  abbrev asks_for : Request → Envelope
  asks_for q = record { id = of; request = q }

  abbrev comes_as : Request → ParkedRequest
  comes_as q = arrived m session (asks_for q)

  -- what is carried out is in conflict, and is the commit of a transaction
  came_on : (q : Request) → answered m session (asks_for q) ≡ Refused (conflict_with id)
      → (arrival_refusal m session q ≡ None) × (held_by m (comes_as q).envelope.request ≡ None) × IsInConflict (drawn m (comes_as q).envelope.request) (comes_as q).envelope.request id
  came_on q is =
      let r = comes_as q in
      let x = r.envelope.request in
      let inside = within_abort m r id (arrival_refusal m session q) (none_arrival m session q) is in
      let on = comes_on m (drawn m x) r id (check_refusal m r.session x) (held_by m x) (none_check m r.session x) inside.1 in
      (inside.0, on.1, carried_conflict (drawn m x) r id x on.2)

  no_batch : (database : Root) (asked : StreamRequest) (stream : Option ℕ) (k : Machine) (number : ℕ)
      → IsInConflict k (taken_as stream (record { session = session; id = number; stream = None; envelope = asks_for (request.Write database asked) })).envelope.request id → ⊥
  no_batch database asked None k number here = let is = here.asks in absurd (cc)
  no_batch database Open (Some n) k number here = let is = here.asks in absurd (cc)
  no_batch database (Resume n token) (Some stream) k number here = let is = here.asks in absurd (cc)
  no_batch database (Batch token ws) (Some stream) k number here = plain_isnt database ws here.database here.writes here.transaction here.asks
  no_batch database (Ask token) (Some stream) k number here = let is = here.asks in absurd (cc)
  no_batch database (Mixed n token ws) (Some stream) k number here = let is = here.asks in absurd (cc)

  asked_so : (q : Request) → answered m session (asks_for q) ≡ Refused (conflict_with id) → IsAborted m q (arrival_refusal m session q) id
  asked_so (Commit database ws None) is = let on = came_on (Commit database ws None) is in absurd (plain_isnt database ws on.2.database on.2.writes on.2.transaction on.2.asks)
  asked_so (Commit database ws (Some transaction)) is =
      let q = Commit database ws (Some transaction) in
      let on = came_on q is in
      aborted_of m q (arrival_refusal m session q) id on.0 on.1 on.2
  asked_so (GetDocument name mask when) is = let on = came_on (GetDocument name mask when) is in let asks = on.2.asks in absurd (cc)
  asked_so (BatchGetDocuments database names mask when) is = let on = came_on (BatchGetDocuments database names mask when) is in let asks = on.2.asks in absurd (cc)
  asked_so (RunQuery database query when) is = let on = came_on (RunQuery database query when) is in let asks = on.2.asks in absurd (cc)
  asked_so (BeginTransaction database o) is = let on = came_on (BeginTransaction database o) is in let asks = on.2.asks in absurd (cc)
  asked_so (Rollback database transaction) is = let on = came_on (Rollback database transaction) is in let asks = on.2.asks in absurd (cc)
  asked_so (AddTarget database target t token) is = let on = came_on (AddTarget database target t token) is in let asks = on.2.asks in absurd (cc)
  asked_so (RemoveTarget database target) is = let on = came_on (RemoveTarget database target) is in let asks = on.2.asks in absurd (cc)
  asked_so (request.Write database asked) is =
      let on = came_on (request.Write database asked) is in absurd (no_batch database asked (taker_of m session asked) (drawn m (comes_as (request.Write database asked)).envelope.request) (m.numbers.ids + 1) on.2)

  -- and the other way round
  so_asked : (database : Root) (ws : List Write) (transaction : ℕ) (t : Txn) → (let q = Commit database ws (Some transaction) in txn_of transaction m.txns.open ≡ Some t → is_read_write t.kind ≡ true → arrival_refusal m session q ≡ None
      → held_by m q ≡ None → conflict m.config.mode m.past m.txns.open t ws ≡ Some id → answered m session (asks_for q) ≡ Refused (conflict_with id))
  so_asked database ws transaction t here writes within free least =
      let q = Commit database ws (Some transaction) in
      let r = numbered m session (asks_for q) in
      ap (λ o. answered_unless o m r) within
      ∙ ap (λ o. decided_answer m r (unless_full m (unless_refused o (unless_held (held_by m q))))) (author_free m ws transaction t here writes)
      ∙ ap (λ o. decided_answer m r (unless_full m (unless_held o))) free
      ∙ answer_in_conflict m r id ws transaction t here writes least

-- what is held by none and is in conflict with this one, by what is told
module _ (m : Machine) (q : Request) (limits : Option Refusal) (id : ℕ) (aborted : IsAborted m q limits id) where
  is_free : held_by m q ≡ None
  is_free = least_is (IsHolder m q) (held_by m q) None (held_by_the_least m q) aborted.free

  is_least : conflict m.config.mode m.past m.txns.open aborted.txn aborted.writes ≡ Some id
  is_least =
      least_is (IsConflict m.config.mode m.past m.txns.open aborted.txn aborted.writes) _ (Some id)
      (aborted_by_the_least m.config.mode m.past m.txns.open aborted.txn aborted.writes) aborted.conflict

asked_is_aborted : (m : Machine) → AskedIsAborted m
asked_is_aborted m session e id = (
  asked_so m session e.id id e.request,
  λ aborted.
      let q = Commit aborted.database aborted.writes (Some aborted.transaction) in
      let limits = arrival_refusal m session e.request in
      subst (λ (x : Request). answered m session (record { id = e.id; request = x }) ≡ Refused (conflict_with id)) (sym aborted.asks)
      (so_asked m session e.id id aborted.database aborted.writes aborted.transaction aborted.txn aborted.is_open aborted.read_write
      (subst (λ (x : Request). arrival_refusal m session x ≡ None) aborted.asks aborted.within)
      (subst (λ (x : Request). held_by m x ≡ None) aborted.asks (is_free m e.request limits id aborted))
      (is_least m e.request limits id aborted)),
)

tried_so : (m : Machine) (r : ParkedRequest) (id : ℕ) → tried_answer m r ≡ Refused (conflict_with id) → IsAborted m r.envelope.request (retry_refusal m r.envelope.request) id
tried_so m r id is =
    let q = r.envelope.request in
    let on = tried_on m r id (retry_refusal m q) (check_refusal m r.session q) (held_by m q) (none_retry m q) (none_check m r.session q) is in
    aborted_of m q (retry_refusal m q) id on.0 on.1 (carried_conflict m r id q on.2)

so_tried : (m : Machine) (r : ParkedRequest) (id : ℕ) → IsAborted m r.envelope.request (retry_refusal m r.envelope.request) id → tried_answer m r ≡ Refused (conflict_with id)
so_tried m r id aborted =
    let q = r.envelope.request in
    let limits = retry_refusal m q in
    let passes : check_refusal m r.session q ≡ None =
    ap (check_refusal m r.session) aborted.asks ∙ author_free m aborted.writes aborted.transaction aborted.txn aborted.is_open aborted.read_write in
    ap (λ o. decided_answer m r (unless_refused o (unless_refused (check_refusal m r.session q) (unless_held (held_by m q))))) aborted.within
    ∙ ap (λ o. decided_answer m r (unless_refused o (unless_held (held_by m q)))) passes
    ∙ ap (λ o. decided_answer m r (unless_held o)) (is_free m q limits id aborted)
    ∙ ap (answer_by m r) aborted.asks
    ∙ answer_in_conflict m r id aborted.writes aborted.transaction aborted.txn aborted.is_open aborted.read_write (is_least m q limits id aborted)

retried_is_aborted : (m : Machine) → RetriedIsAborted m
retried_is_aborted m r id = (tried_so m r id, so_tried m r id)

-- ---- no other answer is ABORTED

abbrev IsNamed : Answer → Type 0
IsNamed (Refused refusal) = NamesItsConflict refusal
IsNamed (Reply message) = ⊤
IsNamed (Prepared id time) = ⊤
IsNamed (Held id) = ⊤
IsNamed (InProgress n) = ⊤

ordinary_named : (a : Answer) → IsOrdinary a → IsNamed a
ordinary_named (Refused refusal) ordinary = λ code. absurd (never_both (sym (ap is_aborted code) ∙ ordinary))
ordinary_named (Reply message) ordinary = tt
ordinary_named (Prepared id time) ordinary = tt
ordinary_named (Held id) ordinary = tt
ordinary_named (InProgress n) ordinary = tt

module _ (m : Machine) (r : ParkedRequest) where
  unless_named : (t : Txn) (found : Option ℕ) → IsNamed (committed_answer_unless m t found)
  unless_named t (Some other) = λ code. (other, refl)
  unless_named t None = tt

  if_named : (ws : List Write) (t : Txn) (b : Bool) → IsNamed (cond b (committed_answer_unless m t (conflict m.config.mode m.past m.txns.open t ws)) (Reply (message.Commit r.envelope.id t.read_time [])))
  if_named ws t true = unless_named t (conflict m.config.mode m.past m.txns.open t ws)
  if_named ws t false = tt

  in_named : (ws : List Write) (found : Option Txn) → IsNamed (committed_answer_in m r ws found)
  in_named ws None = tt
  in_named ws (Some t) = if_named ws t (is_read_write t.kind)

  other_named : (q : Request) → is_commit q ≡ false → IsNamed (answer_by m r q)
  other_named q isnt = ordinary_named (answer_by m r q) (carried_told m r q isnt)

  carried_named : (q : Request) → IsNamed (answer_by m r q)
  carried_named (Commit database ws None) = tt
  carried_named (Commit database ws (Some of)) = in_named ws (txn_of of m.txns.open)
  carried_named (GetDocument name mask when) = other_named (GetDocument name mask when) refl
  carried_named (BatchGetDocuments database names mask when) = other_named (BatchGetDocuments database names mask when) refl
  carried_named (RunQuery database query when) = other_named (RunQuery database query when) refl
  carried_named (BeginTransaction database o) = other_named (BeginTransaction database o) refl
  carried_named (Rollback database transaction) = other_named (Rollback database transaction) refl
  carried_named (AddTarget database target t token) = other_named (AddTarget database target t token) refl
  carried_named (RemoveTarget database target) = other_named (RemoveTarget database target) refl
  carried_named (request.Write database asked) = other_named (request.Write database asked) refl

  checked_named : (refusal : Option Refusal) (found : Option ℕ) → IsNoAbort refusal → IsNamed (decided_answer m r (unless_refused refusal (unless_held found)))
  checked_named (Some refusal) found none = ordinary_named (Refused refusal) none
  checked_named None (Some by) none = tt
  checked_named None None none = carried_named r.envelope.request

  tried_named : (first refusal : Option Refusal) (found : Option ℕ) → IsNoAbort first → IsNoAbort refusal → IsNamed (decided_answer m r (unless_refused first (unless_refused refusal (unless_held found))))
  tried_named (Some first) refusal found none more = ordinary_named (Refused first) none
  tried_named None refusal found none more = checked_named refusal found more

  full_named : (k : Machine) (by : ℕ) (full : Bool) → IsNamed (decided_answer m r (cond full (Decision.refused (at_limit (codes "parked") k.limits.parked)) (Decision.held by)))
  full_named k by true = ordinary_named (Refused (at_limit (codes "parked") k.limits.parked)) refl
  full_named k by false = tt

  comes_named : (k : Machine) (refusal : Option Refusal) (found : Option ℕ) → IsNoAbort refusal → IsNamed (decided_answer m r (unless_full k (unless_refused refusal (unless_held found))))
  comes_named k (Some refusal) found none = ordinary_named (Refused refusal) none
  comes_named k None (Some by) none = full_named k by (nat_le k.limits.parked (length k.parked))
  comes_named k None None none = carried_named r.envelope.request

asked_named : (m : Machine) (r : ParkedRequest) (refusal : Option Refusal) → IsNoAbort refusal → IsNamed (answered_unless refusal m r)
asked_named m r (Some refusal) none = ordinary_named (refused_by m r.session r.envelope.request refusal) (refused_told m r.session r.envelope.request refusal none)
asked_named m r None none =
    let q = r.envelope.request in
    comes_named (drawn m q) r m (check_refusal m r.session q) (held_by m q) (none_check m r.session q)

only_conflicts_abort : (m : Machine) → OnlyConflictsAbort m
only_conflicts_abort m = (
  λ session e refusal is. subst IsNamed is (asked_named m (arrived m session e) (arrival_refusal m session e.request) (none_arrival m session e.request)),
  λ r refusal is.
      let q = r.envelope.request in
      subst IsNamed is (tried_named m r (retry_refusal m q) (check_refusal m r.session q) (held_by m q) (none_retry m q) (none_check m r.session q)),
)

pub aborts_name_their_cause : AbortsNameTheirCause
aborts_name_their_cause m = (asked_is_aborted m, retried_is_aborted m, only_conflicts_abort m)

-- ---- made to wait

abbrev waits_told : Answer → ℕ
waits_told (Held id) = id
waits_told (Reply message) = 0
waits_told (Prepared id time) = 0
waits_told (InProgress n) = 0
waits_told (Refused refusal) = 0

module _ (m n : Machine) (r : ParkedRequest) (id : ℕ) where
  full_waits : (by : ℕ) (full : Bool) → decided_answer n r (cond full (Decision.refused (at_limit (codes "parked") m.limits.parked)) (Decision.held by)) ≡ Held id → (full ≡ false) × (by ≡ id)
  full_waits by true is = absurd (cc)
  full_waits by false is = (refl, ap waits_told is)

  comes_waits : (refusal : Option Refusal) (found : Option ℕ) → decided_answer n r (unless_full m (unless_refused refusal (unless_held found))) ≡ Held id
      → (refusal ≡ None) × (found ≡ Some id) × (nat_le m.limits.parked (length m.parked) ≡ false)
  comes_waits (Some refusal) found is = absurd (cc)
  comes_waits None (Some by) is = let both = full_waits by (nat_le m.limits.parked (length m.parked)) is in (refl, ap Some both.1, both.0)
  comes_waits None None is = absurd (carried_waits n r id r.envelope.request is)

within_waits : (m : Machine) (r : ParkedRequest) (id : ℕ) (refusal : Option Refusal) → IsNoAbort refusal → answered_unless refusal m r ≡ Held id
    → (refusal ≡ None) × (decided_answer (drawn m r.envelope.request) r (unless_full m (decision m r.session r.envelope.request)) ≡ Held id)
within_waits m r id (Some refusal) none is = absurd (isnt_held (refused_by m r.session r.envelope.request refusal) id (refused_told m r.session r.envelope.request refusal none) is)
within_waits m r id None none is = (refl, is)

taken_session : (stream : Option ℕ) (r : ParkedRequest) → (taken_as stream r).session ≡ r.session
taken_session None r = refl
taken_session (Some n) r = refl

waits_of : (m : Machine) (session : ℕ) (q : Request) (limits : Option Refusal) (id : ℕ) → limits ≡ None → check_refusal m session q ≡ None → held_by m q ≡ Some id → IsMadeToWait m session q limits id
waits_of m session q limits id within passes held = record { within = within; passes = passes; holder = subst (IsLeastOf (IsHolder m q)) held (held_by_the_least m q) }

is_held : (m : Machine) (session : ℕ) (q : Request) (limits : Option Refusal) (id : ℕ) → IsMadeToWait m session q limits id → held_by m q ≡ Some id
is_held m session q limits id waits = least_is (IsHolder m q) (held_by m q) (Some id) (held_by_the_least m q) waits.holder

module _ (m : Machine) (session : ℕ) (e : Envelope) (id : ℕ) where
  abbrev taken : ParkedRequest
  taken = arrived m session e

  its_session : taken.session ≡ session
  its_session = taken_session (taker m session e.request) (numbered m session e)

  asked_waits : answered m session e ≡ Held id → IsMadeToWait m session taken.envelope.request (arrival_refusal m session e.request) id × (length m.parked < m.limits.parked)
  asked_waits is =
      let q = taken.envelope.request in
      let inside = within_waits m taken id (arrival_refusal m session e.request) (none_arrival m session e.request) is in
      let on = comes_waits m (drawn m q) taken id (check_refusal m taken.session q) (held_by m q) inside.1 in (
        waits_of m session q (arrival_refusal m session e.request) id inside.0 (subst (λ (s : ℕ). check_refusal m s q ≡ None) its_session on.0) on.1,
        leb-false m.limits.parked (length m.parked) on.2,
      )

  waits_asked : IsMadeToWait m session taken.envelope.request (arrival_refusal m session e.request) id → length m.parked < m.limits.parked → answered m session e ≡ Held id
  waits_asked waits room =
      let q = taken.envelope.request in
      let n = drawn m q in
      let passes : check_refusal m taken.session q ≡ None = subst (λ (s : ℕ). check_refusal m s q ≡ None) (sym its_session) waits.passes in
      ap (λ o. answered_unless o m taken) waits.within
      ∙ ap (λ o. decided_answer n taken (unless_full m (unless_refused o (unless_held (held_by m q))))) passes
      ∙ ap (λ o. decided_answer n taken (unless_full m (unless_held o))) (is_held m session q (arrival_refusal m session e.request) id waits)
      ∙ ap (λ b. decided_answer n taken (cond b (Decision.refused (at_limit (codes "parked") m.limits.parked)) (Decision.held id))) (lt-leb m.limits.parked (length m.parked) room)

asked_is_held : (m : Machine) → AskedIsHeld m
asked_is_held m session e id = (asked_waits m session e id, λ both. waits_asked m session e id both.0 both.1)

tried_waits : (m : Machine) (r : ParkedRequest) (id : ℕ) (first refusal : Option Refusal) (found : Option ℕ) → decided_answer m r (unless_refused first (unless_refused refusal (unless_held found))) ≡ Held id
    → (first ≡ None) × (refusal ≡ None) × (found ≡ Some id)
tried_waits m r id (Some first) refusal found is = absurd (cc)
tried_waits m r id None (Some refusal) found is = absurd (cc)
tried_waits m r id None None (Some by) is = (refl, refl, ap (λ a. Some (waits_told a)) is)
tried_waits m r id None None None is = absurd (carried_waits m r id r.envelope.request is)

retried_is_held : (m : Machine) → RetriedIsHeld m
retried_is_held m r id = (
  λ is.
      let q = r.envelope.request in
      let on = tried_waits m r id (retry_refusal m q) (check_refusal m r.session q) (held_by m q) is in
      waits_of m r.session q (retry_refusal m q) id on.0 on.1 on.2,
  λ waits.
      let q = r.envelope.request in
      ap (λ o. decided_answer m r (unless_refused o (unless_refused (check_refusal m r.session q) (unless_held (held_by m q))))) waits.within
      ∙ ap (λ o. decided_answer m r (unless_refused o (unless_held (held_by m q)))) waits.passes
      ∙ ap (λ o. decided_answer m r (unless_held o)) (is_held m r.session q (retry_refusal m q) id waits),
)

pub waits_name_their_cause : WaitsNameTheirCause
waits_name_their_cause m = (asked_is_held m, retried_is_held m)
