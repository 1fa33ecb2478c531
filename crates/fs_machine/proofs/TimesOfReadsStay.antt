-- What an open transaction was begun with stays as it was begun: its time and whether it writes.
use Rattle.std.proofs.Common.{◌≡◌, ℕ, ℤ, Bool, true, false, cond, List, [], ◌∷◌, Option, Some, None, Result, Ok, Err, refl, sym, ap, ◌∙◌, subst, arith}
use Rattle.std.specs.Prelude.{◌+◌, ◌==◌, pos, negsuc, not, slice_get, unwrap_or}
use Rattle.std.specs.List.{AllByRecursion}
use Rattle.fs_request.specs.declared.message.Message.{Message}
use Rattle.fs_request.specs.declared.message.Message.TheVariants as message
use Rattle.fs_request.specs.declared.options.TransactionOptions.{TransactionOptions}
use Rattle.fs_request.specs.declared.request.Envelope.{Envelope}
use Rattle.fs_request.specs.declared.request.Request.{Request}
use Rattle.fs_request.specs.declared.request.Request.TheVariants.{Commit, GetDocument, BatchGetDocuments, RunQuery, BeginTransaction, Rollback, AddTarget, RemoveTarget}
use Rattle.fs_request.specs.declared.request.Request.TheVariants as request
use Rattle.fs_request.specs.declared.when.When.{When}
use Rattle.fs_request.specs.declared.when.When.TheVariants.{Released, At, In}
use Rattle.fs_path.specs.declared.name.Root.{Root}
use Rattle.fs_history.specs.declared.read.Read.{Read}
use Rattle.fs_status.specs.declared.refusal.Refusal.{Refusal}
use Rattle.fs_txn.specs.Expiry.{is_over}
use Rattle.fs_txn.specs.Transactions.{Transactions, all_noted, is_read_write, noted, txn_of}
use Rattle.fs_txn.specs.declared.kind.Kind.{Kind}
use Rattle.fs_txn.specs.declared.txn.Txn.{Txn}
use Rattle.fs_write.specs.Batch.{Docs}
use Rattle.fs_write.specs.declared.write.Write.{Write}
use Rattle.fs_write.specs.declared.write_result.WriteResult.{WriteResult}
use Rattle.fs_machine.specs.Commit.{committed_in, committed_unless}
use Rattle.fs_machine.specs.Conflict.{conflict}
use Rattle.fs_machine.specs.Event.{Event, after, step}
use Rattle.fs_machine.specs.Facts.{Facts}
use Rattle.fs_machine.specs.IdsAreDrawn.{times_open}
use Rattle.fs_machine.specs.Numbered.{draws}
use Rattle.fs_machine.specs.Open.{is_full, with_session}
use Rattle.fs_machine.specs.Read.{read_in, shown_at}
use Rattle.fs_machine.specs.ReadLaws.{TimesOfReadsStay}
use Rattle.fs_machine.specs.Request.{Decision, answered, answered_unless, arrival_refusal, arrived, arrives, asked, asked_unless, carried_by, check_refusal, comes, decided_answer, decision, numbered, taken_unless, unless_full, unless_refused}
use Rattle.fs_machine.specs.Retry.{retried_if, retry_decision, tried, unparked}
use Rattle.fs_machine.specs.Settle.{decided_if, decided_with, outcome_of, pending_of}
use Rattle.fs_machine.specs.State.{Machine}
use Rattle.fs_machine.specs.Transact.{kind_of, time_asked, with_begun, with_ended}
use Rattle.fs_machine.specs.declared.answer.Answer.{Answer}
use Rattle.fs_machine.specs.declared.answer.Answer.TheVariants.{Reply, Prepared, Held, InProgress, Refused}
use Rattle.fs_machine.specs.declared.parked_request.ParkedRequest.{ParkedRequest}
use Rattle.fs_machine.specs.declared.unreleased.Unreleased.{Unreleased}
use Rattle.fs_machine.proofs.Carried.{drawn_count, drawn_later, number_open, own_or_drawn}
use Rattle.fs_machine.proofs.IdsAreDrawn.{parked_less}
use Rattle.fs_machine.proofs.Listening.{loaded_rest, raised_rest}
use Rattle.fs_machine.proofs.OldNumbers.{IsOld, not_counted, stays_old}
use Rattle.fs_machine.proofs.Streaming.{arrived_number, streamed_rest, taken_rest}
use Rattle.fs_machine.proofs.TransactionsHold.{all_changed, all_left, all_open, all_put, noted_keeps, with_noted}

-- the open one of a number has this time, and this kind
module _ (id : ℕ) (time : ℤ) (kind : Kind) where
  abbrev IsAsBegun : Txn → Type 0
  IsAsBegun v = v.id ≡ id → (v.read_time ≡ time) × (v.kind ≡ kind)

  abbrev AreAsBegun : Machine → Type 0
  AreAsBegun m = AllByRecursion IsAsBegun m.txns.open

  noted_begun : (v : Txn) (r : Read) (now : ℤ) → IsAsBegun v → IsAsBegun (with_noted r now v)
  noted_begun v r now begun is =
      let same = noted_keeps r now v in
      let was = begun (sym same.2 ∙ is) in
      (same.1 ∙ was.0, same.0 ∙ was.1)

  all_noted_begun : (ts : Transactions) (of : ℕ) (rs : List Read) (now : ℤ) → AllByRecursion IsAsBegun ts.open → AllByRecursion IsAsBegun (all_noted ts of rs now).open
  all_noted_begun ts of [] now all = all_changed IsAsBegun (λ v. record v { used = now }) ts.open of (λ v found begun. begun) all
  all_noted_begun ts of (r ∷ rs) now all = all_noted_begun (noted ts of r now) of rs now (all_changed IsAsBegun (with_noted r now) ts.open of (λ v found begun. noted_begun v r now begun) all)

  ended_begun : (m : Machine) (of : ℕ) → AreAsBegun m → AreAsBegun (with_ended m of)
  ended_begun m of all = all_left IsAsBegun (λ v. not (v.id == of)) m.txns.open all

  unless_begun : (m : Machine) (r : ParkedRequest) (ws : List Write) (t : Txn) (found : Option ℕ) → AreAsBegun m → AreAsBegun (committed_unless m r ws t found)
  unless_begun m r ws t (Some other) all = ended_begun m t.id all
  unless_begun m r ws t None all = ended_begun m t.id all

  if_begun : (m : Machine) (r : ParkedRequest) (ws : List Write) (t : Txn) (b : Bool) → AreAsBegun m
      → AreAsBegun (cond b (committed_unless m r ws t (conflict m.config.mode m.past m.txns.open t ws)) (with_ended m t.id))
  if_begun m r ws t true all = unless_begun m r ws t (conflict m.config.mode m.past m.txns.open t ws) all
  if_begun m r ws t false all = ended_begun m t.id all

  in_begun : (m : Machine) (r : ParkedRequest) (ws : List Write) (found : Option Txn) → AreAsBegun m → AreAsBegun (committed_in m r ws found)
  in_begun m r ws None all = all
  in_begun m r ws (Some t) all = if_begun m r ws t (is_read_write t.kind) all

  read_begun : (m : Machine) (when : When) (q : Request) → AreAsBegun m → AreAsBegun (read_in m when q)
  read_begun m Released q all = all
  read_begun m (At at) q all = all
  read_begun m (In of) q all = all_noted_begun m.txns of (shown_at m (In of) q) m.past.moment all

  other_begun : (m : Machine) (of : ℕ) (o : TransactionOptions) → (of ≡ id → ⊥) → AreAsBegun m → AreAsBegun (with_begun m of o)
  other_begun m of o other all =
      let t : Txn = record { id = of; kind = kind_of o; read_time = unwrap_or (time_asked o) m.past.released; begun = m.past.moment; used = m.past.moment; reads = [] } in
      all_put IsAsBegun t m.txns.open (λ is. absurd (other is)) all

  carried_begun : (m : Machine) (r : ParkedRequest) (q : Request) → drawn_count id r q ≡ 0 → AreAsBegun m → AreAsBegun (carried_by m r q)
  carried_begun m r (Commit database ws None) none all = all
  carried_begun m r (Commit database ws (Some of)) none all = in_begun m r ws (txn_of of m.txns.open) all
  carried_begun m r (GetDocument name mask when) none all = read_begun m when (GetDocument name mask when) all
  carried_begun m r (BatchGetDocuments database names mask when) none all = read_begun m when (BatchGetDocuments database names mask when) all
  carried_begun m r (RunQuery database query when) none all = read_begun m when (RunQuery database query when) all
  carried_begun m r (BeginTransaction database o) none all = other_begun m r.id o (not_counted id r.id none) all
  carried_begun m r (Rollback database transaction) none all = ended_begun m transaction all
  carried_begun m r (AddTarget database target t token) none all = all
  carried_begun m r (RemoveTarget database (pos target)) none all = all
  carried_begun m r (RemoveTarget database (negsuc target)) none all = all
  carried_begun m r (request.Write database asked) none all = subst AreAsBegun (sym (streamed_rest m r.session asked)) all

  arrives_begun : (m : Machine) (r : ParkedRequest) (d : Decision) → drawn_count id r r.envelope.request ≡ 0 → AreAsBegun m → AreAsBegun (arrives m r d)
  arrives_begun m r (Decision.refused refusal) none all = all
  arrives_begun m r (Decision.held by) none all = all
  arrives_begun m r Decision.goes_on none all = carried_begun m r r.envelope.request none all

  comes_begun : (m : Machine) (r : ParkedRequest) (d : Decision) → drawn_count id r r.envelope.request ≡ 0 → AreAsBegun m → AreAsBegun (comes m r d)
  comes_begun m r d none all =
      subst (λ (x : Machine). AreAsBegun (arrives x r d)) (sym (taken_rest d r.stream m)) (arrives_begun (record m { streams = (taken_unless d r.stream m).streams }) r d none all)

  drawn_begun : (m : Machine) (r : ParkedRequest) (d : Decision) (b : Bool) → drawn_count id r r.envelope.request ≡ 0 → AreAsBegun m
      → AreAsBegun (comes (cond b (record m { numbers = record m.numbers { ids = m.numbers.ids + 1 } }) m) r d)
  drawn_begun m r d true none all = comes_begun (record m { numbers = record m.numbers { ids = m.numbers.ids + 1 } }) r d none all
  drawn_begun m r d false none all = comes_begun m r d none all

  asked_begun : (m : Machine) (r : ParkedRequest) (refusal : Option Refusal) → drawn_count id r r.envelope.request ≡ 0 → AreAsBegun m → AreAsBegun (asked_unless refusal m r)
  asked_begun m r (Some refusal) none all = all
  asked_begun m r None none all = drawn_begun m r (unless_full m (decision m r.session r.envelope.request)) (draws r.envelope.request) none all

  tried_begun : (m : Machine) (place : ℕ) (r : ParkedRequest) (d : Decision) → drawn_count id r r.envelope.request ≡ 0 → AreAsBegun m → AreAsBegun (tried m place r d)
  tried_begun m place r (Decision.refused refusal) none all = all
  tried_begun m place r (Decision.held by) none all = all
  tried_begun m place r Decision.goes_on none all = carried_begun (unparked m place) r r.envelope.request none all

  retried_begun : (m : Machine) (place : ℕ) (found : Option ParkedRequest) → slice_get m.parked place ≡ found → IsOld id m → AreAsBegun m → AreAsBegun (retried_if m place found)
  retried_begun m place None is old all = all
  retried_begun m place (Some r) is old all =
      let less = parked_less id m.parked place r is in
      let own = own_or_drawn id r r.envelope.request in
      let none = old.0 in
      tried_begun m place r (retry_decision m r.session r.envelope.request) (omega (arith, less, own, none)) all

  opened_begun : (m : Machine) (full : Bool) → AreAsBegun m → AreAsBegun (cond full m (with_session m))
  opened_begun m true all = all
  opened_begun m false all = all

  decided_begun : (m : Machine) (u : Unreleased) (r : Result (Docs × List WriteResult) Refusal) → AreAsBegun m → AreAsBegun (decided_with m u r)
  decided_begun m u (Ok done) all = all
  decided_begun m u (Err refusal) all = all

  if_decided : (m : Machine) (found : Option Unreleased) → AreAsBegun m → AreAsBegun (decided_if m found)
  if_decided m None all = all
  if_decided m (Some u) all = decided_begun m u (outcome_of m.past u) all

  stays_begun : (m : Machine) (e : Event) → IsOld id m → AreAsBegun m → AreAsBegun (step m e)
  stays_begun m Event.opening old all = opened_begun m (is_full m) all
  stays_begun m (Event.leaving session) old all = all
  stays_begun m (Event.asking session e) old all = let r = arrived m session e in asked_begun m r (arrival_refusal m session e.request) (drawn_later m r id (arrived_number m session e) old.1) all
  stays_begun m (Event.retrying place) old all = retried_begun m place (slice_get m.parked place) refl old all
  stays_begun m (Event.deciding of) old all = if_decided m (pending_of m.past of) all
  stays_begun m (Event.advancing now) old all = all_left IsAsBegun (λ v. not (is_over now v)) m.txns.open all
  stays_begun m Event.releasing old all = all
  stays_begun m (Event.compacting to) old all = all
  stays_begun m (Event.loading session target at) old all = subst AreAsBegun (sym (loaded_rest m session target at)) all
  stays_begun m (Event.matching shard to) old all = all
  stays_begun m (Event.raising session) old all = subst AreAsBegun (sym (raised_rest m session)) all
  stays_begun m (Event.taking session) old all = all

  all_begun : (m : Machine) (es : List Event) → IsOld id m → AreAsBegun m → AreAsBegun (after m es)
  all_begun m [] old all = all
  all_begun m (e ∷ es) old all = all_begun (step m e) es (stays_old id m old e) (stays_begun m e old all)

-- ---- at its begin

-- none has a number that was never drawn
none_yet : (ts : List Txn) (id : ℕ) (time : ℤ) (kind : Kind) → times_open id ts ≡ 0 → AllByRecursion (IsAsBegun id time kind) ts
none_yet [] id time kind none = tt
none_yet (v ∷ ts) id time kind none = (λ is. absurd (not_counted id v.id (omega (arith, none)) is), none_yet ts id time kind (omega (arith, none)))

abbrev number_in : Message → ℕ
number_in (message.BeginTransaction of id) = id
number_in _ = 0

abbrev number_begun : Answer → ℕ
number_begun (Reply m) = number_in m
number_begun (Prepared id time) = 0
number_begun (Held id) = 0
number_begun (InProgress n) = 0
number_begun (Refused refusal) = 0

module _ (m : Machine) (session : ℕ) (of : Option (List ℕ)) (database : Root) (o : TransactionOptions) (id : ℕ) where
  abbrev begins : Envelope
  begins = record { id = of; request = BeginTransaction database o }

  abbrev waits : ParkedRequest
  waits = numbered m session begins

  abbrev drew : Machine
  drew = record m { numbers = record m.numbers { ids = m.numbers.ids + 1 } }

  by_check : (refusal : Option Refusal) → decided_answer drew waits (unless_full m (unless_refused refusal Decision.goes_on)) ≡ Reply (message.BeginTransaction of id)
      → (comes drew waits (unless_full m (unless_refused refusal Decision.goes_on)) ≡ with_begun drew (m.numbers.ids + 1) o) × (m.numbers.ids + 1 ≡ id)
  by_check (Some refusal) is = absurd (cc)
  by_check None is = (refl, ap number_begun is)

  by_limits : (refusal : Option Refusal) → answered_unless refusal m waits ≡ Reply (message.BeginTransaction of id) → (asked_unless refusal m waits ≡ with_begun drew (m.numbers.ids + 1) o) × (m.numbers.ids + 1 ≡ id)
  by_limits (Some refusal) is = absurd (cc)
  by_limits None is = by_check (check_refusal m session (BeginTransaction database o)) is

  begun_now : Facts m → answered m session begins ≡ Reply (message.BeginTransaction of id)
      → IsOld id (asked m session begins) × AreAsBegun id (unwrap_or (time_asked o) m.past.released) (kind_of o) (asked m session begins)
  begun_now facts is =
      let both = by_limits (arrival_refusal m session (BeginTransaction database o)) is in
      let number = both.1 in
      let time = unwrap_or (time_asked o) m.past.released in
      let kind = kind_of o in
      let drawn = facts.ids (m.numbers.ids + 1) in
      let none = drawn.1 (omega arith) in
      let t : Txn = record { id = m.numbers.ids + 1; kind = kind; read_time = time; begun = m.past.moment; used = m.past.moment; reads = [] } in
      let old : IsOld (m.numbers.ids + 1) (with_begun drew (m.numbers.ids + 1) o) = (omega (arith, none), omega arith) in
      let all : AreAsBegun (m.numbers.ids + 1) time kind (with_begun drew (m.numbers.ids + 1) o) =
      all_put (IsAsBegun (m.numbers.ids + 1) time kind) t m.txns.open (λ own. (refl, refl)) (none_yet m.txns.open (m.numbers.ids + 1) time kind (omega (arith, none))) in
      subst (λ (x : Machine). IsOld id x × AreAsBegun id time kind x) (sym both.0)
      (subst (λ (n : ℕ). IsOld n (with_begun drew (m.numbers.ids + 1) o) × AreAsBegun n time kind (with_begun drew (m.numbers.ids + 1) o)) number (old, all))

pub times_of_reads_stay : TimesOfReadsStay
times_of_reads_stay m session e database o id es t facts asks is found =
    let same : answered m session (record { id = e.id; request = BeginTransaction database o }) ≡ Reply (message.BeginTransaction e.id id) =
    subst (λ (q : Request). answered m session (record { id = e.id; request = q }) ≡ Reply (message.BeginTransaction e.id id)) asks is in
    let time = unwrap_or (time_asked o) m.past.released in
    let kind = kind_of o in
    let now = begun_now m session e.id database o id facts same in
    let begun = subst (λ (q : Request). IsOld id (asked m session (record { id = e.id; request = q })) × AreAsBegun id time kind (asked m session (record { id = e.id; request = q }))) (sym asks) now in
    let n = after (asked m session e) es in
    let all = all_begun id time kind (asked m session e) es begun.0 begun.1 in
    all_open (IsAsBegun id time kind) n.txns.open id t found all (number_open n.txns.open id t found)
