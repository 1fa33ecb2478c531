-- Who has read what some writes touch still has, as long as no transaction ends.
use Rattle.std.proofs.Common.{◌≡◌, ℕ, ℤ, Bool, true, false, cond, List, [], ◌∷◌, ◌++◌, Option, Some, None, refl, sym, ap, ◌∙◌, subst, pos, negsuc}
use Rattle.std.specs.Prelude.{◌&&◌, ◌||◌, ◌==◌, nat_lt}
use Rattle.std.specs.List.{AllByRecursion}
use Rattle.std.proofs.lemmas.List.Folds.{list_any-append}
use Rattle.fs_history.specs.Touches.{some_touched, touched}
use Rattle.fs_history.specs.declared.read.Read.{Read}
use Rattle.fs_request.specs.declared.request.Envelope.{Envelope}
use Rattle.fs_request.specs.declared.request.Request.{Request}
use Rattle.fs_request.specs.declared.request.Request.TheVariants.{Commit, GetDocument, BatchGetDocuments, RunQuery, BeginTransaction, Rollback, AddTarget, RemoveTarget}
use Rattle.fs_request.specs.declared.request.Request.TheVariants as request
use Rattle.fs_request.specs.declared.stream_request.StreamRequest.{StreamRequest}
use Rattle.fs_request.specs.declared.stream_request.StreamRequest.TheVariants.{Open, Resume, Batch, Ask, Mixed}
use Rattle.fs_request.specs.declared.when.When.{When}
use Rattle.fs_request.specs.declared.when.When.TheVariants.{Released, At, In}
use Rattle.fs_txn.specs.Transactions.{Transactions, all_noted, changed_at, is_read_write, noted, put_in, with_read}
use Rattle.fs_txn.specs.declared.txn.Txn.{Txn}
use Rattle.fs_write.specs.declared.write.Write.{Write}
use Rattle.fs_machine.specs.Conflict.{is_reader}
use Rattle.fs_machine.specs.Read.{read_in, shown_at}
use Rattle.fs_machine.specs.Request.{arrival_refusal, arrived, asked, carried_by}
use Rattle.fs_machine.specs.State.{Machine}
use Rattle.fs_machine.specs.Stream.{streamed, taken_by}
use Rattle.fs_machine.specs.declared.answer.Answer.{Answer}
use Rattle.fs_machine.specs.declared.parked_request.ParkedRequest.{ParkedRequest}
use Rattle.fs_machine.proofs.Carried.{asked_alone}
use Rattle.fs_replay.specs.Lines.{ends_one}
use Rattle.fs_replay.proofs.Arriving.{arrived_by}
use Rattle.fs_replay.proofs.Becoming.{Becomes, asked_becomes, taken_on, with_numbers}

-- none of these transactions has read what these writes touch
abbrev pub NoneReads : List Write → List Txn → Type 0
NoneReads ws ts = AllByRecursion (λ t. is_reader ws t ≡ false) ts

-- whoever has among the first still has among the second
abbrev pub ReadOn : List Txn → List Txn → Type 0
ReadOn ts us = (ws : List Write) → NoneReads ws us → NoneReads ws ts

-- ---- one begins

put_next : (P : Txn → Type 0) (t u : Txn) (us : List Txn) (b : Bool) → AllByRecursion P (cond b (t ∷ u ∷ us) (u ∷ put_in t us)) → (AllByRecursion P (put_in t us) → AllByRecursion P us) → AllByRecursion P (u ∷ us)
put_next P t u us true all more = all.1
put_next P t u us false all more = (all.0, more all.1)

put_on : (P : Txn → Type 0) (t : Txn) (us : List Txn) → AllByRecursion P (put_in t us) → AllByRecursion P us
put_on P t [] all = tt
put_on P t (u ∷ us) all = put_next P t u us (nat_lt t.id u.id) all (put_on P t us)

-- ---- one reads

changed_next : (P : Txn → Type 0) (f : Txn → Txn) (t : Txn) (ts : List Txn) (id : ℕ) (b : Bool) → ((t : Txn) → P (f t) → P t) → AllByRecursion P (cond b (f t ∷ ts) (t ∷ changed_at id f ts))
    → (AllByRecursion P (changed_at id f ts) → AllByRecursion P ts) → AllByRecursion P (t ∷ ts)
changed_next P f t ts id true back all more = (back t all.0, all.1)
changed_next P f t ts id false back all more = (all.0, more all.1)

changed_on : (P : Txn → Type 0) (f : Txn → Txn) → ((t : Txn) → P (f t) → P t) → (id : ℕ) (ts : List Txn) → AllByRecursion P (changed_at id f ts) → AllByRecursion P ts
changed_on P f back id [] all = tt
changed_on P f back id (t ∷ ts) all = changed_next P f t ts id (t.id == id) back all (changed_on P f back id ts)

fewer : (a b c : Bool) → (a && (b || c)) ≡ false → (a && b) ≡ false
fewer false b c none = refl
fewer true false c none = refl
fewer true true c none = none

noted_by : (ws : List Write) (r : Read) (now : ℤ) (t : Txn) (b : Bool) → is_reader ws (record (cond b (record t { reads = t.reads ++ r ∷ [] }) t) { used = now }) ≡ false → is_reader ws t ≡ false
noted_by ws r now t true none =
    fewer (is_read_write t.kind) (some_touched ws t.reads) (some_touched ws (r ∷ []))
    (sym (ap (λ b. is_read_write t.kind && b) (list_any-append (touched ws) t.reads (r ∷ []))) ∙ none)
noted_by ws r now t false none = none

noted_on : (ts : Transactions) (id : ℕ) (rs : List Read) (now : ℤ) → ReadOn ts.open (all_noted ts id rs now).open
noted_on ts id [] now = λ ws none. changed_on (λ t. is_reader ws t ≡ false) (λ t. record t { used = now }) (λ t e. e) id ts.open none
noted_on ts id (r ∷ rs) now = λ ws none.
    changed_on (λ t. is_reader ws t ≡ false) (λ t. record (with_read r t) { used = now }) (λ t e. noted_by ws r now t (is_read_write t.kind) e) id ts.open
    (noted_on (noted ts id r now) id rs now ws none)

read_on : (m : Machine) (when : When) (q : Request) → ReadOn m.txns.open (read_in m when q).txns.open
read_on m Released q = λ ws none. none
read_on m (At time) q = λ ws none. none
read_on m (In id) q = noted_on m.txns id (shown_at m (In id) q) m.past.moment

-- ---- a request that ends none

streamed_on : (m : Machine) (session : ℕ) (ws : List Write) (asked : StreamRequest) → NoneReads ws (streamed m session asked).txns.open → NoneReads ws m.txns.open
streamed_on m session ws Open none = none
streamed_on m session ws (Resume n token) none = none
streamed_on m session ws (Batch token writes) none = none
streamed_on m session ws (Ask token) none = none
streamed_on m session ws (Mixed n token writes) none = none

carried_on : (m : Machine) (r : ParkedRequest) (q : Request) → ends_one q ≡ false → ReadOn m.txns.open (carried_by m r q).txns.open
carried_on m r (Commit database writes None) ends = λ ws none. none
carried_on m r (Commit database writes (Some id)) ends = absurd (cc)
carried_on m r (GetDocument name mask when) ends = read_on m when (GetDocument name mask when)
carried_on m r (BatchGetDocuments database names mask when) ends = read_on m when (BatchGetDocuments database names mask when)
carried_on m r (RunQuery database query when) ends = read_on m when (RunQuery database query when)
carried_on m r (BeginTransaction database options) ends = λ ws none. put_on (λ t. is_reader ws t ≡ false) _ m.txns.open none
carried_on m r (Rollback database transaction) ends = absurd (cc)
carried_on m r (AddTarget database target t token) ends = λ ws none. none
carried_on m r (RemoveTarget database (pos target)) ends = λ ws none. none
carried_on m r (RemoveTarget database (negsuc target)) ends = λ ws none. none
carried_on m r (request.Write database asked) ends = λ ws none. streamed_on m r.session ws asked none

-- a stream that takes a batch changes none
taken_on_same : (m : Machine) (stream : Option ℕ) → (taken_by stream m).txns ≡ m.txns
taken_on_same m None = refl
taken_on_same m (Some n) = refl

becomes_on : (m : Machine) (r : ParkedRequest) (n : Machine) (a : Answer) → Becomes m r n a → ends_one r.envelope.request ≡ false → ReadOn m.txns.open n.txns.open
becomes_on m r n a (Becomes.refused k is told) ends = subst (λ (x : Machine). ReadOn m.txns.open x.txns.open) (sym is) (λ ws none. none)
becomes_on m r n a (Becomes.held k by is told behind may) ends =
    let same = ap (λ (x : Machine). x.txns) is ∙ taken_on_same (with_numbers m k) r.stream in subst (λ t. ReadOn m.txns.open t.open) (sym same) (λ ws none. none)
becomes_on m r n a (Becomes.goes_on k is told goes) ends =
    let on = taken_on m r k in
    subst (λ (x : Machine). ReadOn m.txns.open x.txns.open) (sym is)
    (subst (λ t. ReadOn t.open (carried_by on r r.envelope.request).txns.open) (taken_on_same (with_numbers m k) r.stream) (carried_on on r r.envelope.request ends))

-- two moments of a server between which no transaction ended
pub record ReadsOn (m n : Machine) : Type 0 where
  pub config : n.config ≡ m.config
  pub limits : n.limits ≡ m.limits
  pub reads : ReadOn m.txns.open n.txns.open

pub reads_same : (m : Machine) → ReadsOn m m
reads_same m = record { config = refl; limits = refl; reads = λ ws none. none }

pub reads_then : (m n k : Machine) → ReadsOn m n → ReadsOn n k → ReadsOn m k
reads_then m n k one two = record { config = two.config ∙ one.config; limits = two.limits ∙ one.limits; reads = λ ws none. one.reads ws (two.reads ws none) }

-- a batch is a commit that ends none
arrived_ends : (m : Machine) (session : ℕ) (e : Envelope) → ends_one e.request ≡ false → ends_one (arrived m session e).envelope.request ≡ false
arrived_ends m session e ends = arrived_by m session e (λ r. ends_one r.envelope.request ≡ false) ends (λ database token writes n is new. refl)

pub asked_reads : (m : Machine) (session : ℕ) (e : Envelope) → ends_one e.request ≡ false → ReadsOn m (asked m session e)
asked_reads m session e ends =
    let r = arrived m session e in
    let alone = asked_alone m r (arrival_refusal m session e.request) in
    record { config = alone.config; limits = alone.limits; reads = becomes_on m r _ _ (asked_becomes m session e) (arrived_ends m session e ends) }
