-- A read that is carried out is told the documents of its time, and a read-write transaction has read just what it is told.
use Rattle.std.specs.Prelude.{⊤}
use Rattle.std.proofs.Common.{◌≡◌, inl, inr, ℕ, ℤ, ◌≤ℤ◌, Bool, true, false, cond, List, [], ◌∷◌, ◌++◌, Option, Some, None, map, append_assoc, append-nil, refl, sym, ap, ◌∙◌, subst, arith}
use Rattle.std.specs.Prelude.{codes, length, nat_le, ◌==◌, remove}
use Rattle.std.specs.FinMap.{get, values}
use Rattle.std.specs.Option.{option_map_or}
use Rattle.std.proofs.lemmas.Int.{ints}
use Rattle.std.proofs.lemmas.Option.{same_Some}
use Rattle.fs_history.specs.declared.read.Read.{Read}
use Rattle.fs_history.specs.declared.read.Read.TheVariants as read
use Rattle.fs_path.specs.declared.field.FieldPath.{FieldPath}
use Rattle.fs_path.specs.declared.name.DocName.{DocName}
use Rattle.fs_query.specs.AnswerTo.{answer_to}
use Rattle.fs_request.specs.declared.message.Message.{Message}
use Rattle.fs_request.specs.declared.request.Envelope.{Envelope}
use Rattle.fs_request.specs.declared.request.Request.{Request}
use Rattle.fs_request.specs.declared.request.Request.TheVariants.{Commit, GetDocument, BatchGetDocuments, RunQuery, BeginTransaction, Rollback, AddTarget, RemoveTarget}
use Rattle.fs_request.specs.declared.request.Request.TheVariants as request
use Rattle.fs_request.specs.declared.when.When.{When}
use Rattle.fs_request.specs.declared.when.When.TheVariants.{Released, At, In}
use Rattle.fs_status.specs.Refusal.{at_limit}
use Rattle.fs_status.specs.declared.refusal.Refusal.{Refusal}
use Rattle.fs_txn.specs.Transactions.{Transactions, all_noted, changed_at, expired_of, is_read_write, noted, txn_of}
use Rattle.fs_txn.specs.declared.kind.Kind.{Kind}
use Rattle.fs_txn.specs.declared.kind.Kind.TheVariants.{ReadWrite, ReadOnly}
use Rattle.fs_txn.specs.declared.txn.Txn.{Txn}
use Rattle.fs_value.specs.declared.document.Document.{Document}
use Rattle.fs_write.specs.Batch.{Docs}
use Rattle.fs_machine.specs.Facts.{Facts}
use Rattle.fs_machine.specs.Past.{Past}
use Rattle.fs_machine.specs.Read.{batch_answers, docs_at, document_answer, read_in, read_time, shown_at, told_of, when_refusal}
use Rattle.fs_machine.specs.ReadLaws.{AreAllOf, AreNotedAs, AskedReads, GoesOn, IsGotten, IsNotedAs, IsNotedGet, IsOfItsTime, IsOneOf, IsTimeFor, IsTimeOf, NotesIn, NotesWhatItTells, OnlyCarriedOutReply, ReadsAreTrue, ReadsItsTime, RetriedReads, is_read}
use Rattle.fs_machine.specs.Request.{Decision, answer_by, answered, answered_unless, arrival_refusal, asked, asked_unless, carried, carried_answer, carried_by, check_refusal, comes, decided_answer, decision, held_by, numbered, retry_refusal, unless_full, unless_held, unless_refused}
use Rattle.fs_machine.specs.Retry.{retried_if, retry_decision, tried, tried_answer}
use Rattle.fs_machine.specs.State.{Machine}
use Rattle.fs_machine.specs.Transact.{refusal_unless, time_in, time_of_kind}
use Rattle.fs_machine.specs.TransactionsHold.{IsOpen}
use Rattle.fs_machine.specs.declared.answer.Answer.{Answer}
use Rattle.fs_machine.specs.declared.answer.Answer.TheVariants.{Reply}
use Rattle.fs_machine.specs.declared.config.Mode.{Mode}
use Rattle.fs_machine.specs.declared.config.Mode.TheVariants.{Pessimistic, Optimistic}
use Rattle.fs_machine.specs.declared.parked_request.ParkedRequest.{ParkedRequest}
use Rattle.fs_machine.proofs.Holding.{may_be_read_at}
use Rattle.fs_machine.proofs.TransactionsHold.{all_open, noted_keeps, with_noted}

-- ---- the time of a read

its_kind : (mode : Mode) (p : Past) (k : Kind) (own : ℤ) → IsTimeFor mode k p own (time_of_kind mode p k own)
its_kind Pessimistic p ReadWrite own = refl
its_kind Pessimistic p ReadOnly own = refl
its_kind Optimistic p k own = refl

within_kind : (mode : Mode) (p : Past) (k : Kind) (own : ℤ) → p.floor ≤ℤ p.released → p.floor ≤ℤ own → own ≤ℤ p.released → (p.floor ≤ℤ time_of_kind mode p k own) × (time_of_kind mode p k own ≤ℤ p.released)
within_kind Pessimistic p ReadWrite own floor low high = (floor, omega (arith, ints))
within_kind Pessimistic p ReadOnly own floor low high = (low, high)
within_kind Optimistic p k own floor low high = (low, high)

-- it is the one at which it reads, and can be read
abbrev IsReadAt : Machine → When → ℤ → Type 0
IsReadAt m when t = IsTimeOf m when t × (m.past.floor ≤ℤ t) × (t ≤ℤ m.past.released)

open_time : (m : Machine) (id : ℕ) (found : Option Txn) → txn_of id m.txns.open ≡ found → refusal_unless id (expired_of id m.txns.expired) found ≡ None → Facts m
    → IsReadAt m (In id) (option_map_or (time_in m.config.mode m.past) found m.past.released)
open_time m id None here free facts = absurd (cc)
open_time m id (Some t) here free facts =
    let is = all_open (IsOpen m.config.mode m.past) m.txns.open id t here facts.txns in
    let within = within_kind m.config.mode m.past t.kind t.read_time facts.past.floor is.floor is.released in
    ((t, here, its_kind m.config.mode m.past t.kind t.read_time), within.0, within.1)

its_time : (m : Machine) (when : When) → when_refusal m when ≡ None → Facts m → IsReadAt m when (read_time m when)
its_time m Released free facts = (refl, facts.past.floor, omega (arith, ints))
its_time m (At time) free facts = let both = may_be_read_at m.past time free in (refl, both.0, both.1)
its_time m (In id) free facts = open_time m id (txn_of id m.txns.open) refl free facts

of_its_time : (m : Machine) (when : When) (tells : Docs → ℤ → Type 0) → when_refusal m when ≡ None → Facts m → tells (docs_at m when) (read_time m when) → IsOfItsTime m when tells
of_its_time m when tells free facts told =
    let its = its_time m when free facts in
    record { time = read_time m when; its = its.0; floor = its.1; released = its.2; told = told }

-- ---- what is told

gotten : (docs : Docs) (t : ℤ) (id : Option (List ℕ)) (name : DocName) (mask : Option (List FieldPath)) (found : Option Document) → get docs name ≡ found → IsGotten docs t id name mask (document_answer id t mask found)
gotten docs t id name mask None is = inr (is, refl)
gotten docs t id name mask (Some d) is = inl (d, is, refl)

one_gotten : (docs : Docs) (t : ℤ) (mask : Option (List FieldPath)) (name : DocName) (found : Option Document) → get docs name ≡ found → IsOneOf docs t mask name (told_of t mask name found)
one_gotten docs t mask name None is = (is, refl, refl)
one_gotten docs t mask name (Some d) is = (d, is, refl, refl)

all_gotten : (docs : Docs) (t : ℤ) (mask : Option (List FieldPath)) (names : List DocName) → AreAllOf docs t mask names (batch_answers docs t mask names)
all_gotten docs t mask [] = tt
all_gotten docs t mask (n ∷ names) = (one_gotten docs t mask n (get docs n) refl, all_gotten docs t mask names)

carried_reads : (m : Machine) (r : ParkedRequest) (q : Request) → check_refusal m r.session q ≡ None → Facts m → ReadsItsTime m r.envelope.id q (answer_by m r q)
carried_reads m r (Commit database ws transaction) free facts = tt
carried_reads m r (GetDocument name mask when) free facts =
    of_its_time m when _ free facts (gotten (docs_at m when) (read_time m when) r.envelope.id name mask (get (docs_at m when) name) refl)
carried_reads m r (BatchGetDocuments database names mask when) free facts =
    of_its_time m when _ free facts (batch_answers (docs_at m when) (read_time m when) mask names, refl, all_gotten (docs_at m when) (read_time m when) mask names)
carried_reads m r (RunQuery database query when) free facts = of_its_time m when _ free facts refl
carried_reads m r (BeginTransaction database o) free facts = tt
carried_reads m r (Rollback database transaction) free facts = tt
carried_reads m r (AddTarget database target t token) free facts = tt
carried_reads m r (RemoveTarget database target) free facts = tt
carried_reads m r (request.Write database asked) free facts = tt

-- ---- what is noted

changed_next : (f : Txn → Txn) (v t : Txn) (ts : List Txn) (id : ℕ) (b : Bool) → (v.id == id) ≡ b → (f v).id ≡ v.id → cond b (Some v) (txn_of id ts) ≡ Some t → (txn_of id ts ≡ Some t → txn_of id (changed_at id f ts) ≡ Some (f t))
    → txn_of id (cond b (f v ∷ ts) (v ∷ changed_at id f ts)) ≡ Some (f t)
changed_next f v t ts id true is same found more =
    let here : ((f v).id == id) ≡ true = ap (λ n. n == id) same ∙ is in
    ap (λ b. cond b (Some (f v)) (txn_of id ts)) here ∙ ap (λ x. Some (f x)) (same_Some v t found)
changed_next f v t ts id false is same found more = ap (λ b. cond b (Some v) (txn_of id (changed_at id f ts))) is ∙ more found

changed_found : (f : Txn → Txn) (ts : List Txn) (id : ℕ) (t : Txn) → ((v : Txn) → (f v).id ≡ v.id) → txn_of id ts ≡ Some t → txn_of id (changed_at id f ts) ≡ Some (f t)
changed_found f [] id t same found = absurd (cc)
changed_found f (v ∷ ts) id t same found = changed_next f v t ts id (v.id == id) refl (same v) found (changed_found f ts id t same)

one_more : (r : Read) (now : ℤ) (t : Txn) (b : Bool) → b ≡ true → (record (cond b (record t { reads = t.reads ++ r ∷ [] }) t) { used = now }).reads ≡ t.reads ++ r ∷ []
one_more r now t true is = refl
one_more r now t false is = absurd (cc)

-- it has these reads behind the others
abbrev HasMore : Transactions → ℕ → Txn → List Read → Type 0
HasMore ts id t rs = (later : Txn) × (txn_of id ts.open ≡ Some later) × (later.reads ≡ t.reads ++ rs)

noted_more : (ts : Transactions) (id : ℕ) (rs : List Read) (now : ℤ) (t : Txn) → txn_of id ts.open ≡ Some t → is_read_write t.kind ≡ true → HasMore (all_noted ts id rs now) id t rs
noted_more ts id [] now t found writes = (record t { used = now }, changed_found (λ v. record v { used = now }) ts.open id t (λ v. refl) found, sym (append-nil t.reads))
noted_more ts id (r ∷ rs) now t found writes =
    let same = noted_keeps r now t in
    let there : txn_of id (noted ts id r now).open ≡ Some (with_noted r now t) = changed_found (with_noted r now) ts.open id t (λ v. (noted_keeps r now v).2) found in
    let rest = noted_more (noted ts id r now) id rs now (with_noted r now t) there (ap is_read_write same.0 ∙ writes) in
    (rest.0, rest.1, rest.2 ∙ ap (λ (xs : List Read). xs ++ rs) (one_more r now t (is_read_write t.kind) writes) ∙ append_assoc t.reads (r ∷ []) rs)

-- the machine that goes on from there has other numbers, other requests that wait, and other streams
has_read_more : (m n : Machine) (id : ℕ) (rs : List Read) (tells : List Read → Type 0) → n.txns ≡ all_noted m.txns id rs m.past.moment → tells rs → NotesIn m n (In id) tells
has_read_more m n id rs tells is told t found writes =
    let more = noted_more m.txns id rs m.past.moment t found writes in
    record { more = rs; later = more.0; found = ap (λ (ts : Transactions). txn_of id ts.open) is ∙ more.1; reads = more.2; told = told }

noted_get : (docs : Docs) (t : ℤ) (id : Option (List ℕ)) (name : DocName) (mask : Option (List FieldPath)) (found : Option Document)
    → IsNotedGet name mask id (document_answer id t mask found) (read.Name name found ∷ [])
noted_get docs t id name mask None = inr (t, refl, refl)
noted_get docs t id name mask (Some d) = inl (d, refl, refl)

noted_one : (t : ℤ) (mask : Option (List FieldPath)) (name : DocName) (found : Option Document) → IsNotedAs mask name (told_of t mask name found) (read.Name name found)
noted_one t mask name None = (refl, refl)
noted_one t mask name (Some d) = (d, refl, refl)

noted_all : (docs : Docs) (t : ℤ) (mask : Option (List FieldPath)) (names : List DocName) → AreNotedAs mask names (batch_answers docs t mask names) (map (λ name. read.Name name (get docs name)) names)
noted_all docs t mask [] = tt
noted_all docs t mask (n ∷ names) = (noted_one t mask n (get docs n), noted_all docs t mask names)

-- where it is carried out by a machine with the same transactions
abbrev Noted : Machine → Machine → When → Request → Type 0
Noted m n Released q = ⊤
Noted m n (At time) q = ⊤
Noted m n (In id) q = n.txns ≡ all_noted m.txns id (shown_at m (In id) q) m.past.moment

notes : (m n : Machine) (when : When) (q : Request) (tells : List Read → Type 0) → Noted m n when q → tells (shown_at m when q) → NotesIn m n when tells
notes m n Released q tells noted told = tt
notes m n (At time) q tells noted told = tt
notes m n (In id) q tells noted told = has_read_more m n id (shown_at m (In id) q) tells noted told

-- what the request leaves of the transactions
abbrev LeavesNoted : Machine → Machine → Request → Type 0
LeavesNoted m n (GetDocument name mask when) = Noted m n when (GetDocument name mask when)
LeavesNoted m n (BatchGetDocuments database names mask when) = Noted m n when (BatchGetDocuments database names mask when)
LeavesNoted m n (RunQuery database query when) = Noted m n when (RunQuery database query when)
LeavesNoted m n _ = ⊤

carried_notes : (m n : Machine) (r : ParkedRequest) (q : Request) → LeavesNoted m n q → NotesWhatItTells m n r.envelope.id q (answer_by m r q)
carried_notes m n r (Commit database ws transaction) left = tt
carried_notes m n r (GetDocument name mask when) left =
    notes m n when (GetDocument name mask when) _ left (noted_get (docs_at m when) (read_time m when) r.envelope.id name mask (get (docs_at m when) name))
carried_notes m n r (BatchGetDocuments database names mask when) left =
    notes m n when (BatchGetDocuments database names mask when) _ left (batch_answers (docs_at m when) (read_time m when) mask names, refl, noted_all (docs_at m when) (read_time m when) mask names)
carried_notes m n r (RunQuery database query when) left =
    notes m n when (RunQuery database query when) _ left (answer_to query (values (docs_at m when)), read_time m when, refl, refl)
carried_notes m n r (BeginTransaction database o) left = tt
carried_notes m n r (Rollback database transaction) left = tt
carried_notes m n r (AddTarget database target t token) left = tt
carried_notes m n r (RemoveTarget database target) left = tt
carried_notes m n r (request.Write database asked) left = tt

read_leaves : (m : Machine) (ps : List ParkedRequest) (r : ParkedRequest) (when : When) (q : Request) → Noted m (read_in (record m { parked = ps }) when q) when q
read_leaves m ps r Released q = tt
read_leaves m ps r (At time) q = tt
read_leaves m ps r (In id) q = refl

carried_leaves : (m : Machine) (ps : List ParkedRequest) (r : ParkedRequest) (q : Request) → LeavesNoted m (carried_by (record m { parked = ps }) r q) q
carried_leaves m ps r (Commit database ws transaction) = tt
carried_leaves m ps r (GetDocument name mask when) = read_leaves m ps r when (GetDocument name mask when)
carried_leaves m ps r (BatchGetDocuments database names mask when) = read_leaves m ps r when (BatchGetDocuments database names mask when)
carried_leaves m ps r (RunQuery database query when) = read_leaves m ps r when (RunQuery database query when)
carried_leaves m ps r (BeginTransaction database o) = tt
carried_leaves m ps r (Rollback database transaction) = tt
carried_leaves m ps r (AddTarget database target t token) = tt
carried_leaves m ps r (RemoveTarget database target) = tt
carried_leaves m ps r (request.Write database asked) = tt

-- ---- one that comes, or is tried again

passed_check : (refusal : Option Refusal) (d : Decision) → unless_refused refusal d ≡ Decision.goes_on → (refusal ≡ None) × (d ≡ Decision.goes_on)
passed_check (Some refusal) d goes = absurd (cc)
passed_check None d goes = (refl, goes)

-- what is true of a read that is carried out
abbrev IsTrueOf : Machine → Machine → Option (List ℕ) → Request → Answer → Type 0
IsTrueOf m n id q a = ReadsItsTime m id q a × NotesWhatItTells m n id q a

carried_true : (m : Machine) (ps : List ParkedRequest) (r : ParkedRequest) → check_refusal m r.session r.envelope.request ≡ None → Facts m
    → IsTrueOf m (carried (record m { parked = ps }) r) r.envelope.id r.envelope.request (carried_answer m r)
carried_true m ps r free facts = (carried_reads m r r.envelope.request free facts, carried_notes m (carried (record m { parked = ps }) r) r r.envelope.request (carried_leaves m ps r r.envelope.request))

module _ (m : Machine) (session : ℕ) (of : Option (List ℕ)) (facts : Facts m) where
  abbrev asks_for : Request → Envelope
  asks_for q = record { id = of; request = q }

  abbrev IsTrueOfAsked : Request → Type 0
  IsTrueOfAsked q = GoesOn m session q → IsTrueOf m (asked m session (asks_for q)) of q (answered m session (asks_for q))

  by_going : (q : Request) → GoesOn m session q → IsTrueOf m (carried m (numbered m session (asks_for q))) of q (carried_answer m (numbered m session (asks_for q)))
  by_going q goes = carried_true m m.parked (numbered m session (asks_for q)) (passed_check (check_refusal m session q) (unless_held (held_by m q)) goes.decided).0 facts

  read_asked : (q : Request) (a : Decision → Answer) (n : Decision → Machine) → GoesOn m session q → answered m session (asks_for q) ≡ a (decision m session q) → asked m session (asks_for q) ≡ n (decision m session q)
      → a Decision.goes_on ≡ carried_answer m (numbered m session (asks_for q)) → n Decision.goes_on ≡ carried m (numbered m session (asks_for q))
      → IsTrueOf m (asked m session (asks_for q)) of q (answered m session (asks_for q))
  read_asked q a n goes told left same_answer same =
      let r = numbered m session (asks_for q) in
      let answers = told ∙ ap a goes.decided ∙ same_answer in
      let leaves = left ∙ ap n goes.decided ∙ same in
      subst (λ (x : Machine). IsTrueOf m x of q (answered m session (asks_for q))) (sym leaves)
      (subst (λ (x : Answer). IsTrueOf m (carried m r) of q x) (sym answers) (by_going q goes))

  asked_true : (q : Request) → IsTrueOfAsked q
  asked_true (Commit database ws transaction) goes = (tt, tt)
  asked_true (GetDocument name mask when) goes =
      let q = GetDocument name mask when in let r = numbered m session (asks_for q) in
      read_asked q (λ d. decided_answer m r (unless_full m d)) (λ d. comes m r (unless_full m d)) goes (ap (λ o. answered_unless o m r) goes.within) (ap (λ o. asked_unless o m r) goes.within) refl refl
  asked_true (BatchGetDocuments database names mask when) goes =
      let q = BatchGetDocuments database names mask when in let r = numbered m session (asks_for q) in
      read_asked q (λ d. decided_answer m r (unless_full m d)) (λ d. comes m r (unless_full m d)) goes (ap (λ o. answered_unless o m r) goes.within) (ap (λ o. asked_unless o m r) goes.within) refl refl
  asked_true (RunQuery database query when) goes =
      let q = RunQuery database query when in let r = numbered m session (asks_for q) in
      read_asked q (λ d. decided_answer m r (unless_full m d)) (λ d. comes m r (unless_full m d)) goes (ap (λ o. answered_unless o m r) goes.within) (ap (λ o. asked_unless o m r) goes.within) refl refl
  asked_true (BeginTransaction database o) goes = (tt, tt)
  asked_true (Rollback database transaction) goes = (tt, tt)
  asked_true (AddTarget database target t token) goes = (tt, tt)
  asked_true (RemoveTarget database target) goes = (tt, tt)
  asked_true (request.Write database given) goes = (tt, tt)

asked_reads : (m : Machine) → Facts m → AskedReads m
asked_reads m facts session e goes = asked_true m session e.id facts e.request goes

retried_reads : (m : Machine) → Facts m → RetriedReads m
retried_reads m facts place r here goes =
    let q = r.envelope.request in
    let limits = passed_check (retry_refusal m q) (decision m r.session q) goes in
    let free = (passed_check (check_refusal m r.session q) (unless_held (held_by m q)) limits.1).0 in
    let true_of = carried_true m (remove m.parked place) r free facts in
    let told = subst (λ (d : Decision). IsTrueOf m (tried m place r d) r.envelope.id q (decided_answer m r d)) (sym goes) true_of in
    subst (λ (o : Option ParkedRequest). IsTrueOf m (retried_if m place o) r.envelope.id q (tried_answer m r)) (sym here) told

-- ---- what is replied to is carried out

module _ (m n : Machine) (r : ParkedRequest) (reply : Message) where
  full_replies : (by : ℕ) (full : Bool) → decided_answer n r (cond full (Decision.refused (at_limit (codes "parked") m.limits.parked)) (Decision.held by)) ≡ Reply reply → ⊥
  full_replies by true is = cc
  full_replies by false is = cc

  decided_replies : (d : Decision) → decided_answer n r (unless_full m d) ≡ Reply reply → d ≡ Decision.goes_on
  decided_replies (Decision.refused refusal) is = absurd (cc)
  decided_replies (Decision.held by) is = absurd (full_replies by (nat_le m.limits.parked (length m.parked)) is)
  decided_replies Decision.goes_on is = refl

tried_replies : (m : Machine) (r : ParkedRequest) (reply : Message) (d : Decision) → decided_answer m r d ≡ Reply reply → d ≡ Decision.goes_on
tried_replies m r reply (Decision.refused refusal) is = absurd (cc)
tried_replies m r reply (Decision.held by) is = absurd (cc)
tried_replies m r reply Decision.goes_on is = refl

module _ (m : Machine) (session : ℕ) (of : Option (List ℕ)) (reply : Message) where
  by_limits : (q : Request) (refusal : Option Refusal) → is_read q ≡ true → arrival_refusal m session q ≡ refusal
      → answered_unless refusal m (numbered m session (record { id = of; request = q })) ≡ Reply reply → GoesOn m session q
  by_limits (GetDocument name mask when) (Some refusal) read within is = absurd (cc)
  by_limits (GetDocument name mask when) None read within is = record { within = within; decided = decided_replies m m (numbered m session (record { id = of; request = GetDocument name mask when })) reply (decision m session (GetDocument name mask when)) is }
  by_limits (BatchGetDocuments database names mask when) (Some refusal) read within is = absurd (cc)
  by_limits (BatchGetDocuments database names mask when) None read within is = record { within = within; decided = decided_replies m m (numbered m session (record { id = of; request = BatchGetDocuments database names mask when })) reply (decision m session (BatchGetDocuments database names mask when)) is }
  by_limits (RunQuery database query when) (Some refusal) read within is = absurd (cc)
  by_limits (RunQuery database query when) None read within is = record { within = within; decided = decided_replies m m (numbered m session (record { id = of; request = RunQuery database query when })) reply (decision m session (RunQuery database query when)) is }
  by_limits (Commit database ws transaction) refusal read within is = absurd (cc)
  by_limits (BeginTransaction database o) refusal read within is = absurd (cc)
  by_limits (Rollback database transaction) refusal read within is = absurd (cc)
  by_limits (AddTarget database target t token) refusal read within is = absurd (cc)
  by_limits (RemoveTarget database target) refusal read within is = absurd (cc)
  by_limits (request.Write database given) refusal read within is = absurd (cc)

  only_asked : (q : Request) → is_read q ≡ true → answered m session (record { id = of; request = q }) ≡ Reply reply → GoesOn m session q
  only_asked (GetDocument name mask when) read is = by_limits (GetDocument name mask when) (arrival_refusal m session (GetDocument name mask when)) read refl is
  only_asked (BatchGetDocuments database names mask when) read is = by_limits (BatchGetDocuments database names mask when) (arrival_refusal m session (BatchGetDocuments database names mask when)) read refl is
  only_asked (RunQuery database query when) read is = by_limits (RunQuery database query when) (arrival_refusal m session (RunQuery database query when)) read refl is
  only_asked (Commit database ws transaction) read is = absurd (cc)
  only_asked (BeginTransaction database o) read is = absurd (cc)
  only_asked (Rollback database transaction) read is = absurd (cc)
  only_asked (AddTarget database target t token) read is = absurd (cc)
  only_asked (RemoveTarget database target) read is = absurd (cc)
  only_asked (request.Write database given) read is = absurd (cc)

only_carried_out_reply : (m : Machine) → OnlyCarriedOutReply m
only_carried_out_reply m = (
  λ session e reply read is. only_asked m session e.id reply e.request read is,
  λ r reply read is. tried_replies m r reply (retry_decision m r.session r.envelope.request) is,
)

pub reads_are_true : ReadsAreTrue
reads_are_true m facts = (asked_reads m facts, retried_reads m facts, only_carried_out_reply m)
