-- What a stream takes goes behind what it has in progress, and what it finishes is the first of that.
use Rattle.std.proofs.Common.{◌≡◌, inl, inr, ℕ, ◌+◌, ◌≤◌, Bool, true, false, cond, List, [], ◌∷◌, ◌++◌, map, Option, Some, None, Result, Ok, Err, length, refl, sym, ap, ◌∙◌, subst, arith}
use Rattle.std.specs.Prelude.{◌==◌, ◌&&◌, is_some, remove, slice_get}
use Rattle.std.proofs.lemmas.Bool.Decides.{nat_tests}
use Rattle.std.proofs.lemmas.List.{append-nil, append_assoc, map-append, nil_from_length}
use Rattle.fs_request.specs.declared.request.Envelope.{Envelope}
use Rattle.fs_request.specs.declared.request.Request.{Request}
use Rattle.fs_request.specs.declared.request.Request.TheVariants.{Commit, GetDocument, BatchGetDocuments, RunQuery, BeginTransaction, Rollback, AddTarget, RemoveTarget}
use Rattle.fs_request.specs.declared.request.Request.TheVariants as request
use Rattle.fs_request.specs.declared.stream_request.StreamRequest.{StreamRequest}
use Rattle.fs_request.specs.declared.stream_request.StreamRequest.TheVariants.{Open, Resume, Batch, Ask, Mixed}
use Rattle.fs_status.specs.declared.refusal.Refusal.{Refusal}
use Rattle.fs_stream.proofs.Standing.{new_free}
use Rattle.fs_stream.specs.Streams.{stream_of}
use Rattle.fs_stream.specs.declared.error.StreamError.{StreamError}
use Rattle.fs_stream.specs.declared.kept.Kept.{Kept}
use Rattle.fs_stream.specs.declared.take.Take.{Take}
use Rattle.fs_stream.specs.declared.take.Take.TheVariants.{New, Repeat, InProgress}
use Rattle.fs_write.specs.Batch.{Docs}
use Rattle.fs_write.specs.declared.write.Write.{Write}
use Rattle.fs_write.specs.declared.write_result.WriteResult.{WriteResult}
use Rattle.fs_machine.specs.Commit.{asker_by, next_commit}
use Rattle.fs_machine.specs.Event.{Event, step}
use Rattle.fs_machine.specs.Facts.{Facts}
use Rattle.fs_machine.specs.Numbered.{draws}
use Rattle.fs_machine.specs.Open.{is_full, with_session}
use Rattle.fs_machine.specs.Past.{Past}
use Rattle.fs_machine.specs.Release.{as_committed, free_to, freed, is_freed, kept_back, past_released}
use Rattle.fs_machine.specs.Request.{Decision, arrival_refusal, arrived, asked_unless, carried, carried_by, comes, decision, numbered, taken_unless, unless_full, with_parked}
use Rattle.fs_machine.specs.Retry.{retried_if, retry_decision, tried, unparked}
use Rattle.fs_machine.specs.Settle.{decided_if, decided_with, dropped_from, outcome_of, pending_in, pending_of}
use Rattle.fs_machine.specs.State.{Machine}
use Rattle.fs_machine.specs.Stream.{kept_of, kept_refused, new_of, take_of, taken_as, taken_by, taker_of}
use Rattle.fs_machine.specs.StreamLaws.{CountOn, decided_of, finishes, given_up_of, in_progress, isnt_refused, retried_of, settled_of, takes, writes_of}
use Rattle.fs_machine.specs.StreamsHold.{answers, is_for, of_stream, one_if, tally, under_way}
use Rattle.fs_machine.specs.WaitersAsk.{is_plain}
use Rattle.fs_machine.specs.declared.numbers.Numbers.{Numbers}
use Rattle.fs_machine.specs.declared.parked_request.ParkedRequest.{ParkedRequest}
use Rattle.fs_machine.specs.declared.unreleased.Unreleased.{Unreleased}
use Rattle.fs_machine.proofs.Asking.{waiter_asks}
use Rattle.fs_machine.proofs.Carried.{carried_rest}
use Rattle.fs_machine.proofs.InProgress.{Batches, going, going_count, passed_more, pending_more, pending_writes, waiting_writes, writes_accepted, writes_others}
use Rattle.fs_machine.proofs.Listening.{loaded_rest, raised_rest}
use Rattle.fs_machine.proofs.Pending.{number_found}
use Rattle.fs_machine.proofs.Streaming.{arrived_batch}
use Rattle.fs_machine.proofs.StreamsAsked.{PreparesFor, carried_for}
use Rattle.fs_machine.proofs.StreamsMove.{Done, few}
use Rattle.fs_machine.proofs.Tokens.{Taken, counted_of, sent_counted}
use Rattle.fs_machine.proofs.Tallies.{both_nil, count_without, in_parts, none_pass, only_gone, other_gone, without_dropped, without_place}

-- ---- what is taken and finished

-- what is in progress before, and what is taken, are what is finished, and what is in progress after
abbrev pub Goes : Batches → List Taken → List Done → Batches → Type 0
Goes before taken done after = before ++ map (λ t. t.1) taken ≡ map (λ d. d.0) done ++ after

goes_same : (before after : Batches) → after ≡ before → Goes before [] [] after
goes_same before after is = append-nil before ∙ sym is

goes_if : (before after : Batches) (b : Bool) → Goes before [] [] after → Goes before [] (cond b [] []) after
goes_if before after true goes = goes
goes_if before after false goes = goes

pub goes_on : (first next last : Batches) (ts us : List Taken) (ds es : List Done) → Goes first ts ds next → Goes next us es last → Goes first (ts ++ us) (ds ++ es) last
goes_on first next last ts us ds es one two =
    ap (λ xs. first ++ xs) (map-append (λ (t : Taken). t.1) ts us) ∙ sym (append_assoc first (map (λ (t : Taken). t.1) ts) (map (λ (t : Taken). t.1) us))
    ∙ ap (λ xs. xs ++ map (λ (t : Taken). t.1) us) one ∙ append_assoc (map (λ (d : Done). d.0) ds) next (map (λ (t : Taken). t.1) us)
    ∙ ap (λ xs. map (λ (d : Done). d.0) ds ++ xs) two ∙ sym (append_assoc (map (λ (d : Done). d.0) ds) (map (λ (d : Done). d.0) es) last)
    ∙ ap (λ xs. xs ++ last) (sym (map-append (λ (d : Done). d.0) ds es))

-- ---- a request that comes

-- of no stream
pending_alike : (n : ℕ) (r : ParkedRequest) (p q : Past) → r.stream ≡ None → PreparesFor r p q → pending_writes n q.unreleased ≡ pending_writes n p.unreleased
pending_alike n r p q none (inl same) = ap (λ (p : Past). pending_writes n p.unreleased) same
pending_alike n r p q none (inr (u, asks, is)) =
    let no : answers n u.asker ≡ false = ap (answers n) (asks ∙ ap (asker_by r) none) in
    ap (λ (p : Past). pending_writes n p.unreleased) is ∙ pending_more n p u false no ∙ append-nil (pending_writes n p.unreleased)

carried_going : (n : ℕ) (m : Machine) (r : ParkedRequest) → r.stream ≡ None → in_progress (carried m r) n ≡ in_progress m n
carried_going n m r none =
    let k = carried m r in
    ap (λ xs. xs ++ waiting_writes n k.parked) (pending_alike n r m.past k.past none (carried_for m r r.envelope.request))
    ∙ ap (λ (x : Machine). pending_writes n m.past.unreleased ++ waiting_writes n x.parked) (carried_rest m r r.envelope.request)

module _ (m : Machine) (r : ParkedRequest) (n : ℕ) (batch : is_some r.stream ≡ true → is_plain r.envelope.request ≡ true) (free : is_for n r.stream ≡ true → in_progress m n ≡ []) where
  abbrev pending : Batches
  pending = pending_writes n m.past.unreleased

  abbrev waiting : Batches
  waiting = waiting_writes n m.parked

  abbrev takes_if : Bool → Request → List Taken
  takes_if b q = cond b (((stream_of n m.streams).finished, writes_of q) ∷ []) []

  refused_goes : (b : Bool) → Goes (in_progress m n) (takes_if (b && false) r.envelope.request) [] (in_progress m n)
  refused_goes true = append-nil (in_progress m n)
  refused_goes false = append-nil (in_progress m n)

  waits_end : (b : Bool) → in_progress m n ++ map (λ t. t.1) (takes_if (b && true) r.envelope.request) ≡ pending ++ (waiting ++ cond b (writes_of r.envelope.request ∷ []) [])
  waits_end true = append_assoc pending waiting (writes_of r.envelope.request ∷ [])
  waits_end false = append-nil (in_progress m n) ∙ ap (λ xs. pending ++ xs) (sym (append-nil waiting))

  waits_goes : Goes (in_progress m n) (takes_if (is_for n r.stream && true) r.envelope.request) [] (going n m.past (m.parked ++ r ∷ []))
  waits_goes = waits_end (is_for n r.stream) ∙ ap (λ xs. pending ++ xs) (sym (passed_more (λ (r : ParkedRequest). is_for n r.stream) (λ r. writes_of r.envelope.request) m.parked r))

  commit_end : (b : Bool) (writes : List Write) → (b ≡ true → in_progress m n ≡ []) → in_progress m n ++ map (λ (t : Taken). t.1) (cond (b && true) (((stream_of n m.streams).finished, writes) ∷ []) []) ≡ (pending ++ cond b (writes ∷ []) []) ++ waiting
  commit_end true writes free =
      let none = both_nil pending waiting (free refl) in
      ap (λ xs. (xs ++ waiting) ++ writes ∷ []) none.0 ∙ ap (λ xs. xs ++ writes ∷ []) none.1 ∙ sym (ap (λ xs. (pending ++ writes ∷ []) ++ xs) none.1 ∙ ap (λ xs. (xs ++ writes ∷ []) ++ []) none.0)
  commit_end false writes free = append-nil (in_progress m n) ∙ ap (λ xs. xs ++ waiting) (sym (append-nil pending))

  module _ (k : Numbers) where
    abbrev beside : Machine
    beside = record m { numbers = k }

    held_goes : (stream : Option ℕ) → Goes (in_progress m n) (takes_if (is_for n r.stream && true) r.envelope.request) [] (in_progress (with_parked (taken_by stream beside) r) n)
    held_goes None = waits_goes
    held_goes (Some of) = waits_goes

    batch_goes : (of : ℕ) (q : Request) → r.stream ≡ Some of → is_plain q ≡ true → (is_for n (Some of) ≡ true → in_progress m n ≡ [])
        → Goes (in_progress m n) (takes_if ((of == n) && true) q) [] (in_progress (carried_by (taken_by (Some of) beside) r q) n)
    batch_goes of (Commit database writes None) is plain free =
        commit_end (of == n) writes free
        ∙ ap (λ xs. xs ++ waiting) (sym (pending_more n m.past (next_commit m.past r.id r writes []) (of == n) (ap (λ o. answers n (asker_by r o)) is)))
    batch_goes of (Commit database writes (Some id)) is plain free = absurd (cc)
    batch_goes of (GetDocument name mask when) is plain free = absurd (cc)
    batch_goes of (BatchGetDocuments database names mask when) is plain free = absurd (cc)
    batch_goes of (RunQuery database query when) is plain free = absurd (cc)
    batch_goes of (BeginTransaction database options) is plain free = absurd (cc)
    batch_goes of (Rollback database transaction) is plain free = absurd (cc)
    batch_goes of (AddTarget database id t token) is plain free = absurd (cc)
    batch_goes of (RemoveTarget database id) is plain free = absurd (cc)
    batch_goes of (request.Write database asked) is plain free = absurd (cc)

    carried_goes : (stream : Option ℕ) → r.stream ≡ stream → (is_some stream ≡ true → is_plain r.envelope.request ≡ true) → (is_for n stream ≡ true → in_progress m n ≡ [])
        → Goes (in_progress m n) (takes_if (is_for n stream && true) r.envelope.request) [] (in_progress (carried (taken_unless Decision.goes_on stream beside) r) n)
    carried_goes None is batch free = append-nil (in_progress m n) ∙ sym (carried_going n beside r is)
    carried_goes (Some of) is batch free = batch_goes of r.envelope.request is (batch refl) free

    comes_goes : (d : Decision) → Goes (in_progress m n) (takes_if (is_for n r.stream && isnt_refused d) r.envelope.request) [] (in_progress (comes beside r d) n)
    comes_goes (Decision.refused refusal) = refused_goes (is_for n r.stream)
    comes_goes (Decision.held id) = held_goes r.stream
    comes_goes Decision.goes_on = carried_goes r.stream refl batch free

  asked_goes : (refusal : Option Refusal) → Goes (in_progress m n) (counted_of m n r refusal) [] (in_progress (asked_unless refusal m r) n)
  asked_goes (Some refusal) = append-nil (in_progress m n)
  asked_goes None = by_test (draws r.envelope.request) where
    d : Decision
    d = unless_full m (decision m r.session r.envelope.request)

    by_test : (b : Bool) → Goes (in_progress m n) (takes_if (is_for n r.stream && isnt_refused d) r.envelope.request) [] (in_progress (comes (cond b (record m { numbers = record m.numbers { ids = m.numbers.ids + 1 } }) m) r d) n)
    by_test true = comes_goes (record m.numbers { ids = m.numbers.ids + 1 }) d
    by_test false = comes_goes m.numbers d

  -- the token of what is taken is the number of those before it
  asked_tokens : (refusal : Option Refusal) → CountOn ((stream_of n m.streams).finished + length (in_progress m n)) (map (λ t. t.0) (counted_of m n r refusal))
  asked_tokens (Some refusal) = tt
  asked_tokens None = by_test (is_for n r.stream) refl (isnt_refused (unless_full m (decision m r.session r.envelope.request))) where
    by_test : (b : Bool) → is_for n r.stream ≡ b → (c : Bool) → CountOn ((stream_of n m.streams).finished + length (in_progress m n)) (map (λ t. t.0) (takes_if (b && c) r.envelope.request))
    by_test true is true = let none = ap length (free is) in (omega (arith, none), tt)
    by_test true is false = tt
    by_test false is c = tt

-- ---- a stream that takes a batch has none in progress

module _ (m : Machine) (session k : ℕ) where
  told_free : (token : ℕ) (told : Result Take StreamError) → take_of m session token ≡ told → new_of told ≡ Some k → (stream_of k m.streams).busy ≡ false
  told_free token (Ok (New to)) is new = let same : to ≡ k = cc in subst (λ i. (stream_of i m.streams).busy ≡ false) same (new_free session token to m.streams is)
  told_free token (Ok (Repeat kept)) is new = absurd (cc)
  told_free token (Ok (InProgress finished)) is new = absurd (cc)
  told_free token (Err e) is new = absurd (cc)

  taker_free : (asked : StreamRequest) → taker_of m session asked ≡ Some k → (stream_of k m.streams).busy ≡ false
  taker_free Open takes = absurd (cc)
  taker_free (Resume n token) takes = absurd (cc)
  taker_free (Batch token writes) takes = told_free token (take_of m session token) refl takes
  taker_free (Ask token) takes = absurd (cc)
  taker_free (Mixed n token writes) takes = absurd (cc)

  stream_taken : (stream : Option ℕ) (r : ParkedRequest) → r.stream ≡ None → (taken_as stream r).stream ≡ stream
  stream_taken None r none = none
  stream_taken (Some n) r none = refl

  arrived_free : (e : Envelope) → (arrived m session e).stream ≡ Some k → (stream_of k m.streams).busy ≡ false
  arrived_free e = by_request e.request where
    by_request : (q : Request) → (arrived m session (record { id = e.id; request = q })).stream ≡ Some k → (stream_of k m.streams).busy ≡ false
    by_request (Commit database writes transaction) takes = absurd (cc)
    by_request (GetDocument name mask when) takes = absurd (cc)
    by_request (BatchGetDocuments database names mask when) takes = absurd (cc)
    by_request (RunQuery database query when) takes = absurd (cc)
    by_request (BeginTransaction database options) takes = absurd (cc)
    by_request (Rollback database transaction) takes = absurd (cc)
    by_request (AddTarget database id t token) takes = absurd (cc)
    by_request (RemoveTarget database id) takes = absurd (cc)
    by_request (request.Write database asked) takes =
        taker_free asked (sym (stream_taken (taker_of m session asked) (numbered m session (record { id = e.id; request = request.Write database asked })) refl) ∙ takes)

idle : (m : Machine) (n : ℕ) → Facts m → (stream_of n m.streams).busy ≡ false → in_progress m n ≡ []
idle m n facts free = nil_from_length (in_progress m n) (going_count n m.past m.parked ∙ facts.streams.one n ∙ ap one_if free)

none_going : (m : Machine) (session n : ℕ) (e : Envelope) → Facts m → is_for n (arrived m session e).stream ≡ true → in_progress m n ≡ []
none_going m session n e facts = by_stream (arrived m session e).stream (λ k. arrived_free m session k e) where
  by_stream : (stream : Option ℕ) → ((k : ℕ) → stream ≡ Some k → (stream_of k m.streams).busy ≡ false) → is_for n stream ≡ true → in_progress m n ≡ []
  by_stream None free is = absurd (cc)
  by_stream (Some k) free is = let same : k ≡ n = grind (arith, nat_tests, is) in idle m n facts (subst (λ i. (stream_of i m.streams).busy ≡ false) same (free k refl))

-- ---- one that is tried again

module _ (m : Machine) (facts : Facts m) (n : ℕ) where
  at_most : under_way n m.past m.parked ≤ 1
  at_most = let most = few (stream_of n m.streams).busy in let is = facts.streams.one n in omega (arith, most, is)

  module _ (place : ℕ) (r : ParkedRequest) (here : slice_get m.parked place ≡ Some r) where
    abbrev rest : List ParkedRequest
    rest = remove m.parked place

    -- it was the one that was in progress
    was_going : is_for n r.stream ≡ true → (pending_writes n m.past.unreleased ≡ []) × (waiting_writes n m.parked ≡ writes_of r.envelope.request ∷ []) × (waiting_writes n rest ≡ [])
    was_going is =
        let without = without_place m.parked place r here in
        let less = count_without (λ (r : ParkedRequest). is_for n r.stream) r m.parked rest without ∙ ap (λ b. tally (λ (r : ParkedRequest). is_for n r.stream) rest + one_if b) is in
        let most = at_most in
        let gone = only_gone (λ (r : ParkedRequest). is_for n r.stream) r m.parked rest without is (omega (arith, less, most)) in
        let none = none_pass (λ (u : Unreleased). answers n u.asker) m.past.unreleased (omega (arith, less, most)) in
        (ap (map (λ u. u.batch.writes)) none, ap (map (λ r. writes_of r.envelope.request)) gone.0, ap (map (λ r. writes_of r.envelope.request)) gone.1)

    stays_going : is_for n r.stream ≡ false → waiting_writes n m.parked ≡ waiting_writes n rest
    stays_going is = ap (map (λ r. writes_of r.envelope.request)) (other_gone (λ (r : ParkedRequest). is_for n r.stream) r m.parked rest (without_place m.parked place r here) is)

    given_up_goes : (b : Bool) (kept : Kept) → is_for n r.stream ≡ b → Goes (in_progress m n) [] (cond b ((writes_of r.envelope.request, kept) ∷ []) []) (going n m.past rest)
    given_up_goes true kept is = let (none, alone, left) = was_going is in rw (none, alone, left) refl
    given_up_goes false kept is = rw (stays_going is) (append-nil (going n m.past rest))

    goes_end : (b : Bool) (writes : List Write) → writes ≡ writes_of r.envelope.request → is_for n r.stream ≡ b → in_progress m n ≡ (pending_writes n m.past.unreleased ++ cond b (writes ∷ []) []) ++ waiting_writes n rest
    goes_end true writes its is = let (none, alone, left) = was_going is in rw (none, alone, left, its) refl
    goes_end false writes its is = rw (stays_going is) (ap (λ xs. xs ++ waiting_writes n rest) (sym (append-nil (pending_writes n m.past.unreleased))))

    batch_tried : (of : ℕ) (q : Request) → r.envelope.request ≡ q → r.stream ≡ Some of → is_plain q ≡ true → in_progress (carried_by (unparked m place) r q) n ≡ in_progress m n
    batch_tried of (Commit database writes None) asks is plain =
        ap (λ xs. xs ++ waiting_writes n rest) (pending_more n m.past (next_commit m.past r.id r writes []) (of == n) (ap (λ o. answers n (asker_by r o)) is))
        ∙ sym (goes_end (of == n) writes (sym (ap writes_of asks)) (ap (is_for n) is))
    batch_tried of (Commit database writes (Some id)) asks is plain = absurd (cc)
    batch_tried of (GetDocument name mask when) asks is plain = absurd (cc)
    batch_tried of (BatchGetDocuments database names mask when) asks is plain = absurd (cc)
    batch_tried of (RunQuery database query when) asks is plain = absurd (cc)
    batch_tried of (BeginTransaction database options) asks is plain = absurd (cc)
    batch_tried of (Rollback database transaction) asks is plain = absurd (cc)
    batch_tried of (AddTarget database id t token) asks is plain = absurd (cc)
    batch_tried of (RemoveTarget database id) asks is plain = absurd (cc)
    batch_tried of (request.Write database asked) asks is plain = absurd (cc)

    goes_tried : (stream : Option ℕ) → r.stream ≡ stream → in_progress (carried (unparked m place) r) n ≡ in_progress m n
    goes_tried None is = carried_going n (unparked m place) r is ∙ ap (λ xs. pending_writes n m.past.unreleased ++ xs) (sym (stays_going (ap (is_for n) is)))
    goes_tried (Some of) is = batch_tried of r.envelope.request refl is ((waiter_asks m.parked place r here facts.waiters).plain (ap is_some is))

    tried_goes : (d : Decision) → Goes (in_progress m n) [] (cond (is_for n r.stream) (given_up_of m n r d) []) (in_progress (tried m place r d) n)
    tried_goes (Decision.refused refusal) = given_up_goes (is_for n r.stream) (kept_refused m.streams n refusal) refl
    tried_goes (Decision.held id) = goes_if _ _ (is_for n r.stream) (goes_same (in_progress m n) (in_progress m n) refl)
    tried_goes Decision.goes_on = goes_if _ _ (is_for n r.stream) (goes_same (in_progress m n) (in_progress (carried (unparked m place) r) n) (goes_tried r.stream refl))

  retried_goes : (place : ℕ) (found : Option ParkedRequest) → slice_get m.parked place ≡ found → Goes (in_progress m n) [] (retried_of m n found) (in_progress (retried_if m place found) n)
  retried_goes place None is = goes_same _ _ refl
  retried_goes place (Some r) is = tried_goes place r is (retry_decision m r.session r.envelope.request)

  -- ---- a commit that is settled

  dropped_goes : (u : Unreleased) (b : Bool) (kept : Kept) → pending_in u.batch.id m.past.unreleased ≡ Some u → answers n u.asker ≡ b
      → Goes (in_progress m n) [] (cond b ((u.batch.writes, kept) ∷ []) []) (pending_writes n (dropped_from u.batch.id m.past.unreleased) ++ waiting_writes n m.parked)
  dropped_goes u true kept here is =
      let us = m.past.unreleased in
      let left = dropped_from u.batch.id us in
      let without = without_dropped u.batch.id us u here in
      let less = count_without (λ (u : Unreleased). answers n u.asker) u us left without ∙ ap (λ b. tally (λ (u : Unreleased). answers n u.asker) left + one_if b) is in
      let most = at_most in
      let gone = only_gone (λ (u : Unreleased). answers n u.asker) u us left without is (omega (arith, less, most)) in
      let none = none_pass (λ (r : ParkedRequest). is_for n r.stream) m.parked (omega (arith, less, most)) in
      rw (gone.0, gone.1, none) refl
  dropped_goes u false kept here is =
      let us = m.past.unreleased in
      let left = dropped_from u.batch.id us in
      rw (other_gone (λ (u : Unreleased). answers n u.asker) u us left (without_dropped u.batch.id us u here) is) (append-nil (pending_writes n left ++ waiting_writes n m.parked))

  with_goes : (u : Unreleased) (r : Result (Docs × List WriteResult) Refusal) → pending_in u.batch.id m.past.unreleased ≡ Some u
      → Goes (in_progress m n) [] (cond (answers n u.asker) (settled_of m n u r) []) (in_progress (decided_with m u r) n)
  with_goes u (Ok done) here = goes_if _ _ (answers n u.asker) (goes_same _ _ (ap (λ xs. xs ++ waiting_writes n m.parked) (writes_accepted n u.batch.id done.1 m.past.unreleased)))
  with_goes u (Err refusal) here = dropped_goes u (answers n u.asker) (kept_refused m.streams n refusal) here refl

  decided_goes : (id : ℕ) (found : Option Unreleased) → pending_of m.past id ≡ found → Goes (in_progress m n) [] (decided_of m n found) (in_progress (decided_if m found) n)
  decided_goes id None is = goes_same _ _ refl
  decided_goes id (Some u) is = with_goes u (outcome_of m.past u) (ap (pending_of m.past) (number_found m.past.unreleased id u is) ∙ is)

  -- ---- commits that are released

  released_goes : Goes (in_progress m n) [] (finishes m Event.releasing n) (going n (past_released m.past) m.parked)
  released_goes =
      let us = m.past.unreleased in
      let to = free_to m.past.last us in
      let most = at_most in
      let parts = in_parts (λ (u : Unreleased). answers n u.asker) (is_freed to) us (omega (arith, most)) in
      append-nil (in_progress m n)
      ∙ ap (λ xs. map (λ (u : Unreleased). u.batch.writes) xs ++ waiting_writes n m.parked) parts
      ∙ ap (λ xs. xs ++ waiting_writes n m.parked) (map-append (λ (u : Unreleased). u.batch.writes) (of_stream n (freed to us)) (of_stream n (kept_back to us)))
      ∙ append_assoc (pending_writes n (freed to us)) (pending_writes n (kept_back to us)) (waiting_writes n m.parked)
      ∙ ap (λ xs. xs ++ going n (past_released m.past) m.parked) (sym (first_of (of_stream n (freed to us))))
    where
      first_of : (us : List Unreleased) → map (λ (d : Done). d.0) (map (λ (u : Unreleased). (u.batch.writes, kept_of m.streams n (as_committed u))) us) ≡ map (λ (u : Unreleased). u.batch.writes) us
      first_of [] = refl
      first_of (u ∷ us) = ap (λ xs. u.batch.writes ∷ xs) (first_of us)

-- ---- each event

pub goes : (m : Machine) (e : Event) (n : ℕ) → Facts m → Goes (in_progress m n) (takes m e n) (finishes m e n) (in_progress (step m e) n)
goes m Event.opening n facts = by_test (is_full m) where
  by_test : (b : Bool) → Goes (in_progress m n) [] [] (in_progress (cond b m (with_session m)) n)
  by_test true = goes_same (in_progress m n) (in_progress m n) refl
  by_test false = goes_same (in_progress m n) (in_progress m n) refl
goes m (Event.leaving session) n facts = goes_same (in_progress m n) _ (ap (λ xs. pending_writes n m.past.unreleased ++ xs) (writes_others n session m.parked))
goes m (Event.asking session e) n facts =
    let refusal = arrival_refusal m session e.request in
    subst (λ ts. Goes (in_progress m n) ts [] (in_progress (step m (Event.asking session e)) n)) (sym (sent_counted m session n facts.streams.stands e refusal))
    (asked_goes m (arrived m session e) n (arrived_batch m session e) (none_going m session n e facts) refusal)
goes m (Event.retrying place) n facts = retried_goes m facts n place (slice_get m.parked place) refl
goes m (Event.deciding id) n facts = decided_goes m facts n id (pending_of m.past id) refl
goes m (Event.advancing now) n facts = goes_same (in_progress m n) (in_progress m n) refl
goes m Event.releasing n facts = released_goes m facts n
goes m (Event.compacting to) n facts = goes_same (in_progress m n) (in_progress m n) refl
goes m (Event.loading session target at) n facts = goes_same (in_progress m n) _ (ap (λ (k : Machine). in_progress k n) (loaded_rest m session target at))
goes m (Event.matching shard to) n facts = goes_same (in_progress m n) (in_progress m n) refl
goes m (Event.raising session) n facts = goes_same (in_progress m n) _ (ap (λ (k : Machine). in_progress k n) (raised_rest m session))
goes m (Event.taking session) n facts = goes_same (in_progress m n) (in_progress m n) refl

-- what is taken has as its token the number of those before it
pub tokens : (m : Machine) (e : Event) (n : ℕ) → Facts m → CountOn ((stream_of n m.streams).finished + length (in_progress m n)) (map (λ t. t.0) (takes m e n))
tokens m Event.opening n facts = tt
tokens m (Event.leaving session) n facts = tt
tokens m (Event.asking session e) n facts =
    let refusal = arrival_refusal m session e.request in
    subst (λ ts. CountOn ((stream_of n m.streams).finished + length (in_progress m n)) (map (λ (t : Taken). t.0) ts)) (sym (sent_counted m session n facts.streams.stands e refusal))
    (asked_tokens m (arrived m session e) n (arrived_batch m session e) (none_going m session n e facts) refusal)
tokens m (Event.retrying place) n facts = tt
tokens m (Event.deciding id) n facts = tt
tokens m (Event.advancing now) n facts = tt
tokens m Event.releasing n facts = tt
tokens m (Event.compacting to) n facts = tt
tokens m (Event.loading session target at) n facts = tt
tokens m (Event.matching shard to) n facts = tt
tokens m (Event.raising session) n facts = tt
tokens m (Event.taking session) n facts = tt
