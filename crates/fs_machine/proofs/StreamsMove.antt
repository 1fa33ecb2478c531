-- What each event does to the batches that a stream has finished, and to the response that it keeps.
use Rattle.std.proofs.Common.{◌≡◌, ℕ, zero, suc, ◌+◌, ◌≤◌, Bool, true, false, cond, List, [], ◌∷◌, ◌++◌, map, Option, Some, None, Result, Ok, Err, length, refl, sym, ap, ◌∙◌, subst, arith, slice_index_or, slice_set}
use Rattle.std.specs.Prelude.{◌==◌, remove, slice_get}
use Rattle.std.proofs.lemmas.Bool.Decides.{nat_tests}
use Rattle.std.proofs.lemmas.List.{length-append, length-map, map-append}
use Rattle.fs_status.specs.declared.refusal.Refusal.{Refusal}
use Rattle.fs_stream.proofs.Standing.{busy_there}
use Rattle.fs_stream.specs.Streams.{Streams, finished_by, finished_with, fresh, stream_of, taken, with_stream}
use Rattle.fs_stream.specs.declared.kept.Kept.{Kept}
use Rattle.fs_stream.specs.declared.stream.Stream.{Stream as WriteStream}
use Rattle.fs_stream.specs.declared.take.Take.TheVariants as take
use Rattle.fs_write.specs.Batch.{Docs}
use Rattle.fs_write.specs.declared.write.Write.{Write}
use Rattle.fs_write.specs.declared.write_result.WriteResult.{WriteResult}
use Rattle.fs_machine.specs.Event.{Event, step}
use Rattle.fs_machine.specs.Facts.{Facts}
use Rattle.fs_machine.specs.Numbered.{draws}
use Rattle.fs_machine.specs.Open.{is_full, with_session}
use Rattle.fs_machine.specs.Release.{all_answered, answered_to, as_committed, free_to, is_freed, let_out}
use Rattle.fs_machine.specs.Request.{Decision, arrival_refusal, arrived, arrives, asked_unless, comes, decision, taken_unless, unless_full}
use Rattle.fs_machine.specs.Retry.{given_up, retried_if, retry_decision, tried, unparked}
use Rattle.fs_machine.specs.Settle.{decided_if, decided_with, outcome_of, pending_in, pending_of, refused_to}
use Rattle.fs_machine.specs.State.{Machine}
use Rattle.fs_machine.specs.Stream.{Desk, desk_of, kept_of, kept_refused}
use Rattle.fs_machine.specs.StreamLaws.{CountOn, decided_of, finishes, given_up_of, last_of, retried_of, settled_of, writes_of}
use Rattle.fs_machine.specs.StreamsHold.{answers, is_for, of_stream, one_if, under_way}
use Rattle.fs_machine.specs.declared.asker.Asker.{Asker}
use Rattle.fs_machine.specs.declared.asker.Asker.TheVariants.{Session, Stream}
use Rattle.fs_machine.specs.declared.parked_request.ParkedRequest.{ParkedRequest}
use Rattle.fs_machine.specs.declared.unreleased.Unreleased.{Unreleased}
use Rattle.fs_machine.proofs.Listening.{loaded_rest, raised_rest}
use Rattle.fs_machine.proofs.StreamsAsked.{carried_streams}
use Rattle.fs_machine.proofs.StreamsHold.{commits_dropped, commits_of, stream_left, stream_set, stream_unset}
use Rattle.fs_machine.proofs.Tallies.{count_parts, count_without, none_pass, without_place}

-- ---- the batches that a stream finishes from one moment to another

-- the writes of one, and the response
abbrev pub Done : Type 0
Done = List Write × Kept

abbrev pub response : Done → Kept
response d = d.1

abbrev pub token : Done → ℕ
token d = d.1.token

-- from one to the other, these are finished
pub record Moves (s t : WriteStream) (done : List Done) : Type 0 where
  pub finished : t.finished ≡ s.finished + length done
  pub kept : t.kept ≡ last_of s.kept (map response done)
  pub tokens : CountOn (s.finished + 1) (map token done)

pub counted_on : (from : ℕ) (xs ys : List ℕ) → CountOn from xs → CountOn (from + length xs) ys → CountOn from (xs ++ ys)
counted_on from [] ys first next = subst (λ k. CountOn k ys) (let same : from + 0 ≡ from = omega arith in same) next
counted_on from (x ∷ xs) ys first next =
    (first.0, counted_on (from + 1) xs ys first.1 (subst (λ k. CountOn k ys) (let same : from + length (x ∷ xs) ≡ from + 1 + length xs = omega arith in same) next))

last_on : (kept : Option Kept) (xs ys : List Kept) → last_of kept (xs ++ ys) ≡ last_of (last_of kept xs) ys
last_on kept [] ys = refl
last_on kept (x ∷ xs) ys = last_on (Some x) xs ys

pub moves_on : (s t u : WriteStream) (xs ys : List Done) → Moves s t xs → Moves t u ys → Moves s u (xs ++ ys)
moves_on s t u xs ys first next = record {
  finished = let more = length-append xs ys in let one = first.finished in let two = next.finished in omega (arith, more, one, two);
  kept =
      next.kept ∙ ap (λ kept. last_of kept (map response ys)) first.kept ∙ sym (last_on s.kept (map response xs) (map response ys))
      ∙ ap (last_of s.kept) (sym (map-append response xs ys));
  tokens =
      let long = length-map xs token in
      let one = first.finished in
      let same : t.finished + 1 ≡ s.finished + 1 + length (map token xs) = omega (arith, long, one) in
      subst (CountOn (s.finished + 1)) (sym (map-append token xs ys))
      (counted_on (s.finished + 1) (map token xs) (map token ys) first.tokens (subst (λ k. CountOn k (map token ys)) same next.tokens));
}

pub moves_still : (s t : WriteStream) → t.finished ≡ s.finished → t.kept ≡ s.kept → Moves s t []
moves_still s t finished kept = record { finished = omega (arith, finished); kept = kept; tokens = tt }

pub moves_same : (s t : WriteStream) → t ≡ s → Moves s t []
moves_same s t is = moves_still s t (ap (λ (x : WriteStream). x.finished) is) (ap (λ (x : WriteStream). x.kept) is)

moves_one : (s t : WriteStream) (writes : List Write) (kept : Kept) → t ≡ finished_by kept s → kept.token ≡ suc s.finished → Moves s t ((writes, kept) ∷ [])
moves_one s t writes kept is token = record {
  finished = let here = ap (λ (x : WriteStream). x.finished) is in omega (arith, here);
  kept = ap (λ (x : WriteStream). x.kept) is;
  tokens = (omega (arith, token), tt);
}

-- nothing is finished, whatever is asked
moves_if : (s t : WriteStream) (b : Bool) → Moves s t [] → Moves s t (cond b [] [])
moves_if s t true moves = moves
moves_if s t false moves = moves

-- ---- one batch

-- one is put in the place of another: what the two have alike, each has as before
set_alike : {A : Type 0} (f : WriteStream → A) (xs : List WriteStream) (i j : ℕ) (x : WriteStream) → f x ≡ f (slice_index_or xs i fresh) → f (slice_index_or (slice_set xs i x) j fresh) ≡ f (slice_index_or xs j fresh)
set_alike f [] i j x same = refl
set_alike f (y ∷ xs) zero zero x same = same
set_alike f (y ∷ xs) zero (suc j) x same = refl
set_alike f (y ∷ xs) (suc i) zero x same = refl
set_alike f (y ∷ xs) (suc i) (suc j) x same = set_alike f xs i j x same

with_alike : {A : Type 0} (f : WriteStream → A) (k n : ℕ) (x : WriteStream) (s : Streams) → f x ≡ f (stream_of k s) → f (stream_of n (with_stream k x s)) ≡ f (stream_of n s)
with_alike f zero n x s same = refl
with_alike f (suc i) zero x s same = refl
with_alike f (suc i) (suc j) x s same = set_alike f s.opened i j x same

-- it is taken
taken_moves : (k n : ℕ) (s : Streams) → Moves (stream_of n s) (stream_of n (taken (take.New k) s)) []
taken_moves k n s =
    let busy = record (stream_of k s) { busy = true } in
    moves_still _ _ (with_alike (λ (x : WriteStream). x.finished) k n busy s refl) (with_alike (λ (x : WriteStream). x.kept) k n busy s refl)

-- it is finished, of a stream that is busy
finished_moves : (k n : ℕ) (given : ℕ → Kept) (writes : List Write) (s : Streams) (b : Bool) → (k == n) ≡ b → (b ≡ true → (stream_of n s).busy ≡ true) → (given n).token ≡ suc (stream_of n s).finished
    → Moves (stream_of n s) (stream_of n (finished_with k (given k) s)) (cond b ((writes, given n) ∷ []) [])
finished_moves k n given writes s true is busy token =
    let same : k ≡ n = grind (arith, nat_tests, is) in
    let there = busy_there n s (busy refl) in
    moves_one _ _ writes (given n) (ap (λ i. stream_of n (finished_with i (given i) s)) same ∙ stream_set n (finished_by (given n) (stream_of n s)) s there.0 there.1) token
finished_moves k n given writes s false is busy token = moves_same _ _ (stream_unset k n (finished_by (given k) (stream_of k s)) s is)

is_busy : (b : Bool) (count : ℕ) → count ≡ one_if b → 1 ≤ count → b ≡ true
is_busy true count is some = refl
is_busy false count is some = absurd (omega (arith, is, some))

-- ---- a request that comes

taken_unless_moves : (d : Decision) (stream : Option ℕ) (m : Machine) (n : ℕ) → Moves (stream_of n m.streams) (stream_of n (taken_unless d stream m).streams) []
taken_unless_moves (Decision.refused refusal) stream m n = moves_same _ _ refl
taken_unless_moves (Decision.held id) None m n = moves_same _ _ refl
taken_unless_moves (Decision.held id) (Some k) m n = taken_moves k n m.streams
taken_unless_moves Decision.goes_on None m n = moves_same _ _ refl
taken_unless_moves Decision.goes_on (Some k) m n = taken_moves k n m.streams

arrives_streams : (m : Machine) (r : ParkedRequest) (d : Decision) (n : ℕ) → stream_of n (arrives m r d).streams ≡ stream_of n m.streams
arrives_streams m r (Decision.refused refusal) n = refl
arrives_streams m r (Decision.held id) n = refl
arrives_streams m r Decision.goes_on n = carried_streams m r n

comes_moves : (m : Machine) (r : ParkedRequest) (d : Decision) (n : ℕ) → Moves (stream_of n m.streams) (stream_of n (comes m r d).streams) []
comes_moves m r d n =
    let k = taken_unless d r.stream m in
    moves_on _ (stream_of n k.streams) _ [] [] (taken_unless_moves d r.stream m n) (moves_same _ _ (arrives_streams k r d n))

asked_moves : (m : Machine) (r : ParkedRequest) (refusal : Option Refusal) (n : ℕ) → Moves (stream_of n m.streams) (stream_of n (asked_unless refusal m r).streams) []
asked_moves m r (Some refusal) n = moves_same _ _ refl
asked_moves m r None n = by_test (draws r.envelope.request) where
  by_test : (b : Bool) → Moves (stream_of n m.streams) (stream_of n (comes (cond b (record m { numbers = record m.numbers { ids = m.numbers.ids + 1 } }) m) r (unless_full m (decision m r.session r.envelope.request))).streams) []
  by_test true = comes_moves (record m { numbers = record m.numbers { ids = m.numbers.ids + 1 } }) r (unless_full m (decision m r.session r.envelope.request)) n
  by_test false = comes_moves m r (unless_full m (decision m r.session r.envelope.request)) n

-- ---- one that is tried again

module _ (m : Machine) (facts : Facts m) (n : ℕ) where
  noted : under_way n m.past m.parked ≡ one_if (stream_of n m.streams).busy
  noted = facts.streams.one n

  given_up_moves : (place : ℕ) (r : ParkedRequest) (refusal : Refusal) (stream : Option ℕ) → slice_get m.parked place ≡ Some r → r.stream ≡ stream
      → Moves (stream_of n m.streams) (stream_of n (given_up stream refusal (desk_of m)).0) (cond (is_for n stream) ((writes_of r.envelope.request, kept_refused m.streams n refusal) ∷ []) [])
  given_up_moves place r refusal None here is = moves_same _ _ refl
  given_up_moves place r refusal (Some k) here is = finished_moves k n (λ i. kept_refused m.streams i refusal) (writes_of r.envelope.request) m.streams (k == n) refl busy refl where
    busy : (k == n) ≡ true → (stream_of n m.streams).busy ≡ true
    busy same =
        let less = count_without (λ (x : ParkedRequest). is_for n x.stream) r m.parked (remove m.parked place) (without_place m.parked place r here) in
        let its : one_if (is_for n r.stream) ≡ 1 = ap (λ o. one_if (is_for n o)) is ∙ ap one_if same in
        is_busy (stream_of n m.streams).busy (under_way n m.past m.parked) noted (omega (arith, less, its))

  tried_moves : (place : ℕ) (r : ParkedRequest) (d : Decision) → slice_get m.parked place ≡ Some r
      → Moves (stream_of n m.streams) (stream_of n (tried m place r d).streams) (cond (is_for n r.stream) (given_up_of m n r d) [])
  tried_moves place r (Decision.refused refusal) here = given_up_moves place r refusal r.stream here refl
  tried_moves place r (Decision.held id) here = moves_if _ _ (is_for n r.stream) (moves_same _ _ refl)
  tried_moves place r Decision.goes_on here = moves_if _ _ (is_for n r.stream) (moves_same _ _ (carried_streams (unparked m place) r n))

  retried_moves : (place : ℕ) (found : Option ParkedRequest) → slice_get m.parked place ≡ found → Moves (stream_of n m.streams) (stream_of n (retried_if m place found).streams) (retried_of m n found)
  retried_moves place None is = moves_same _ _ refl
  retried_moves place (Some r) is = tried_moves place r (retry_decision m r.session r.envelope.request) is

  -- ---- a commit that is settled

  refused_moves : (id : ℕ) (u : Unreleased) (refusal : Refusal) (of : Asker) → pending_in id m.past.unreleased ≡ Some u → u.asker ≡ of
      → Moves (stream_of n m.streams) (stream_of n (refused_to of refusal (desk_of m)).0) (cond (answers n of) ((u.batch.writes, kept_refused m.streams n refusal) ∷ []) [])
  refused_moves id u refusal (Session session request) here is = moves_same _ _ refl
  refused_moves id u refusal (Stream k) here is = finished_moves k n (λ i. kept_refused m.streams i refusal) u.batch.writes m.streams (k == n) refl busy refl where
    busy : (k == n) ≡ true → (stream_of n m.streams).busy ≡ true
    busy same =
        let less = commits_dropped n id m.past.unreleased u here in
        let its : one_if (answers n u.asker) ≡ 1 = ap (λ of. one_if (answers n of)) is ∙ ap one_if same in
        is_busy (stream_of n m.streams).busy (under_way n m.past m.parked) noted (omega (arith, less, its))

  with_moves : (id : ℕ) (u : Unreleased) (r : Result (Docs × List WriteResult) Refusal) → pending_in id m.past.unreleased ≡ Some u
      → Moves (stream_of n m.streams) (stream_of n (decided_with m u r).streams) (cond (answers n u.asker) (settled_of m n u r) [])
  with_moves id u (Ok done) here = moves_if _ _ (answers n u.asker) (moves_same _ _ refl)
  with_moves id u (Err refusal) here = refused_moves id u refusal u.asker here refl

  decided_moves : (id : ℕ) (found : Option Unreleased) → pending_of m.past id ≡ found → Moves (stream_of n m.streams) (stream_of n (decided_if m found).streams) (decided_of m n found)
  decided_moves id None is = moves_same _ _ refl
  decided_moves id (Some u) is = with_moves id u (outcome_of m.past u) is

-- ---- commits that are released

-- with their writes, and the response that the first of them would be given
abbrev done_of : ℕ → Streams → Unreleased → Done
done_of n s u = (u.batch.writes, kept_of s n (as_committed u))

-- one at most of a stream, which is busy then
abbrev AnswersMove : ℕ → List Unreleased → Type 0
AnswersMove n us = (s : Streams) (d : Desk) → stream_of n d.0 ≡ stream_of n s → commits_of n us ≤ one_if (stream_of n s).busy
    → Moves (stream_of n s) (stream_of n (all_answered (map as_committed us) d).0) (map (done_of n s) (of_stream n us))

pub few : (b : Bool) → one_if b ≤ 1
few true = omega arith
few false = omega arith

answers_next : (n : ℕ) (u : Unreleased) (us : List Unreleased) (s : Streams) (d : Desk) (of : Asker) → stream_of n d.0 ≡ stream_of n s → one_if (answers n of) + commits_of n us ≤ one_if (stream_of n s).busy → AnswersMove n us
    → Moves (stream_of n s) (stream_of n (all_answered (map as_committed us) (answered_to (as_committed u) of d)).0) (map (done_of n s) (cond (answers n of) (u ∷ of_stream n us) (of_stream n us)))
answers_next n u us s d (Session session request) alike one rest = rest s (answered_to (as_committed u) (Session session request) d) alike (omega (arith, one))
answers_next n u us s d (Stream k) alike one rest = by_test (k == n) refl one where
  next : Desk
  next = answered_to (as_committed u) (Stream k) d

  last : WriteStream
  last = stream_of n (all_answered (map as_committed us) next).0

  given : WriteStream → Kept
  given x = record { token = suc x.finished; results = (as_committed u).results; commit = Some u.batch.time; refusal = None }

  by_test : (b : Bool) → (k == n) ≡ b → one_if b + commits_of n us ≤ one_if (stream_of n s).busy
      → Moves (stream_of n s) (stream_of n (all_answered (map as_committed us) next).0) (map (done_of n s) (cond b (u ∷ of_stream n us) (of_stream n us)))
  by_test true is one =
      let most = few (stream_of n s).busy in
      let none = none_pass (λ (x : Unreleased). answers n x.asker) us (omega (arith, one, most)) in
      let busy : (stream_of n d.0).busy ≡ true = ap (λ (x : WriteStream). x.busy) alike ∙ is_busy (stream_of n s).busy (one_if (stream_of n s).busy) refl (omega (arith, one)) in
      let first = finished_moves k n (λ i. kept_of d.0 i (as_committed u)) u.batch.writes d.0 true is (λ same. busy) refl in
      let here = subst (λ x. Moves x (stream_of n next.0) ((u.batch.writes, given x) ∷ [])) alike first in
      let rest = subst (λ xs. Moves (stream_of n next.0) last (map (done_of n next.0) xs)) none (rest next.0 next refl (omega (arith, one, most))) in
      subst (λ xs. Moves (stream_of n s) last ((u.batch.writes, given (stream_of n s)) ∷ map (done_of n s) xs)) (sym none) (moves_on _ (stream_of n next.0) _ ((u.batch.writes, given (stream_of n s)) ∷ []) [] here rest)
  by_test false is one = rest s next (stream_unset k n (finished_by (kept_of d.0 k (as_committed u)) (stream_of k d.0)) d.0 is ∙ alike) (omega (arith, one))

answers_move : (n : ℕ) (us : List Unreleased) → AnswersMove n us
answers_move n [] s d alike one = moves_same _ _ alike
answers_move n (u ∷ us) s d alike one = answers_next n u us s d u.asker alike one (answers_move n us)

-- ---- each event

pub moves : (m : Machine) (e : Event) (n : ℕ) → Facts m → Moves (stream_of n m.streams) (stream_of n (step m e).streams) (finishes m e n)
moves m Event.opening n facts = by_test (is_full m) where
  by_test : (b : Bool) → Moves (stream_of n m.streams) (stream_of n (cond b m (with_session m)).streams) []
  by_test true = moves_same _ _ refl
  by_test false = moves_same _ _ refl
moves m (Event.leaving session) n facts = moves_same _ _ (stream_left session n m.streams)
moves m (Event.asking session e) n facts = asked_moves m (arrived m session e) (arrival_refusal m session e.request) n
moves m (Event.retrying place) n facts = retried_moves m facts n place (slice_get m.parked place) refl
moves m (Event.deciding id) n facts = decided_moves m facts n id (pending_of m.past id) refl
moves m (Event.advancing now) n facts = moves_same _ _ refl
moves m Event.releasing n facts =
    let parts = count_parts (λ (u : Unreleased). answers n u.asker) (is_freed (free_to m.past.last m.past.unreleased)) m.past.unreleased in
    let one = facts.streams.one n in
    answers_move n (let_out m.past) m.streams (desk_of m) refl (omega (arith, parts, one))
moves m (Event.compacting to) n facts = moves_same _ _ refl
moves m (Event.loading session target at) n facts = moves_same _ _ (ap (λ (k : Machine). stream_of n k.streams) (loaded_rest m session target at))
moves m (Event.matching shard to) n facts = moves_same _ _ refl
moves m (Event.raising session) n facts = moves_same _ _ (ap (λ (k : Machine). stream_of n k.streams) (raised_rest m session))
moves m (Event.taking session) n facts = moves_same _ _ refl
