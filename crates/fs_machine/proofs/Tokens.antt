-- A batch that is new was sent with the number of finished batches as its token, and the writes that are taken are those that were sent.
use Rattle.std.proofs.Common.{◌≡◌, ℕ, suc, ◌+◌, ◌<◌, ◌≤◌, Bool, true, false, cond, List, [], ◌∷◌, map, Option, Some, None, Result, Ok, Err, length, refl, sym, ap, ◌∙◌, arith}
use Rattle.std.specs.Prelude.{◌↔◌, ◌==◌, ◌&&◌, nat_lt}
use Rattle.std.specs.List.{filter}
use Rattle.std.proofs.lemmas.Bool.{eqb-true}
use Rattle.fs_path.specs.declared.name.Root.{Root}
use Rattle.fs_request.specs.declared.request.Envelope.{Envelope}
use Rattle.fs_request.specs.declared.request.Request.{Request}
use Rattle.fs_request.specs.declared.request.Request.TheVariants.{Commit, GetDocument, BatchGetDocuments, RunQuery, BeginTransaction, Rollback, AddTarget, RemoveTarget}
use Rattle.fs_request.specs.declared.request.Request.TheVariants as request
use Rattle.fs_request.specs.declared.stream_request.StreamRequest.{StreamRequest}
use Rattle.fs_request.specs.declared.stream_request.StreamRequest.TheVariants.{Open, Resume, Batch, Ask, Mixed}
use Rattle.fs_status.specs.declared.refusal.Refusal.{Refusal}
use Rattle.fs_stream.proofs.Standing.{new_owned}
use Rattle.fs_stream.specs.Answers.{batch_of, batch_told, by_owned, missed, take_answer}
use Rattle.fs_stream.specs.Stands.{Stands}
use Rattle.fs_stream.specs.Streams.{Streams, stream_of}
use Rattle.fs_stream.specs.declared.error.StreamError.{StreamError}
use Rattle.fs_stream.specs.declared.error.StreamError.TheVariants as error
use Rattle.fs_stream.specs.declared.kept.Kept.{Kept}
use Rattle.fs_stream.specs.declared.stream.Stream.{Stream as WriteStream}
use Rattle.fs_stream.specs.declared.take.Take.{Take}
use Rattle.fs_stream.specs.declared.take.Take.TheVariants.{New, Repeat, InProgress}
use Rattle.fs_write.specs.declared.write.Write.{Write}
use Rattle.fs_machine.specs.Request.{arrived, decision, unless_full}
use Rattle.fs_machine.specs.State.{Machine}
use Rattle.fs_machine.specs.Stream.{new_of, take_of, taken_as, taker_of}
use Rattle.fs_machine.specs.StreamLaws.{CountOn, isnt_refused, sent, sent_in, taken_of, writes_of}
use Rattle.fs_machine.specs.StreamsHold.{is_for}
use Rattle.fs_machine.specs.declared.parked_request.ParkedRequest.{ParkedRequest}

-- a batch, by its token
abbrev pub Taken : Type 0
Taken = ℕ × List Write

-- ---- what is new

-- who has missed nothing knows of all finished batches
none_missed : (s : WriteStream) (known : ℕ) → ((s.kept ≡ None) ↔ (s.finished ≡ 0)) → missed s known ≡ Ok None → known ≡ s.finished
none_missed s known keeps is = by_tests (known == s.finished) refl (suc known == s.finished) refl (nat_lt known s.finished) is where
  told : Bool → Bool → Bool → Result (Option Kept) StreamError
  told same last below = cond same (Ok None) (cond last (Ok s.kept) (cond below (Err (error.Stale known s.finished)) (Err (error.Ahead known s.finished))))

  by_tests : (same : Bool) → (known == s.finished) ≡ same → (last : Bool) → (suc known == s.finished) ≡ last → (below : Bool) → told same last below ≡ Ok None → known ≡ s.finished
  by_tests true here last one below is = eqb-true known s.finished here
  by_tests false here true one below is =
      let none : s.kept ≡ None = cc in
      let zero = keeps.0 none in
      let next = eqb-true (suc known) s.finished one in
      absurd (omega (arith, zero, next))
  by_tests false here false one true is = absurd (cc)
  by_tests false here false one false is = absurd (cc)

nothing_missed : (n : ℕ) (s : WriteStream) (t : Result (Option Kept) StreamError) (k : ℕ) → batch_of n s t ≡ Ok (New k) → t ≡ Ok None
nothing_missed n s (Err e) k is = absurd (cc)
nothing_missed n s (Ok (Some kept)) k is = absurd (cc)
nothing_missed n s (Ok None) k is = refl

-- a batch that is new to a stream has the number of finished batches as its token
new_token : (session known k : ℕ) (m : Streams) → Stands m → take_answer session known m ≡ Ok (New k) → known ≡ (stream_of k m).finished
new_token session known k m stands is =
    let told : batch_told k (stream_of k m) known ≡ Ok (New k) = sym (ap (λ o. by_owned o known m) (new_owned session known k m is)) ∙ is in
    none_missed (stream_of k m) known (stands.kept k) (nothing_missed k (stream_of k m) (missed (stream_of k m) known) k told)

-- ---- what is taken was sent so

-- as the machine counts it
abbrev pub as_counted : Machine → ℕ → List Write → List Taken
as_counted m n writes = ((stream_of n m.streams).finished, writes) ∷ []

abbrev pub counted_of : Machine → ℕ → ParkedRequest → Option Refusal → List Taken
counted_of m n r (Some refusal) = []
counted_of m n r None = cond (is_for n r.stream && isnt_refused (unless_full m (decision m r.session r.envelope.request))) (as_counted m n (writes_of r.envelope.request)) []

module _ (m : Machine) (session n : ℕ) (stands : Stands m.streams) where
  told_token : (token k : ℕ) (told : Result Take StreamError) → take_of m session token ≡ told → new_of told ≡ Some k → token ≡ (stream_of k m.streams).finished
  told_token token k (Ok (New to)) is new = let same : to ≡ k = cc in new_token session token k m.streams stands (is ∙ ap (λ i. Ok (New i)) same)
  told_token token k (Ok (Repeat kept)) is new = absurd (cc)
  told_token token k (Ok (InProgress finished)) is new = absurd (cc)
  told_token token k (Err e) is new = absurd (cc)

  module _ (number : ℕ) (of : Option (List ℕ)) (database : Root) where
    abbrev takes_as : Option ℕ → StreamRequest → ParkedRequest
    takes_as stream asked = taken_as stream (record { session = session; id = number; stream = None; envelope = record { id = of; request = request.Write database asked } })

    sent_as : (asked : StreamRequest) (stream : Option ℕ) → taker_of m session asked ≡ stream → is_for n (takes_as stream asked).stream ≡ true
        → sent_in asked ≡ as_counted m n (writes_of (takes_as stream asked).envelope.request)
    sent_as asked None takes is = absurd (cc)
    sent_as Open (Some k) takes is = absurd (cc)
    sent_as (Resume to token) (Some k) takes is = absurd (cc)
    sent_as (Batch token writes) (Some k) takes is =
        let own = told_token token k (take_of m session token) refl takes in
        let same = eqb-true k n is in
        ap (λ t. (t, writes) ∷ []) (own ∙ ap (λ i. (stream_of i m.streams).finished) same)
    sent_as (Ask token) (Some k) takes is = absurd (cc)
    sent_as (Mixed to token writes) (Some k) takes is = absurd (cc)

  as_sent : (e : Envelope) → is_for n (arrived m session e).stream ≡ true → sent e.request ≡ as_counted m n (writes_of (arrived m session e).envelope.request)
  as_sent e = by_request e.request where
    by_request : (q : Request) → (let r = arrived m session (record { id = e.id; request = q }) in is_for n r.stream ≡ true → sent q ≡ as_counted m n (writes_of r.envelope.request))
    by_request (Commit database writes transaction) is = absurd (cc)
    by_request (GetDocument name mask when) is = absurd (cc)
    by_request (BatchGetDocuments database names mask when) is = absurd (cc)
    by_request (RunQuery database query when) is = absurd (cc)
    by_request (BeginTransaction database options) is = absurd (cc)
    by_request (Rollback database transaction) is = absurd (cc)
    by_request (AddTarget database id t token) is = absurd (cc)
    by_request (RemoveTarget database id) is = absurd (cc)
    by_request (request.Write database asked) is = sent_as (m.numbers.ids + 1) e.id database asked (taker_of m session asked) refl is

  pub sent_counted : (e : Envelope) (refusal : Option Refusal) → taken_of m n e.request (arrived m session e) refusal ≡ counted_of m n (arrived m session e) refusal
  sent_counted e (Some refusal) = refl
  sent_counted e None = by_test (is_for n (arrived m session e).stream) refl where
    takes : Bool
    takes = isnt_refused (unless_full m (decision m (arrived m session e).session (arrived m session e).envelope.request))

    by_test : (b : Bool) → is_for n (arrived m session e).stream ≡ b → cond (b && takes) (sent e.request) [] ≡ cond (b && takes) (as_counted m n (writes_of (arrived m session e).envelope.request)) []
    by_test true is = ap (λ ts. cond (true && takes) ts []) (as_sent e is)
    by_test false is = refl

-- ---- tokens that count on come once each

none_later : (from token : ℕ) (ts : List Taken) → CountOn from (map (λ t. t.0) ts) → token < from → filter (λ (t : Taken). t.0 == token) ts ≡ []
none_later from token [] counts below = refl
none_later from token (t ∷ ts) counts below = by_test (t.0 == token) refl (none_later (from + 1) token ts counts.1 (omega (arith, below))) where
  by_test : (b : Bool) → (t.0 == token) ≡ b → filter (λ (t : Taken). t.0 == token) ts ≡ [] → cond b (t ∷ filter (λ (t : Taken). t.0 == token) ts) (filter (λ (t : Taken). t.0 == token) ts) ≡ []
  by_test true is rest = let first = counts.0 in let same = eqb-true t.0 token is in absurd (omega (arith, first, same, below))
  by_test false is rest = rest

pub once_each : (from token : ℕ) (ts : List Taken) → CountOn from (map (λ t. t.0) ts) → length (filter (λ (t : Taken). t.0 == token) ts) ≤ 1
once_each from token [] counts = omega arith
once_each from token (t ∷ ts) counts = by_test (t.0 == token) refl (once_each (from + 1) token ts counts.1) where
  by_test : (b : Bool) → (t.0 == token) ≡ b → length (filter (λ (t : Taken). t.0 == token) ts) ≤ 1 → length (cond b (t ∷ filter (λ (t : Taken). t.0 == token) ts) (filter (λ (t : Taken). t.0 == token) ts)) ≤ 1
  by_test true is rest =
      let first = counts.0 in let same = eqb-true t.0 token is in
      let none = ap length (none_later (from + 1) token ts counts.1 (omega (arith, first, same))) in
      omega (arith, none)
  by_test false is rest = rest
