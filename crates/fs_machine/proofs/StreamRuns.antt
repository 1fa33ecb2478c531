-- What holds of the streams of every run: each finishes what it took, once and in order.
use Rattle.std.proofs.Common.{◌≡◌, ℕ, ℤ, zero, suc, ◌+◌, ◌≤◌, Bool, true, false, cond, List, [], ◌∷◌, ◌++◌, map, Option, Some, None, Result, Ok, Err, length, refl, sym, ap, ◌∙◌, subst, arith}
use Rattle.std.specs.Prelude.{IfSome, ◌==◌, slice_get, unwrap_or}
use Rattle.std.specs.List.{filter, filter_map}
use Rattle.std.proofs.lemmas.List.{append-nil, length-append, length-map, map-append}
use Rattle.std.proofs.lemmas.List.Elements.{filter-append, filter_map-append}
use Rattle.fs_status.specs.declared.refusal.Refusal.{Refusal}
use Rattle.fs_stream.specs.Streams.{Streams, fresh, none_opened, stream_of}
use Rattle.fs_stream.specs.declared.kept.Kept.{Kept}
use Rattle.fs_stream.specs.declared.stream.Stream.{Stream as WriteStream}
use Rattle.fs_write.specs.Batch.{Docs}
use Rattle.fs_write.specs.declared.write.Write.{Write}
use Rattle.fs_write.specs.declared.write_result.WriteResult.{WriteResult}
use Rattle.fs_machine.specs.Event.{Event, after, step}
use Rattle.fs_machine.specs.Facts.{Facts}
use Rattle.fs_machine.specs.Laws.{let_out_by, let_out_in}
use Rattle.fs_machine.specs.Release.{as_committed, let_out}
use Rattle.fs_machine.specs.Request.{Decision}
use Rattle.fs_machine.specs.Retry.{retry_decision}
use Rattle.fs_machine.specs.Settle.{outcome_of, pending_of}
use Rattle.fs_machine.specs.State.{Machine, started}
use Rattle.fs_machine.specs.Stream.{kept_of}
use Rattle.fs_machine.specs.StreamLaws.{AreOnceInOrder, CountOn, committed_at, decided_of, finishes, finishes_in, given_up_of, in_progress, last_of, retried_of, settled_of, takes, takes_in}
use Rattle.fs_machine.specs.StreamsHold.{answers, is_for, of_stream}
use Rattle.fs_machine.specs.declared.config.Config.{Config}
use Rattle.fs_machine.specs.declared.limits.Limits.{Limits}
use Rattle.fs_machine.specs.declared.parked_request.ParkedRequest.{ParkedRequest}
use Rattle.fs_machine.specs.declared.unreleased.Unreleased.{Unreleased}
use Rattle.fs_machine.proofs.Runs.{begins, keeps}
use Rattle.fs_machine.proofs.StreamsInOrder.{Goes, goes, goes_on, tokens}
use Rattle.fs_machine.proofs.StreamsMove.{Done, Moves, counted_on, moves, moves_on, moves_same, response, token}
use Rattle.fs_machine.proofs.Tokens.{Taken, once_each}

-- ---- several events

all_move : (m : Machine) (es : List Event) (n : ℕ) → Facts m → Moves (stream_of n m.streams) (stream_of n (after m es).streams) (finishes_in m es n)
all_move m [] n facts = moves_same _ _ refl
all_move m (e ∷ es) n facts =
    let k = step m e in
    moves_on _ (stream_of n k.streams) _ (finishes m e n) (finishes_in k es n) (moves m e n facts) (all_move k es n (keeps m e facts))

all_go : (m : Machine) (es : List Event) (n : ℕ) → Facts m → Goes (in_progress m n) (takes_in m es n) (finishes_in m es n) (in_progress (after m es) n)
all_go m [] n facts = append-nil (in_progress m n)
all_go m (e ∷ es) n facts =
    let k = step m e in
    goes_on (in_progress m n) (in_progress k n) (in_progress (after k es) n) (takes m e n) (takes_in k es n) (finishes m e n) (finishes_in k es n) (goes m e n facts) (all_go k es n (keeps m e facts))

-- so many batches a stream has taken
abbrev behind : Machine → ℕ → ℕ
behind m n = (stream_of n m.streams).finished + length (in_progress m n)

taken_more : (m : Machine) (e : Event) (n : ℕ) → Facts m → behind (step m e) n ≡ behind m n + length (takes m e n)
taken_more m e n facts =
    let k = step m e in
    let more = (moves m e n facts).finished in
    let same = ap length (goes m e n facts) in
    let before = length-append (in_progress m n) (map (λ (t : Taken). t.1) (takes m e n)) in
    let now = length-append (map (λ (d : Done). d.0) (finishes m e n)) (in_progress k n) in
    let taken = length-map (takes m e n) (λ (t : Taken). t.1) in
    let done = length-map (finishes m e n) (λ (d : Done). d.0) in
    omega (arith, more, same, before, now, taken, done)

all_tokens : (m : Machine) (es : List Event) (n : ℕ) → Facts m → CountOn (behind m n) (map (λ t. t.0) (takes_in m es n))
all_tokens m [] n facts = tt
all_tokens m (e ∷ es) n facts =
    let k = step m e in
    let long = length-map (takes m e n) (λ (t : Taken). t.0) in
    let more = taken_more m e n facts in
    let same : behind k n ≡ behind m n + length (map (λ (t : Taken). t.0) (takes m e n)) = omega (arith, long, more) in
    subst (CountOn (behind m n)) (sym (map-append (λ (t : Taken). t.0) (takes m e n) (takes_in k es n)))
    (counted_on (behind m n) (map (λ (t : Taken). t.0) (takes m e n)) (map (λ (t : Taken). t.0) (takes_in k es n)) (tokens m e n facts)
    (subst (λ from. CountOn from (map (λ (t : Taken). t.0) (takes_in k es n))) same (all_tokens k es n (keeps m e facts))))

-- ---- from the start on

none_yet : (n limit : ℕ) → stream_of n (none_opened limit) ≡ fresh
none_yet zero limit = refl
none_yet (suc i) limit = refl

pub batches_once : (config : Config) (limits : Limits) (start : ℤ) (es : List Event) (n : ℕ)
    → AreOnceInOrder (takes_in (started config limits start) es n) (finishes_in (started config limits start) es n) (in_progress (after (started config limits start) es) n)
batches_once config limits start es n =
    let m = started config limits start in
    let facts = begins config limits start in
    let none : (stream_of n m.streams).finished ≡ 0 = ap (λ (x : WriteStream). x.finished) (none_yet n limits.streams) in
    record {
      tokens = subst (λ from. CountOn from (map (λ (t : Taken). t.0) (takes_in m es n))) (let same : behind m n ≡ 0 = omega (arith, none) in same) (all_tokens m es n facts);
      order = sym (all_go m es n facts);
      answers = subst (λ from. CountOn from (map (λ (d : Done). d.1.token) (finishes_in m es n))) (ap (λ k. k + 1) none) (all_move m es n facts).tokens;
    }

pub once_per_token : (config : Config) (limits : Limits) (start : ℤ) (es : List Event) (n token : ℕ)
    → length (filter (λ t. t.0 == token) (takes_in (started config limits start) es n)) ≤ 1
once_per_token config limits start es n token = once_each 0 token (takes_in (started config limits start) es n) (batches_once config limits start es n).tokens

pub repeats_alike : (config : Config) (limits : Limits) (start : ℤ) (es : List Event) (n : ℕ)
    → (stream_of n (after (started config limits start) es).streams).kept ≡ last_of None (map response (finishes_in (started config limits start) es n))
repeats_alike config limits start es n =
    let m = started config limits start in
    (all_move m es n (begins config limits start)).kept ∙ ap (λ (x : WriteStream). last_of x.kept (map response (finishes_in m es n))) (none_yet n limits.streams)

-- ---- the token of what is kept

-- where what was kept before had the number before
last_counts : (from : ℕ) (before : Option Kept) (done : List Done) → CountOn (from + 1) (map token done) → IfSome before (λ kept. kept.token ≡ from)
    → IfSome (last_of before (map response done)) (λ kept. kept.token ≡ from + length done)
last_counts from None [] counts is = tt
last_counts from (Some kept) [] counts is = omega (arith, is)
last_counts from before (d ∷ done) counts is =
    subst (λ to. IfSome (last_of (Some d.1) (map response done)) (λ kept. kept.token ≡ to)) (let same : from + 1 + length done ≡ from + length (d ∷ done) = omega arith in same)
    (last_counts (from + 1) (Some d.1) done counts.1 counts.0)

pub kept_token : (config : Config) (limits : Limits) (start : ℤ) (es : List Event) (n : ℕ)
    → (let s = stream_of n (after (started config limits start) es).streams in IfSome s.kept (λ kept. kept.token ≡ s.finished))
kept_token config limits start es n =
    let m = started config limits start in
    let s = stream_of n m.streams in
    let t = stream_of n (after m es).streams in
    let moved = all_move m es n (begins config limits start) in
    let none : s.kept ≡ None = ap (λ (x : WriteStream). x.kept) (none_yet n limits.streams) in
    let first : IfSome s.kept (λ kept. kept.token ≡ s.finished) = subst (λ kept. IfSome kept (λ (k : Kept). k.token ≡ s.finished)) (sym none) tt in
    let last = last_counts s.finished s.kept (finishes_in m es n) moved.tokens first in
    subst (λ to. IfSome t.kept (λ kept. kept.token ≡ to)) (sym moved.finished)
    (subst (λ kept. IfSome kept (λ (k : Kept). k.token ≡ s.finished + length (finishes_in m es n))) (sym moved.kept) last)

-- ---- those that were committed

-- the writes of a batch, when it was committed, and with which results
abbrev pub Answered : Type 0
Answered = List Write × ℤ × List WriteResult

-- what was committed of these
abbrev committed_of : List Done → List Answered
committed_of ds = filter_map committed_at ds

none_committed : (b : Bool) (ds : List Done) → committed_of ds ≡ [] → committed_of (cond b ds []) ≡ []
none_committed true ds none = none
none_committed false ds none = refl

given_up_none : (m : Machine) (n : ℕ) (r : ParkedRequest) (d : Decision) → committed_of (given_up_of m n r d) ≡ []
given_up_none m n r (Decision.refused refusal) = refl
given_up_none m n r (Decision.held id) = refl
given_up_none m n r Decision.goes_on = refl

retried_none : (m : Machine) (n : ℕ) (found : Option ParkedRequest) → committed_of (retried_of m n found) ≡ []
retried_none m n None = refl
retried_none m n (Some r) = none_committed (is_for n r.stream) (given_up_of m n r (retry_decision m r.session r.envelope.request)) (given_up_none m n r (retry_decision m r.session r.envelope.request))

settled_none : (m : Machine) (n : ℕ) (u : Unreleased) (r : Result (Docs × List WriteResult) Refusal) → committed_of (settled_of m n u r) ≡ []
settled_none m n u (Ok done) = refl
settled_none m n u (Err refusal) = refl

decided_none : (m : Machine) (n : ℕ) (found : Option Unreleased) → committed_of (decided_of m n found) ≡ []
decided_none m n None = refl
decided_none m n (Some u) = none_committed (answers n u.asker) (settled_of m n u (outcome_of m.past u)) (settled_none m n u (outcome_of m.past u))

-- a commit as it is answered
abbrev pub answered_as : Unreleased → Answered
answered_as u = (u.batch.writes, u.batch.time, unwrap_or u.results [])

all_committed : (s : Streams) (n : ℕ) (us : List Unreleased) → committed_of (map (λ u. (u.batch.writes, kept_of s n (as_committed u))) us) ≡ map answered_as us
all_committed s n [] = refl
all_committed s n (u ∷ us) = ap (λ xs. answered_as u ∷ xs) (all_committed s n us)

committed_by : (m : Machine) (e : Event) (n : ℕ) → committed_of (finishes m e n) ≡ map answered_as (of_stream n (let_out_by m e))
committed_by m Event.opening n = refl
committed_by m (Event.leaving session) n = refl
committed_by m (Event.asking session e) n = refl
committed_by m (Event.retrying place) n = retried_none m n (slice_get m.parked place)
committed_by m (Event.deciding id) n = decided_none m n (pending_of m.past id)
committed_by m (Event.advancing now) n = refl
committed_by m Event.releasing n = all_committed m.streams n (of_stream n (let_out m.past))
committed_by m (Event.compacting to) n = refl
committed_by m (Event.loading session target at) n = refl
committed_by m (Event.matching shard to) n = refl
committed_by m (Event.raising session) n = refl
committed_by m (Event.taking session) n = refl

pub committed_once : (m : Machine) (es : List Event) (n : ℕ) → filter_map committed_at (finishes_in m es n) ≡ map (λ u. (u.batch.writes, u.batch.time, unwrap_or u.results [])) (of_stream n (let_out_in m es))
committed_once m [] n = refl
committed_once m (e ∷ es) n =
    let k = step m e in
    let one = finishes m e n in
    let rest = finishes_in k es n in
    let out = let_out_by m e in
    let later = let_out_in k es in
    filter_map-append committed_at one rest ∙ ap (λ xs. xs ++ committed_of rest) (committed_by m e n) ∙ ap (λ xs. map answered_as (of_stream n out) ++ xs) (committed_once k es n)
    ∙ sym (ap (map answered_as) (filter-append (λ (u : Unreleased). answers n u.asker) out later) ∙ map-append answered_as (of_stream n out) (of_stream n later))
