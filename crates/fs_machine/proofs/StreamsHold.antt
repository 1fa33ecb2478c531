-- What each event keeps of streams.
use Rattle.std.proofs.Common.{◌≡◌, ℕ, zero, suc, ◌+◌, ◌<◌, ◌≤◌, Bool, true, false, List, [], ◌∷◌, ◌++◌, map, Some, length, refl, sym, ap, ◌∙◌, arith, slice_index_or, slice_set}
use Rattle.std.specs.Prelude.{◌==◌}
use Rattle.std.proofs.lemmas.Bool.Decides.{nat_tests}
use Rattle.fs_status.specs.declared.refusal.Refusal.{Refusal}
use Rattle.fs_write.specs.declared.write_result.WriteResult.{WriteResult}
use Rattle.fs_stream.proofs.Standing.{busy_there, keeps_last, stands_left, stands_none, stands_with}
use Rattle.fs_stream.specs.Stands.{Stands}
use Rattle.fs_stream.specs.Streams.{Streams, finished_by, finished_with, fresh, handed_to, left_by, none_opened, opened_by, stream_of, taken, with_stream}
use Rattle.fs_stream.specs.declared.kept.Kept.{Kept}
use Rattle.fs_stream.specs.declared.stream.Stream.{Stream as WriteStream}
use Rattle.fs_stream.specs.declared.take.Take.TheVariants as take
use Rattle.fs_machine.specs.Leave.{of_others}
use Rattle.fs_machine.specs.Past.{Past}
use Rattle.fs_machine.specs.Release.{all_answered, answered_to, as_committed, committed_out, free_to, freed, is_freed, past_released}
use Rattle.fs_machine.specs.Settle.{accepted_in, dropped_from, pending_in, refused_to}
use Rattle.fs_machine.specs.Stream.{Desk, kept_of, kept_refused}
use Rattle.fs_machine.specs.StreamsHold.{AreCounted, StreamsHold, answers, is_for, one_if, tally, under_way}
use Rattle.fs_machine.specs.declared.asker.Asker.{Asker}
use Rattle.fs_machine.specs.declared.asker.Asker.TheVariants.{Session, Stream}
use Rattle.fs_machine.specs.declared.committed.Committed.{Committed}
use Rattle.fs_machine.specs.declared.parked_request.ParkedRequest.{ParkedRequest}
use Rattle.fs_machine.specs.declared.unreleased.Unreleased.{Unreleased}
use Rattle.fs_machine.proofs.InProgress.{pending_count, waiting_count, writes_accepted, writes_others}
use Rattle.fs_machine.proofs.Tallies.{count_parts, count_without, without_dropped}

-- ---- streams by their numbers

opened_same : (xs : List WriteStream) (i : ℕ) → slice_index_or (xs ++ fresh ∷ []) i fresh ≡ slice_index_or xs i fresh
opened_same [] zero = refl
opened_same [] (suc i) = refl
opened_same (x ∷ xs) zero = refl
opened_same (x ∷ xs) (suc i) = opened_same xs i

pub stream_opened : (session n : ℕ) (s : Streams) → stream_of n (opened_by session s) ≡ stream_of n s
stream_opened session zero s = refl
stream_opened session (suc i) s = opened_same s.opened i

pub stream_handed : (session to n : ℕ) (s : Streams) → stream_of n (handed_to session to s) ≡ stream_of n s
stream_handed session to zero s = refl
stream_handed session to (suc i) s = refl

pub stream_left : (session n : ℕ) (s : Streams) → stream_of n (left_by session s) ≡ stream_of n s
stream_left session zero s = refl
stream_left session (suc i) s = refl

set_here : (xs : List WriteStream) (i : ℕ) (x : WriteStream) → i < length xs → slice_index_or (slice_set xs i x) i fresh ≡ x
set_here [] i x inside = absurd (omega (arith, inside))
set_here (y ∷ xs) zero x inside = refl
set_here (y ∷ xs) (suc i) x inside = set_here xs i x (omega (arith, inside))

set_there : (xs : List WriteStream) (i j : ℕ) (x : WriteStream) → (i == j) ≡ false → slice_index_or (slice_set xs i x) j fresh ≡ slice_index_or xs j fresh
set_there [] i j x other = refl
set_there (y ∷ xs) zero zero x other = absurd (cc)
set_there (y ∷ xs) zero (suc j) x other = refl
set_there (y ∷ xs) (suc i) zero x other = refl
set_there (y ∷ xs) (suc i) (suc j) x other = set_there xs i j x (grind (arith, nat_tests, other))

pub stream_set : (n : ℕ) (x : WriteStream) (s : Streams) → 0 < n → n ≤ length s.opened → stream_of n (with_stream n x s) ≡ x
stream_set zero x s above below = absurd (omega (arith, above))
stream_set (suc i) x s above below = set_here s.opened i x (omega (arith, below))

pub stream_unset : (k n : ℕ) (x : WriteStream) (s : Streams) → (k == n) ≡ false → stream_of n (with_stream k x s) ≡ stream_of n s
stream_unset zero n x s other = refl
stream_unset (suc i) zero x s other = refl
stream_unset (suc i) (suc j) x s other = set_there s.opened i j x (grind (arith, nat_tests, other))

-- ---- what is counted

-- as many, of streams that are alike
pub counted_alike : (going other : ℕ → ℕ) (s t : Streams) (ids : ℕ) (more : ℕ) → ids ≤ more → Stands t → ((n : ℕ) → other n ≡ going n) → ((n : ℕ) → stream_of n t ≡ stream_of n s) → AreCounted going s ids → AreCounted other t more
counted_alike going other s t ids more on stands same alike counted = record {
  stands = stands;
  one = λ n. same n ∙ counted.one n ∙ ap (λ (x : WriteStream). one_if x.busy) (sym (alike n));
  drawn = λ n. let here = ap (λ (x : WriteStream). x.finished) (alike n) in let few = counted.drawn n in let as_many = same n in omega (arith, on, here, few, as_many);
}

-- a batch more, which has drawn a number
pub counted_taken : (going other : ℕ → ℕ) (k : ℕ) (s : Streams) (ids : ℕ) → 0 < k → k ≤ length s.opened → (stream_of k s).busy ≡ false → ((n : ℕ) → other n ≡ going n + one_if (k == n))
    → AreCounted going s ids → AreCounted other (taken (take.New k) s) (ids + 1)
counted_taken going other k s ids above below free more counted = record {
  stands = stands_with k (record (stream_of k s) { busy = true }) s (counted.stands.kept k) counted.stands;
  one = λ n. let at = more n in by_one n (k == n) refl at;
  drawn = λ n. let at = more n in by_drawn n (k == n) refl at;
} where
  after : Streams
  after = taken (take.New k) s

  set : (n : ℕ) → (k == n) ≡ true → stream_of n after ≡ record (stream_of k s) { busy = true }
  set n is = let same : k ≡ n = grind (arith, nat_tests, is) in ap (λ i. stream_of i after) (sym same) ∙ stream_set k (record (stream_of k s) { busy = true }) s above below

  none_there : going k ≡ 0
  none_there = counted.one k ∙ ap one_if free

  by_one : (n : ℕ) (b : Bool) → (k == n) ≡ b → other n ≡ going n + one_if b → other n ≡ one_if (stream_of n after).busy
  by_one n true is at =
      let same : k ≡ n = grind (arith, nat_tests, is) in
      let none : going n ≡ 0 = ap going (sym same) ∙ none_there in
      let busy : one_if (stream_of n after).busy ≡ 1 = ap (λ (x : WriteStream). one_if x.busy) (set n is) in
      omega (arith, at, none, busy)
  by_one n false is at =
      let rest : one_if (stream_of n after).busy ≡ one_if (stream_of n s).busy = ap (λ (x : WriteStream). one_if x.busy) (stream_unset k n (record (stream_of k s) { busy = true }) s is) in
      let was = counted.one n in
      omega (arith, at, rest, was)

  by_drawn : (n : ℕ) (b : Bool) → (k == n) ≡ b → other n ≡ going n + one_if b → (stream_of n after).finished + other n ≤ ids + 1
  by_drawn n true is at =
      let same : k ≡ n = grind (arith, nat_tests, is) in
      let here : (stream_of n after).finished ≡ (stream_of n s).finished = ap (λ (x : WriteStream). x.finished) (set n is) ∙ ap (λ i. (stream_of i s).finished) same in
      let few = counted.drawn n in
      omega (arith, at, here, few)
  by_drawn n false is at =
      let here : (stream_of n after).finished ≡ (stream_of n s).finished = ap (λ (x : WriteStream). x.finished) (stream_unset k n (record (stream_of k s) { busy = true }) s is) in
      let few = counted.drawn n in
      omega (arith, at, here, few)

-- a batch that was in progress is finished
pub counted_finished : (going other : ℕ → ℕ) (k : ℕ) (kept : Kept) (s : Streams) (ids : ℕ) → ((n : ℕ) → going n ≡ other n + one_if (k == n)) → AreCounted going s ids → AreCounted other (finished_with k kept s) ids
counted_finished going other k kept s ids less counted = record {
  stands = stands_with k (finished_by kept (stream_of k s)) s (keeps_last (stream_of k s).finished kept) counted.stands;
  one = λ n. let at = less n in by_one n (k == n) refl at;
  drawn = λ n. let at = less n in by_drawn n (k == n) refl at;
} where
  after : Streams
  after = finished_with k kept s

  itself : (k == k) ≡ true
  itself = grind (arith, nat_tests)

  some : one_if (stream_of k s).busy ≡ other k + 1
  some = sym (counted.one k) ∙ less k ∙ ap (λ b. other k + one_if b) itself

  was_busy : (b : Bool) → one_if b ≡ other k + 1 → (b ≡ true) × (other k ≡ 0)
  was_busy true is = (refl, omega (arith, is))
  was_busy false is = absurd (omega (arith, is))

  busy : (stream_of k s).busy ≡ true
  busy = (was_busy (stream_of k s).busy some).0

  none_left : other k ≡ 0
  none_left = (was_busy (stream_of k s).busy some).1

  set : (n : ℕ) → (k == n) ≡ true → stream_of n after ≡ finished_by kept (stream_of k s)
  set n is =
      let same : k ≡ n = grind (arith, nat_tests, is) in
      let there = busy_there k s busy in
      ap (λ i. stream_of i after) (sym same) ∙ stream_set k (finished_by kept (stream_of k s)) s there.0 there.1

  by_one : (n : ℕ) (b : Bool) → (k == n) ≡ b → going n ≡ other n + one_if b → other n ≡ one_if (stream_of n after).busy
  by_one n true is at =
      let same : k ≡ n = grind (arith, nat_tests, is) in
      let none : other n ≡ 0 = ap other (sym same) ∙ none_left in
      let free : one_if (stream_of n after).busy ≡ 0 = ap (λ (x : WriteStream). one_if x.busy) (set n is) in
      omega (arith, none, free)
  by_one n false is at =
      let rest : one_if (stream_of n after).busy ≡ one_if (stream_of n s).busy = ap (λ (x : WriteStream). one_if x.busy) (stream_unset k n (finished_by kept (stream_of k s)) s is) in
      let was = counted.one n in
      omega (arith, at, rest, was)

  by_drawn : (n : ℕ) (b : Bool) → (k == n) ≡ b → going n ≡ other n + one_if b → (stream_of n after).finished + other n ≤ ids
  by_drawn n true is at =
      let same : k ≡ n = grind (arith, nat_tests, is) in
      let here : (stream_of n after).finished ≡ suc (stream_of n s).finished = ap (λ (x : WriteStream). x.finished) (set n is) ∙ ap (λ i. suc (stream_of i s).finished) same in
      let few = counted.drawn n in
      omega (arith, at, here, few)
  by_drawn n false is at =
      let here : (stream_of n after).finished ≡ (stream_of n s).finished = ap (λ (x : WriteStream). x.finished) (stream_unset k n (finished_by kept (stream_of k s)) s is) in
      let few = counted.drawn n in
      omega (arith, at, here, few)

-- ---- what is answered

abbrev answered_by : ℕ → List Committed → ℕ
answered_by n cs = tally (λ c. answers n c.asker) cs

-- nothing else is in progress
no_more : (going : ℕ → ℕ) (s : Streams) (ids : ℕ) → AreCounted (λ n. going n + 0) s ids → AreCounted going s ids
no_more going s ids counted = counted_alike (λ n. going n + 0) going s s ids ids (omega arith) counted.stands (λ n. omega arith) (λ n. refl) counted

one_answered : (c : Committed) (cs : List Committed) (going : ℕ → ℕ) (d : Desk) (ids : ℕ) (of : Asker) → c.asker ≡ of → AreCounted (λ n. going n + answered_by n (c ∷ cs)) d.0 ids
    → AreCounted (λ n. going n + answered_by n cs) (answered_to c of d).0 ids
one_answered c cs going d ids (Session session request) is counted =
    counted_alike (λ n. going n + answered_by n (c ∷ cs)) (λ n. going n + answered_by n cs) d.0 d.0 ids ids (omega arith) counted.stands
    (λ n. let none : one_if (answers n c.asker) ≡ 0 = ap (λ of. one_if (answers n of)) is in omega (arith, none)) (λ n. refl) counted
one_answered c cs going d ids (Stream k) is counted =
    counted_finished (λ n. going n + answered_by n (c ∷ cs)) (λ n. going n + answered_by n cs) k (kept_of d.0 k c) d.0 ids
    (λ n. let one : one_if (answers n c.asker) ≡ one_if (k == n) = ap (λ of. one_if (answers n of)) is in omega (arith, one)) counted

all_answered_counted : (cs : List Committed) (going : ℕ → ℕ) (d : Desk) (ids : ℕ) → AreCounted (λ n. going n + answered_by n cs) d.0 ids → AreCounted going (all_answered cs d).0 ids
all_answered_counted [] going d ids counted = no_more going d.0 ids counted
all_answered_counted (c ∷ cs) going d ids counted = all_answered_counted cs going (answered_to c c.asker d) ids (one_answered c cs going d ids c.asker refl counted)

-- ---- commits

abbrev pub commits_of : ℕ → List Unreleased → ℕ
commits_of n us = tally (λ u. answers n u.asker) us

commits_accepted : (n id : ℕ) (results : List WriteResult) (us : List Unreleased) → commits_of n (accepted_in id results us) ≡ commits_of n us
commits_accepted n id results us = sym (pending_count n (accepted_in id results us)) ∙ ap length (writes_accepted n id results us) ∙ pending_count n us

pub commits_dropped : (n id : ℕ) (us : List Unreleased) (u : Unreleased) → pending_in id us ≡ Some u → commits_of n us ≡ commits_of n (dropped_from id us) + one_if (answers n u.asker)
commits_dropped n id us u is = count_without (λ (u : Unreleased). answers n u.asker) u us (dropped_from id us) (without_dropped id us u is)

commits_let_out : (n : ℕ) (us : List Unreleased) → answered_by n (map as_committed us) ≡ commits_of n us
commits_let_out n [] = refl
commits_let_out n (u ∷ us) = let rest = commits_let_out n us in omega (arith, rest)

-- ---- requests that wait

abbrev waiting_of : ℕ → List ParkedRequest → ℕ
waiting_of n rs = tally (λ r. is_for n r.stream) rs

waiting_others : (n session : ℕ) (rs : List ParkedRequest) → waiting_of n (of_others session rs) ≡ waiting_of n rs
waiting_others n session rs = sym (waiting_count n (of_others session rs)) ∙ ap length (writes_others n session rs) ∙ waiting_count n rs

-- ---- events

pub streams_begun : (p : Past) (limit : ℕ) → p.unreleased ≡ [] → StreamsHold p [] (none_opened limit) 0
streams_begun p limit none = record {
  stands = stands_none (none_opened limit) limit refl;
  one = λ n. nothing n ∙ idle n;
  drawn = λ n. let no = nothing n in let new = fresh_one n in omega (arith, no, new);
} where
  nothing : (n : ℕ) → under_way n p [] ≡ 0
  nothing n = let no = ap (commits_of n) none in omega (arith, no)

  idle : (n : ℕ) → 0 ≡ one_if (stream_of n (none_opened limit)).busy
  idle zero = refl
  idle (suc i) = refl

  fresh_one : (n : ℕ) → (stream_of n (none_opened limit)).finished ≡ 0
  fresh_one zero = refl
  fresh_one (suc i) = refl

pub streams_departed : (p : Past) (rs : List ParkedRequest) (s : Streams) (ids session : ℕ) → StreamsHold p rs s ids → StreamsHold p (of_others session rs) (left_by session s) ids
streams_departed p rs s ids session counted =
    counted_alike (λ n. under_way n p rs) (λ n. under_way n p (of_others session rs)) s (left_by session s) ids ids (omega arith) (stands_left session s counted.stands)
    (λ n. let same = waiting_others n session rs in omega (arith, same)) (λ n. stream_left session n s) counted

pub streams_accepted : (p : Past) (rs : List ParkedRequest) (s : Streams) (ids id : ℕ) (results : List WriteResult) → StreamsHold p rs s ids → StreamsHold (record p { unreleased = accepted_in id results p.unreleased }) rs s ids
streams_accepted p rs s ids id results counted =
    counted_alike (λ n. under_way n p rs) (λ n. under_way n (record p { unreleased = accepted_in id results p.unreleased }) rs) s s ids ids (omega arith) counted.stands
    (λ n. let same = commits_accepted n id results p.unreleased in omega (arith, same)) (λ n. refl) counted

pub streams_dropped : (p : Past) (rs : List ParkedRequest) (d : Desk) (ids id : ℕ) (u : Unreleased) (refusal : Refusal) (of : Asker) → pending_in id p.unreleased ≡ Some u → u.asker ≡ of → StreamsHold p rs d.0 ids
    → StreamsHold (record p { unreleased = dropped_from id p.unreleased }) rs (refused_to of refusal d).0 ids
streams_dropped p rs d ids id u refusal (Session session request) is asks counted =
    counted_alike (λ n. under_way n p rs) (λ n. under_way n (record p { unreleased = dropped_from id p.unreleased }) rs) d.0 d.0 ids ids (omega arith) counted.stands
    (λ n. let less = commits_dropped n id p.unreleased u is in let none : one_if (answers n u.asker) ≡ 0 = ap (λ of. one_if (answers n of)) asks in omega (arith, less, none)) (λ n. refl) counted
streams_dropped p rs d ids id u refusal (Stream k) is asks counted =
    counted_finished (λ n. under_way n p rs) (λ n. under_way n (record p { unreleased = dropped_from id p.unreleased }) rs) k (kept_refused d.0 k refusal) d.0 ids
    (λ n. let less = commits_dropped n id p.unreleased u is in let one : one_if (answers n u.asker) ≡ one_if (k == n) = ap (λ of. one_if (answers n of)) asks in omega (arith, less, one)) counted

pub streams_released : (p : Past) (rs : List ParkedRequest) (d : Desk) (ids : ℕ) → StreamsHold p rs d.0 ids → StreamsHold (past_released p) rs (all_answered (committed_out p) d).0 ids
streams_released p rs d ids counted =
    all_answered_counted (committed_out p) (λ n. under_way n (past_released p) rs) d ids
    (counted_alike (λ n. under_way n p rs) (λ n. under_way n (past_released p) rs + answered_by n (committed_out p)) d.0 d.0 ids ids (omega arith) counted.stands
    (λ n.
    let to = free_to p.last p.unreleased in
    let parts = count_parts (λ (u : Unreleased). answers n u.asker) (is_freed to) p.unreleased in
    let out = commits_let_out n (freed to p.unreleased) in
    omega (arith, parts, out)) (λ n. refl) counted)
