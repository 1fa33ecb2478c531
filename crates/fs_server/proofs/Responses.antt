-- What a release lets out is answered as it is found, since no two of it are batches of one stream.
use Rattle.std.proofs.Common.{◌≡◌, ℕ, zero, suc, ◌+◌, ◌<◌, ◌≤◌, ◌^◌, Bool, true, false, cond, List, [], ◌∷◌, ◌++◌, map, Option, Some, None, length, refl, sym, ap, ◌∙◌, subst, arith, slice_index_or}
use Rattle.std.specs.Prelude.{◌==◌, slice_get}
use Rattle.std.specs.List.{filter}
use Rattle.std.proofs.lemmas.Bool.Decides.{nat_tests}
use Rattle.std.proofs.lemmas.Option.{same_Some}
use Rattle.fs_stream.specs.Answers.{is_opened}
use Rattle.fs_stream.specs.Streams.{Streams, finished_by, finished_with, fresh, stream_of}
use Rattle.fs_stream.specs.declared.kept.Kept.{Kept}
use Rattle.fs_stream.specs.declared.stream.Stream.{Stream as WriteStream}
use Rattle.fs_sessions.specs.Place.{all_delivered}
use Rattle.fs_machine.specs.Past.{Past}
use Rattle.fs_machine.specs.Release.{all_answered, answered_to, as_committed, committed_out, free_to, is_freed}
use Rattle.fs_machine.specs.Settle.{pending_of}
use Rattle.fs_machine.specs.Stream.{kept_of, owner_told, told_if}
use Rattle.fs_machine.specs.StreamsHold.{StreamsHold, answers, is_for, one_if, tally, under_way}
use Rattle.fs_machine.specs.declared.asker.Asker.{Asker}
use Rattle.fs_machine.specs.declared.asker.Asker.TheVariants.{Session, Stream}
use Rattle.fs_machine.specs.declared.committed.Committed.{Committed}
use Rattle.fs_machine.specs.declared.parked_request.ParkedRequest.{ParkedRequest}
use Rattle.fs_machine.specs.declared.reply.Reply.{Reply}
use Rattle.fs_machine.specs.declared.session.Session.{Session as OpenSession}
use Rattle.fs_machine.specs.declared.unreleased.Unreleased.{Unreleased}
use Rattle.fs_machine.proofs.StreamsHold.{commits_dropped, commits_of, stream_unset}
use Rattle.fs_server.specs.Answering.{AreAnswerable, CanFinish, CanFinishAll, CanFinishFor, all_finished, replies_of, replies_to, reply_if, responses_of, responses_to}

-- how many of these are batches of a stream
abbrev pub batches_in : ℕ → List Committed → ℕ
batches_in n cs = tally (λ (c : Committed). answers n c.asker) cs

itself : (n : ℕ) → (n == n) ≡ true
itself n = grind (arith, nat_tests)

-- ---- streams that are alike

owners_same : (n : ℕ) (kept : Kept) (s : Streams) → (finished_with n kept s).owners ≡ s.owners
owners_same zero kept s = refl
owners_same (suc i) kept s = refl

-- so far as these are batches of them
record AreAlike (s t : Streams) (cs : List Committed) : Type 0 where
  streams : (n : ℕ) → 1 ≤ batches_in n cs → stream_of n t ≡ stream_of n s
  owners : t.owners ≡ s.owners

each_once : (n : ℕ) (c : Committed) (cs : List Committed) → c.asker ≡ Stream n → batches_in n (c ∷ cs) ≤ 1 → batches_in n cs ≡ 0
each_once n c cs is once =
    let one : one_if (answers n c.asker) ≡ 1 = ap (λ of. one_if (answers n of)) is ∙ ap one_if (itself n) in
    omega (arith, once, one)

alike_next : (s t : Streams) (n : ℕ) (kept : Kept) (c : Committed) (cs : List Committed) → c.asker ≡ Stream n → batches_in n (c ∷ cs) ≤ 1 → AreAlike s t (c ∷ cs) → AreAlike s (finished_with n kept t) cs
alike_next s t n kept c cs is once alike = record { streams = there; owners = owners_same n kept t ∙ alike.owners } where
  none : batches_in n cs ≡ 0
  none = each_once n c cs is once

  other : (k : ℕ) (b : Bool) → (n == k) ≡ b → 1 ≤ batches_in k cs → stream_of k (finished_with n kept t) ≡ stream_of k s
  other k true same some =
      let at : n ≡ k = grind (arith, nat_tests, same) in
      let no : batches_in k cs ≡ 0 = ap (λ i. batches_in i cs) (sym at) ∙ none in
      absurd (omega (arith, some, no))
  other k false apart some = stream_unset n k (finished_by kept (stream_of n t)) t apart ∙ alike.streams k (omega (arith, some))

  there : (k : ℕ) → 1 ≤ batches_in k cs → stream_of k (finished_with n kept t) ≡ stream_of k s
  there k some = other k (n == k) refl some

alike_fewer : (s t : Streams) (c : Committed) (cs : List Committed) → AreAlike s t (c ∷ cs) → AreAlike s t cs
alike_fewer s t c cs alike = record { streams = λ n some. alike.streams n (omega (arith, some)); owners = alike.owners }

-- ---- one after another

told_as : (r : Option Reply) (ss : List OpenSession) → told_if r ss ≡ all_delivered (reply_if r) ss
told_as None ss = refl
told_as (Some r) ss = refl

delivered_in : (rs qs : List Reply) (ss : List OpenSession) → all_delivered (rs ++ qs) ss ≡ all_delivered qs (all_delivered rs ss)
delivered_in [] qs ss = refl
delivered_in (r ∷ rs) qs ss = delivered_in rs qs _

module _ (s : Streams) where
  answered_next : (c : Committed) (cs : List Committed) (t : Streams) (ss : List OpenSession) (of : Asker) → c.asker ≡ of → ((n : ℕ) → batches_in n (c ∷ cs) ≤ 1) → AreAlike s t (c ∷ cs)
      → ((u : Streams) (vs : List OpenSession) → AreAlike s u cs → all_answered cs (u, vs) ≡ (all_finished (responses_of s cs) u, all_delivered (replies_of s cs) vs))
      → all_answered cs (answered_to c of (t, ss)) ≡ (all_finished (responses_to s c of ++ responses_of s cs) t, all_delivered (replies_to s c of ++ replies_of s cs) ss)
  answered_next c cs t ss (Session session request) is once alike rest = rest t _ (alike_fewer s t c cs alike)
  answered_next c cs t ss (Stream n) is once alike rest =
      let one : one_if (answers n c.asker) ≡ 1 = ap (λ of. one_if (answers n of)) is ∙ ap one_if (itself n) in
      let here : stream_of n t ≡ stream_of n s = alike.streams n (omega (arith, one)) in
      let kept : kept_of t n c ≡ kept_of s n c = ap (λ (x : WriteStream). record { token = suc x.finished; results = c.results; commit = Some c.time; refusal = None }) here in
      let told : owner_told t n (kept_of t n c) ≡ owner_told s n (kept_of s n c) = (λ i. owner_told (record t { owners = alike.owners i }) n (kept i)) in
      ap (λ k. all_answered cs (finished_with n k t, told_if (owner_told t n (kept_of t n c)) ss)) kept
      ∙ ap (λ r. all_answered cs (finished_with n (kept_of s n c) t, told_if r ss)) told
      ∙ rest (finished_with n (kept_of s n c) t) (told_if (owner_told s n (kept_of s n c)) ss) (alike_next s t n (kept_of s n c) c cs is (once n) alike)
      ∙ ap (λ vs. (all_finished (responses_of s cs) (finished_with n (kept_of s n c) t), all_delivered (replies_of s cs) vs)) (told_as (owner_told s n (kept_of s n c)) ss)
      ∙ ap (λ vs. (all_finished (responses_of s cs) (finished_with n (kept_of s n c) t), vs)) (sym (delivered_in (reply_if (owner_told s n (kept_of s n c))) (replies_of s cs) ss))

  fewer : (c : Committed) (cs : List Committed) → ((n : ℕ) → batches_in n (c ∷ cs) ≤ 1) → (n : ℕ) → batches_in n cs ≤ 1
  fewer c cs once n = let all = once n in omega (arith, all)

  answered_from : (cs : List Committed) (t : Streams) (ss : List OpenSession) → ((n : ℕ) → batches_in n cs ≤ 1) → AreAlike s t cs
      → all_answered cs (t, ss) ≡ (all_finished (responses_of s cs) t, all_delivered (replies_of s cs) ss)
  answered_from [] t ss once alike = refl
  answered_from (c ∷ cs) t ss once alike = answered_next c cs t ss c.asker refl once alike (λ u vs so. answered_from cs u vs (fewer c cs once) so)

one_most : (b : Bool) → one_if b ≤ 1
one_most true = omega arith
one_most false = omega arith

-- so the replies and the responses are those of the streams as they are
pub answered_apart : (s : Streams) (cs : List Committed) (ss : List OpenSession) → AreAnswerable s cs → (all_finished (responses_of s cs) s, all_delivered (replies_of s cs) ss) ≡ all_answered cs (s, ss)
answered_apart s cs ss may =
    sym (answered_from s cs s ss (λ n. let few = (may n).0 in let most = one_most (stream_of n s).busy in omega (arith, few, most)) (record { streams = λ n some. refl; owners = refl }))

-- ---- what may be finished

busy_if : (b : Bool) → 1 ≤ one_if b → b ≡ true
busy_if true some = refl
busy_if false some = absurd (omega (arith, some))

-- one of a stream that is in progress
pub can_finish : (n going : ℕ) (s : Streams) → 1 ≤ going → going ≤ one_if (stream_of n s).busy → (stream_of n s).finished + going < 2 ^ 64 → CanFinish s n
can_finish n going s some few small = (busy_if (stream_of n s).busy (omega (arith, some, few)), omega (arith, some, small))

-- streams that are answered so are all answered
module _ (s0 : Streams) where
  abbrev MayAnswer : Streams → List Committed → Type 0
  MayAnswer s cs = (n : ℕ) → 1 ≤ batches_in n cs → CanFinish s n

  still : (s : Streams) (n : ℕ) (kept : Kept) (c : Committed) (cs : List Committed) → c.asker ≡ Stream n → batches_in n (c ∷ cs) ≤ 1 → MayAnswer s (c ∷ cs) → MayAnswer (finished_with n kept s) cs
  still s n kept c cs is once may k some = by_test (n == k) refl where
    by_test : (b : Bool) → (n == k) ≡ b → CanFinish (finished_with n kept s) k
    by_test true same =
        let at : n ≡ k = grind (arith, nat_tests, same) in
        let no : batches_in k cs ≡ 0 = ap (λ i. batches_in i cs) (sym at) ∙ each_once n c cs is once in
        absurd (omega (arith, some, no))
    by_test false apart =
        subst (λ (x : WriteStream). (x.busy ≡ true) × (suc x.finished < 2 ^ 64)) (sym (stream_unset n k (finished_by kept (stream_of n s)) s apart)) (may k (omega (arith, some)))

  finish_next : (c : Committed) (cs : List Committed) (s : Streams) (of : Asker) → c.asker ≡ of → ((n : ℕ) → batches_in n (c ∷ cs) ≤ 1) → MayAnswer s (c ∷ cs)
      → ((t : Streams) → MayAnswer t cs → CanFinishAll t (responses_of s0 cs)) → CanFinishAll s (responses_to s0 c of ++ responses_of s0 cs)
  finish_next c cs s (Session session request) is once may rest = rest s (λ n some. may n (omega (arith, some)))
  finish_next c cs s (Stream n) is once may rest =
      let one : one_if (answers n c.asker) ≡ 1 = ap (λ of. one_if (answers n of)) is ∙ ap one_if (itself n) in
      (may n (omega (arith, one)), rest (finished_with n (kept_of s0 n c) s) (still s n (kept_of s0 n c) c cs is (once n) may))

  can_finish_from : (cs : List Committed) (s : Streams) → ((n : ℕ) → batches_in n cs ≤ 1) → MayAnswer s cs → CanFinishAll s (responses_of s0 cs)
  can_finish_from [] s once may = tt
  can_finish_from (c ∷ cs) s once may = finish_next c cs s c.asker refl once may (λ t so. can_finish_from cs t (λ n. let all = once n in omega (arith, all)) so)

pub can_finish_all : (s : Streams) (cs : List Committed) → AreAnswerable s cs → CanFinishAll s (responses_of s cs)
can_finish_all s cs may =
    can_finish_from s cs s (λ n. let few = (may n).0 in let most = one_most (stream_of n s).busy in omega (arith, few, most))
    (λ n some. can_finish n (batches_in n cs) s some (may n).0 (may n).1)

-- ---- one after another, before anything is changed

pub answerable_rest : (s : Streams) (c : Committed) (cs : List Committed) → AreAnswerable s (c ∷ cs) → AreAnswerable s cs
answerable_rest s c cs may n = let all = may n in (omega (arith, all), omega (arith, all))

pub answerable_first : (s : Streams) (c : Committed) (cs : List Committed) → AreAnswerable s (c ∷ cs) → AreAnswerable s (c ∷ [])
answerable_first s c cs may n = let all = may n in (omega (arith, all), omega (arith, all))

-- so its stream can count it
pub answerable_counts : (s : Streams) (c : Committed) (n : ℕ) → c.asker ≡ Stream n → AreAnswerable s (c ∷ []) → suc (stream_of n s).finished < 2 ^ 64
answerable_counts s c n is may =
    let one : one_if (answers n c.asker) ≡ 1 = ap (λ of. one_if (answers n of)) is ∙ ap one_if (itself n) in
    let all = may n in
    omega (arith, one, all)

-- ---- of those that are let out

module _ (n : ℕ) (freed : Unreleased → Bool) where
  let_out_next : (u : Unreleased) (us : List Unreleased) (b : Bool) → batches_in n (map as_committed (filter freed us)) ≤ commits_of n us
      → batches_in n (map as_committed (cond b (u ∷ filter freed us) (filter freed us))) ≤ one_if (answers n u.asker) + commits_of n us
  let_out_next u us true few = omega (arith, few)
  let_out_next u us false few = omega (arith, few)

  let_out_most : (us : List Unreleased) → batches_in n (map as_committed (filter freed us)) ≤ commits_of n us
  let_out_most [] = omega arith
  let_out_most (u ∷ us) = let_out_next u us (freed u) (let_out_most us)

-- one that waits is counted among those that do
waiting_least : (n : ℕ) (rs : List ParkedRequest) (place : ℕ) (r : ParkedRequest) → slice_get rs place ≡ Some r → one_if (is_for n r.stream) ≤ tally (λ (x : ParkedRequest). is_for n x.stream) rs
waiting_least n [] place r is = absurd (cc)
waiting_least n (x ∷ rs) zero r is = let same = ap (λ (q : ParkedRequest). one_if (is_for n q.stream)) (same_Some x r is) in omega (arith, same)
waiting_least n (x ∷ rs) (suc place) r is = let rest = waiting_least n rs place r is in omega (arith, rest)

module _ (p : Past) (rs : List ParkedRequest) (s : Streams) (ids : ℕ) (counted : ids < 2 ^ 64) (holds : StreamsHold p rs s ids) where
  let_out_few : (n : ℕ) → batches_in n (committed_out p) ≤ under_way n p rs
  let_out_few n =
      let most = let_out_most n (is_freed (free_to p.last p.unreleased)) p.unreleased in
      omega (arith, most)

  pub release_may : AreAnswerable s (committed_out p)
  release_may n =
      let few = let_out_few n in
      let one = holds.one n in
      let drawn = holds.drawn n in
      (omega (arith, few, one), omega (arith, few, drawn, counted))

  -- a pending commit
  pending_may : (u : Unreleased) (id : ℕ) (of : Asker) → pending_of p id ≡ Some u → u.asker ≡ of → CanFinishFor s of
  pending_may u id (Session session request) is asks = tt
  pending_may u id (Stream n) is asks =
      let less = commits_dropped n id p.unreleased u is in
      let here : one_if (answers n u.asker) ≡ 1 = ap (λ of. one_if (answers n of)) asks ∙ ap one_if (itself n) in
      let one = holds.one n in
      let drawn = holds.drawn n in
      can_finish n (under_way n p rs) s (omega (arith, less, here)) (omega (arith, one)) (omega (arith, drawn, counted))

  pub refusal_may : (u : Unreleased) (id : ℕ) → pending_of p id ≡ Some u → CanFinishFor s u.asker
  refusal_may u id is = pending_may u id u.asker is refl

  -- one that waits
  pub parked_may : (place n : ℕ) (r : ParkedRequest) → slice_get rs place ≡ Some r → r.stream ≡ Some n → CanFinish s n
  parked_may place n r is asks =
      let least = waiting_least n rs place r is in
      let here : one_if (is_for n r.stream) ≡ 1 = ap (λ o. one_if (is_for n o)) asks ∙ ap one_if (itself n) in
      let one = holds.one n in
      let drawn = holds.drawn n in
      can_finish n (under_way n p rs) s (omega (arith, least, here)) (omega (arith, one)) (omega (arith, drawn, counted))

-- ---- streams that weren't opened

outside : (xs : List WriteStream) (i : ℕ) → length xs ≤ i → slice_index_or xs i fresh ≡ fresh
outside [] i beyond = refl
outside (x ∷ xs) zero beyond = absurd (omega (arith, beyond))
outside (x ∷ xs) (suc i) beyond = outside xs i (omega (arith, beyond))

pub unopened : (n : ℕ) (s : Streams) → is_opened n s ≡ false → (stream_of n s).finished ≡ 0
unopened zero s is = refl
unopened (suc i) s is = let beyond : length s.opened ≤ i = grind (arith, nat_tests, is) in ap (λ (x : WriteStream). x.finished) (outside s.opened i beyond)
