-- Whoever owns a stream is sent the responses to what it finishes, and nobody else is.
use Rattle.std.proofs.Common.{◌≡◌, ℕ, ℤ, ◌+◌, ◌≤◌, suc, Bool, true, false, cond, List, [], ◌∷◌, ◌++◌, map, Option, Some, None, Result, Ok, Err, refl, sym, ap, ◌∙◌, subst, arith, eq-eqb}
use Rattle.std.specs.Prelude.{IsTrue, ◌==◌, drop, length, option_map, slice_get, unwrap_or}
use Rattle.std.specs.Cmp.{second_so}
use Rattle.std.specs.FinMap.{FinMap, entries, entries_sorted, find, get, get-entries, is_sorted}
use Rattle.std.specs.FinMap.Entries.{below_all}
use Rattle.std.specs.List.{filter}
use Rattle.std.specs.Ordering.{nat_cmp}
use Rattle.std.proofs.Math.Seq.{drop-append_seam}
use Rattle.std.proofs.lemmas.Bool.{eqb-true}
use Rattle.std.proofs.lemmas.List.{append-nil, append_assoc}
use Rattle.std.proofs.lemmas.List.Elements.{filter-append}
use Rattle.fs_pairs.proofs.Entries.{behind_first, first_found}
use Rattle.fs_pairs.proofs.Laws.{key_is}
use Rattle.fs_pairs.specs.Pairs.{AreDistinct, key_of}
use Rattle.fs_path.proofs.Bools.{to_true}
use Rattle.fs_query.specs.declared.listen.ListenMessage.{ListenMessage}
use Rattle.fs_query.specs.declared.listen.ListenMessage.TheVariants as listen
use Rattle.fs_request.specs.Refused.{refused}
use Rattle.fs_request.specs.declared.message.Message.{Message}
use Rattle.fs_request.specs.declared.message.Message.TheVariants as message
use Rattle.fs_status.specs.declared.refusal.Refusal.{Refusal}
use Rattle.fs_stream.proofs.Standing.{owners_with}
use Rattle.fs_stream.specs.Streams.{Streams, finished_by, stream_of}
use Rattle.fs_stream.specs.declared.kept.Kept.{Kept}
use Rattle.fs_stream.specs.declared.stream.Stream.{Stream as WriteStream}
use Rattle.fs_listen.specs.Cuts.{is_loaded, is_ready}
use Rattle.fs_listen.specs.Listening.{Listened}
use Rattle.fs_listen.specs.Raised.{raised as sent_by}
use Rattle.fs_listen.specs.Runs.{is_lost}
use Rattle.fs_listen.specs.declared.cut.Cut.{Cut}
use Rattle.fs_listen.specs.declared.cut.Cut.TheVariants.{At, Loading, NoTarget}
use Rattle.fs_write.specs.Batch.{Docs}
use Rattle.fs_write.specs.declared.write_result.WriteResult.{WriteResult}
use Rattle.fs_machine.specs.Event.{Event, step}
use Rattle.fs_machine.specs.Facts.{Facts}
use Rattle.fs_machine.specs.Given.{given_by}
use Rattle.fs_machine.specs.Listen.{listening_of}
use Rattle.fs_machine.specs.Load.{load_refusal, loaded_unless, loaded_with, with_reset}
use Rattle.fs_machine.specs.Raise.{cut_of, raised_at}
use Rattle.fs_machine.specs.Refusing.{outbox_is_full}
use Rattle.fs_machine.specs.Release.{all_answered, answered_to, as_committed, free_to, is_freed, let_out}
use Rattle.fs_machine.specs.Request.{Decision}
use Rattle.fs_machine.specs.Retry.{given_up, retried_if, retry_decision, tried, unparked}
use Rattle.fs_machine.specs.Sessions.{delivered, outbox_in, with_outbox}
use Rattle.fs_machine.specs.Settle.{decided_if, decided_with, outcome_of, pending_of, refused_to}
use Rattle.fs_machine.specs.State.{Machine}
use Rattle.fs_machine.specs.Stream.{Desk, batch_finished, desk_of, kept_of, kept_refused, response_of, told_if}
use Rattle.fs_machine.specs.StreamLaws.{decided_of, finishes, given_up_of, is_response, owns, retried_of, settled_of, writes_of}
use Rattle.fs_machine.specs.StreamsHold.{answers, is_for, of_stream, one_if}
use Rattle.fs_machine.specs.Told.{is_open}
use Rattle.fs_machine.specs.declared.asker.Asker.{Asker}
use Rattle.fs_machine.specs.declared.asker.Asker.TheVariants.{Session, Stream}
use Rattle.fs_machine.specs.declared.committed.Committed.{Committed}
use Rattle.fs_machine.specs.declared.parked_request.ParkedRequest.{ParkedRequest}
use Rattle.fs_machine.specs.declared.session.Session.{Session as OpenSession}
use Rattle.fs_machine.specs.declared.unreleased.Unreleased.{Unreleased}
use Rattle.fs_machine.proofs.Carried.{carried_kept, the_same}
use Rattle.fs_machine.proofs.Desks.{numbers_answered_to}
use Rattle.fs_machine.proofs.Heard.{open_same, outbox_with}
use Rattle.fs_machine.proofs.StreamsHold.{commits_of, stream_unset}
use Rattle.fs_machine.proofs.StreamsMove.{Done, few}
use Rattle.fs_machine.proofs.Tallies.{count_parts, none_pass}

-- ---- who owns a stream

id_found : (number : ℕ) (es : List (ℕ × ℕ)) → IsTrue (is_sorted nat_cmp es) → (id : ℕ) → key_of number es ≡ Some id → find nat_cmp id es ≡ Some number
id_found number [] rise id is = absurd (cc)
id_found number (e ∷ es) rise id is = by_test (id_found number es (second_so (below_all nat_cmp e.0 es) _ rise) id) (e.1 == number) refl where
  by_test : (key_of number es ≡ Some id → find nat_cmp id es ≡ Some number) → (same : Bool) → (e.1 == number) ≡ same → find nat_cmp id (e ∷ es) ≡ Some number
  by_test rest true same =
      let one : Some e.0 ≡ Some id = ap (λ b. cond b (Some e.0) (key_of number es)) (sym same) ∙ is in
      let key : e.0 ≡ id = cc in
      subst (λ k. find nat_cmp k (e ∷ es) ≡ Some number) key (first_found e es rise ∙ ap Some (eqb-true e.1 number same))
  by_test rest false same = behind_first e es rise id number (rest (ap (λ b. cond b (Some e.0) (key_of number es)) (sym same) ∙ is))

-- the key of a number has it
has_key : (m : FinMap nat_cmp ℕ) (key number : ℕ) → key_of number (entries m) ≡ Some key → get m key ≡ Some number
has_key m key number is = get-entries m key ∙ id_found number (entries m) (to_true _ (entries_sorted m)) key is

is_one : (n : ℕ) (o : Option ℕ) → is_for n o ≡ true → o ≡ Some n
is_one n None is = absurd (cc)
is_one n (Some k) is = ap Some (eqb-true k n is)

one_is : (n : ℕ) (o : Option ℕ) → o ≡ Some n → is_for n o ≡ true
one_is n o is = ap (is_for n) is ∙ eq-eqb n n refl

both_or_none : (a b : Bool) → (a ≡ true → b ≡ true) → (b ≡ true → a ≡ true) → a ≡ b
both_or_none true b to from = sym (to refl)
both_or_none false true to from = from refl
both_or_none false false to from = refl

-- by the session, or by the stream
owned_by_key : (owners : FinMap nat_cmp ℕ) (k n : ℕ) → AreDistinct owners → is_for n (get owners k) ≡ is_for k (key_of n (entries owners))
owned_by_key owners k n distinct =
    both_or_none (is_for n (get owners k)) (is_for k (key_of n (entries owners))) (λ own. one_is k (key_of n (entries owners)) (key_is owners k n distinct (is_one n (get owners k) own)))
    (λ key. one_is n (get owners k) (has_key owners k n (is_one k (key_of n (entries owners)) key)))

-- ---- what a session is sent of a stream

-- it has more messages, of which these are responses of the stream
abbrev IsSent : ℕ → ℕ → List OpenSession → List OpenSession → List Message → Type 0
IsSent n k before now responses = (more : List Message) × (outbox_in k now ≡ outbox_in k before ++ more) × (filter (is_response n) more ≡ responses)

sent_as : (n k : ℕ) (before now : List OpenSession) (xs ys : List Message) → xs ≡ ys → IsSent n k before now xs → IsSent n k before now ys
sent_as n k before now xs ys same (more, is, those) = (more, is, those ∙ same)

nothing_sent : (n k : ℕ) (before now : List OpenSession) → outbox_in k now ≡ outbox_in k before → IsSent n k before now []
nothing_sent n k before now same = ([], same ∙ sym (append-nil (outbox_in k before)), refl)

both_sent : (n k : ℕ) (first next last : List OpenSession) (xs ys : List Message) → IsSent n k first next xs → IsSent n k next last ys → IsSent n k first last (xs ++ ys)
both_sent n k first next last xs ys (ms, here, those) (ns, there, others) =
    (ms ++ ns, there ∙ ap (λ zs. zs ++ ns) here ∙ append_assoc (outbox_in k first) ms ns, filter-append (is_response n) ms ns ∙ ap (λ zs. zs ++ filter (is_response n) ns) those ∙ ap (λ zs. xs ++ zs) others)

-- other messages
others_sent : (n k of : ℕ) (more : List Message) (ss : List OpenSession) → filter (is_response n) more ≡ [] → is_open k ss ≡ true → IsSent n k ss (with_outbox of (λ ms. ms ++ more) ss) []
others_sent n k of more ss none is = by_test (of == k) (outbox_with ss of k (λ ms. ms ++ more) is) where
  by_test : (b : Bool) → outbox_in k (with_outbox of (λ ms. ms ++ more) ss) ≡ cond b (outbox_in k ss ++ more) (outbox_in k ss) → IsSent n k ss (with_outbox of (λ ms. ms ++ more) ss) []
  by_test true same = (more, same, none)
  by_test false same = nothing_sent n k ss (with_outbox of (λ ms. ms ++ more) ss) same

nothing_either : (b : Bool) → ◌≡◌ {A = List Message} (cond b [] []) []
nothing_either true = refl
nothing_either false = refl

-- a response, to whoever owns its stream
told_sent : (n k j : ℕ) (kept : Kept) (owner : Option ℕ) (ss : List OpenSession) (b : Bool) → (j == n) ≡ b → is_open k ss ≡ true
    → IsSent n k ss (told_if (option_map (λ session. record { session = session; message = response_of j kept }) owner) ss) (cond b (cond (is_for k owner) (response_of j kept ∷ []) []) [])
told_sent n k j kept None ss b is now = sent_as n k ss ss [] (cond b [] []) (sym (nothing_either b)) (nothing_sent n k ss ss refl)
told_sent n k j kept (Some of) ss b is now = by_test (of == k) (outbox_with ss of k (λ ms. ms ++ response_of j kept ∷ []) now) where
  sent : List OpenSession
  sent = delivered of (response_of j kept) ss

  by_test : (mine : Bool) → outbox_in k sent ≡ cond mine (outbox_in k ss ++ response_of j kept ∷ []) (outbox_in k ss) → IsSent n k ss sent (cond b (cond mine (response_of j kept ∷ []) []) [])
  by_test true same = (response_of j kept ∷ [], same, ap (λ x. cond x (response_of j kept ∷ []) []) is)
  by_test false same = sent_as n k ss sent [] (cond b [] []) (sym (nothing_either b)) (nothing_sent n k ss sent same)

-- a batch of some stream is finished
batch_sent : (n k j : ℕ) (given : ℕ → Kept) (d : Desk) (b : Bool) → (j == n) ≡ b → AreDistinct d.0.owners → is_open k d.1 ≡ true
    → IsSent n k d.1 (batch_finished j (given j) d).1 (cond (is_for n (get d.0.owners k)) (cond b (response_of n (given n) ∷ []) []) [])
batch_sent n k j given d b is distinct now =
    sent_as n k d.1 (batch_finished j (given j) d).1 _ _ (by_test b is) (told_sent n k j (given j) (key_of j (entries d.0.owners)) d.1 b is now)
  where
    own : Bool
    own = is_for n (get d.0.owners k)

    by_test : (b : Bool) → (j == n) ≡ b
        → ◌≡◌ {A = List Message} (cond b (cond (is_for k (key_of j (entries d.0.owners))) (response_of j (given j) ∷ []) []) []) (cond own (cond b (response_of n (given n) ∷ []) []) [])
    by_test true is =
        ap (λ i. cond (is_for k (key_of i (entries d.0.owners))) (response_of i (given i) ∷ []) []) (eqb-true j n is)
        ∙ ap (λ x. cond x (response_of n (given n) ∷ []) []) (sym (owned_by_key d.0.owners k n distinct))
    by_test false is = sym (nothing_either own)

-- ---- one that is tried again, or settled

abbrev responses : ℕ → List Done → List Message
responses n ds = map (λ (d : Done). response_of n d.1) ds

module _ (m : Machine) (n k : ℕ) (distinct : AreDistinct m.streams.owners) (now : is_open k m.sessions ≡ true) where
  abbrev own : Bool
  own = is_for n (get m.streams.owners k)

  -- what it is sent where these are finished
  abbrev Sends : List OpenSession → List Done → Type 0
  Sends ss ds = IsSent n k m.sessions ss (cond own (responses n ds) [])

  sends_none : (ss : List OpenSession) (b : Bool) → outbox_in k ss ≡ outbox_in k m.sessions → Sends ss (cond b [] [])
  sends_none ss b same = sent_as n k m.sessions ss [] _ (by_tests own b) (nothing_sent n k m.sessions ss same) where
    by_tests : (a b : Bool) → [] ≡ cond a (responses n (cond b [] [])) []
    by_tests true true = refl
    by_tests true false = refl
    by_tests false b = refl

  sends_one : (ss : List OpenSession) (b : Bool) (d : Done) → IsSent n k m.sessions ss (cond own (cond b (response_of n d.1 ∷ []) []) []) → Sends ss (cond b (d ∷ []) [])
  sends_one ss true d sent = sent
  sends_one ss false d sent = sent

  given_up_sends : (r : ParkedRequest) (refusal : Refusal) (stream : Option ℕ) → Sends (given_up stream refusal (desk_of m)).1 (cond (is_for n stream) ((writes_of r.envelope.request, kept_refused m.streams n refusal) ∷ []) [])
  given_up_sends r refusal None = sends_none m.sessions false refl
  given_up_sends r refusal (Some j) =
      sends_one (given_up (Some j) refusal (desk_of m)).1 (j == n) (writes_of r.envelope.request, kept_refused m.streams n refusal)
      (batch_sent n k j (λ i. kept_refused m.streams i refusal) (desk_of m) (j == n) refl distinct now)

  tried_sends : (place : ℕ) (r : ParkedRequest) (d : Decision) → Sends (tried m place r d).sessions (cond (is_for n r.stream) (given_up_of m n r d) [])
  tried_sends place r (Decision.refused refusal) = given_up_sends r refusal r.stream
  tried_sends place r (Decision.held id) = sends_none m.sessions (is_for n r.stream) refl
  tried_sends place r Decision.goes_on =
      sends_none (tried m place r Decision.goes_on).sessions (is_for n r.stream) ((the_same r.session m.sessions _ (carried_kept (unparked m place) r r.envelope.request)).outboxes k)

  retried_sends : (place : ℕ) (found : Option ParkedRequest) → Sends (retried_if m place found).sessions (retried_of m n found)
  retried_sends place None = sends_none m.sessions false refl
  retried_sends place (Some r) = tried_sends place r (retry_decision m r.session r.envelope.request)

  refused_sends : (u : Unreleased) (refusal : Refusal) (of : Asker) → Sends (refused_to of refusal (desk_of m)).1 (cond (answers n of) ((u.batch.writes, kept_refused m.streams n refusal) ∷ []) [])
  refused_sends u refusal (Session session request) =
      sent_as n k m.sessions (refused_to (Session session request) refusal (desk_of m)).1 [] _ (sym (nothing_either own)) (others_sent n k session (refused request refusal ∷ []) m.sessions refl now)
  refused_sends u refusal (Stream j) =
      sends_one (refused_to (Stream j) refusal (desk_of m)).1 (j == n) (u.batch.writes, kept_refused m.streams n refusal)
      (batch_sent n k j (λ i. kept_refused m.streams i refusal) (desk_of m) (j == n) refl distinct now)

  with_sends : (u : Unreleased) (r : Result (Docs × List WriteResult) Refusal) → Sends (decided_with m u r).sessions (cond (answers n u.asker) (settled_of m n u r) [])
  with_sends u (Ok done) = sends_none m.sessions (answers n u.asker) refl
  with_sends u (Err refusal) = refused_sends u refusal u.asker

  decided_sends : (found : Option Unreleased) → Sends (decided_if m found).sessions (decided_of m n found)
  decided_sends None = sends_none m.sessions false refl
  decided_sends (Some u) = with_sends u (outcome_of m.past u)

  -- ---- loading and raising

  reset_sends : (session target : ℕ) (reset : Bool) → IsSent n k m.sessions (with_reset session target reset m.sessions) []
  reset_sends session target true = others_sent n k session (message.Listen (listen.Reset (target ∷ [])) ∷ []) m.sessions refl now
  reset_sends session target false = nothing_sent n k m.sessions m.sessions refl

  loaded_sends_by : (session target : ℕ) (time : ℤ) (reset there : Bool) → IsSent n k m.sessions (cond there m (loaded_with m session target time reset)).sessions []
  loaded_sends_by session target time reset true = nothing_sent n k m.sessions m.sessions refl
  loaded_sends_by session target time reset false = reset_sends session target reset

  loaded_sends : (session target : ℕ) (at : Option ℤ) (found : Option Listened) (refusal : Option Refusal) → IsSent n k m.sessions (loaded_unless m session target at found refusal).sessions []
  loaded_sends session target at None refusal = nothing_sent n k m.sessions m.sessions refl
  loaded_sends session target at (Some l) (Some refusal) = nothing_sent n k m.sessions m.sessions refl
  loaded_sends session target at (Some l) None = loaded_sends_by session target (unwrap_or at m.past.released) (is_lost m.past.floor l.token) (is_loaded l.loaded)

  none_listened : (said : List ListenMessage) → filter (is_response n) (map message.Listen said) ≡ []
  none_listened [] = refl
  none_listened (s ∷ said) = none_listened said

  raised_at_sends : (session : ℕ) (to : Cut) → IsSent n k m.sessions (raised_at m session to).sessions []
  raised_at_sends session (At time) =
      let said = sent_by m.past.history time (listening_of m session) in others_sent n k session (map message.Listen said) m.sessions (none_listened said) now
  raised_at_sends session (Loading id) = nothing_sent n k m.sessions m.sessions refl
  raised_at_sends session NoTarget = nothing_sent n k m.sessions m.sessions refl

  raised_sends : (session : ℕ) (full ready : Bool) → IsSent n k m.sessions (cond full m (cond ready (raised_at m session (cut_of m session)) m)).sessions []
  raised_sends session true ready = nothing_sent n k m.sessions m.sessions refl
  raised_sends session false true = raised_at_sends session (cut_of m session)
  raised_sends session false false = nothing_sent n k m.sessions m.sessions refl

-- ---- commits that are released

-- the response that the first of them would be given
abbrev response_to : ℕ → WriteStream → Unreleased → Message
response_to n s u = response_of n (record { token = suc s.finished; results = (as_committed u).results; commit = Some u.batch.time; refusal = None })

-- one at most is of the stream
abbrev AnswersSent : ℕ → ℕ → Bool → List Unreleased → Type 0
AnswersSent n k own us = (s : WriteStream) (d : Desk) → stream_of n d.0 ≡ s → is_for n (get d.0.owners k) ≡ own → AreDistinct d.0.owners → is_open k d.1 ≡ true → commits_of n us ≤ 1
    → IsSent n k d.1 (all_answered (map as_committed us) d).1 (cond own (map (response_to n s) (of_stream n us)) [])

next_sent : (n k : ℕ) (own : Bool) (u : Unreleased) (us : List Unreleased) (s : WriteStream) (d : Desk) (of : Asker) → stream_of n d.0 ≡ s → is_for n (get d.0.owners k) ≡ own → AreDistinct d.0.owners
    → is_open k d.1 ≡ true → one_if (answers n of) + commits_of n us ≤ 1 → AnswersSent n k own us
    → IsSent n k d.1 (all_answered (map as_committed us) (answered_to (as_committed u) of d)).1 (cond own (map (response_to n s) (cond (answers n of) (u ∷ of_stream n us) (of_stream n us))) [])
next_sent n k own u us s d (Session session request) alike is distinct now one rest =
    let c = as_committed u in
    let next = answered_to c (Session session request) d in
    both_sent n k d.1 next.1 (all_answered (map as_committed us) next).1 [] _ (others_sent n k session (message.Commit request c.time c.results ∷ []) d.1 refl now)
    (rest s next alike is distinct (open_same d.1 next.1 k (numbers_answered_to c (Session session request) d) ∙ now) (omega (arith, one)))
next_sent n k own u us s d (Stream j) alike is distinct now one rest = by_test (j == n) refl one where
  c : Committed
  c = as_committed u

  next : Desk
  next = answered_to c (Stream j) d

  last : List OpenSession
  last = (all_answered (map as_committed us) next).1

  same_owners : next.0.owners ≡ d.0.owners
  same_owners = owners_with j (finished_by (kept_of d.0 j c) (stream_of j d.0)) d.0

  still : is_for n (get next.0.owners k) ≡ own
  still = ap (λ o. is_for n (get o k)) same_owners ∙ is

  still_distinct : AreDistinct next.0.owners
  still_distinct = subst AreDistinct (sym same_owners) distinct

  still_open : is_open k next.1 ≡ true
  still_open = open_same d.1 next.1 k (numbers_answered_to c (Stream j) d) ∙ now

  sends : (b : Bool) → (j == n) ≡ b → IsSent n k d.1 next.1 (cond own (cond b (response_of n (kept_of d.0 n c) ∷ []) []) [])
  sends b here = sent_as n k d.1 next.1 _ _ (ap (λ x. cond x (cond b (response_of n (kept_of d.0 n c) ∷ []) []) []) is) (batch_sent n k j (λ i. kept_of d.0 i c) d b here distinct now)

  by_test : (b : Bool) → (j == n) ≡ b → one_if b + commits_of n us ≤ 1
      → IsSent n k d.1 last (cond own (map (response_to n s) (cond b (u ∷ of_stream n us) (of_stream n us))) [])
  by_test true here one =
      let none = none_pass (λ (x : Unreleased). answers n x.asker) us (omega (arith, one)) in
      sent_as n k d.1 last _ _ (alone own none)
      (both_sent n k d.1 next.1 last _ _ (sends true here) (rest (stream_of n next.0) next refl still still_distinct still_open (omega (arith, one))))
    where
      alone : (own : Bool) → of_stream n us ≡ []
          → cond own (response_of n (kept_of d.0 n c) ∷ []) [] ++ cond own (map (response_to n (stream_of n next.0)) (of_stream n us)) [] ≡ cond own (response_to n s u ∷ map (response_to n s) (of_stream n us)) []
      alone true none = ap (λ xs. response_of n (kept_of d.0 n c) ∷ map (response_to n (stream_of n next.0)) xs) none ∙ ap (λ x. response_to n x u ∷ []) alike ∙ ap (λ xs. response_to n s u ∷ map (response_to n s) xs) (sym none)
      alone false none = refl
  by_test false here one =
      sent_as n k d.1 last _ _ (ap (λ xs. xs ++ cond own (map (response_to n s) (of_stream n us)) []) (nothing_either own))
      (both_sent n k d.1 next.1 last _ _ (sends false here)
      (rest s next (stream_unset j n (finished_by (kept_of d.0 j c) (stream_of j d.0)) d.0 here ∙ alike) still still_distinct still_open (omega (arith, one))))

answers_sent : (n k : ℕ) (own : Bool) (us : List Unreleased) → AnswersSent n k own us
answers_sent n k own [] s d alike is distinct now one = sent_as n k d.1 d.1 [] _ (sym (nothing_either own)) (nothing_sent n k d.1 d.1 refl)
answers_sent n k own (u ∷ us) s d alike is distinct now one = next_sent n k own u us s d u.asker alike is distinct now one (answers_sent n k own us)

responses_of : (n : ℕ) (s : Streams) (us : List Unreleased) → map (response_to n (stream_of n s)) us ≡ responses n (map (λ u. (u.batch.writes, kept_of s n (as_committed u))) us)
responses_of n s [] = refl
responses_of n s (u ∷ us) = ap (λ ms. response_to n (stream_of n s) u ∷ ms) (responses_of n s us)

released_sends : (m : Machine) (n k : ℕ) → Facts m → is_open k m.sessions ≡ true
    → IsSent n k m.sessions (step m Event.releasing).sessions (cond (is_for n (get m.streams.owners k)) (responses n (finishes m Event.releasing n)) [])
released_sends m n k facts now =
    let own = is_for n (get m.streams.owners k) in
    let parts = count_parts (λ (u : Unreleased). answers n u.asker) (is_freed (free_to m.past.last m.past.unreleased)) m.past.unreleased in
    let one = facts.streams.one n in
    let most = few (stream_of n m.streams).busy in
    sent_as n k m.sessions (step m Event.releasing).sessions _ _ (ap (λ ms. cond own ms []) (responses_of n m.streams (of_stream n (let_out m.past))))
    (answers_sent n k own (let_out m.past) (stream_of n m.streams) (desk_of m) refl refl facts.streams.stands.distinct now (omega (arith, parts, one, most)))

-- ---- the law

-- of what comes into an outbox
new_responses : (n : ℕ) (before now responses more : List Message) → now ≡ before ++ more → filter (is_response n) more ≡ responses → filter (is_response n) (drop (length before) now) ≡ responses
new_responses n before now responses more is those = ap (λ ms. filter (is_response n) (drop (length before) ms)) is ∙ ap (filter (is_response n)) (drop-append_seam before more) ∙ those

pub owners_are_told : (m : Machine) (e : Event) (n k : ℕ) → Facts m → is_open k m.sessions ≡ true
    → filter (is_response n) (given_by m e k) ≡ cond (owns k n m.streams) (map (λ (d : Done). response_of n d.1) (finishes m e n)) []
owners_are_told m (Event.retrying place) n k facts now =
    let sent = retried_sends m n k facts.streams.stands.distinct now place (slice_get m.parked place) in
    new_responses n (outbox_in k m.sessions) (outbox_in k (step m (Event.retrying place)).sessions) _ sent.0 sent.1 sent.2
owners_are_told m (Event.deciding id) n k facts now =
    let sent = decided_sends m n k facts.streams.stands.distinct now (pending_of m.past id) in
    new_responses n (outbox_in k m.sessions) (outbox_in k (step m (Event.deciding id)).sessions) _ sent.0 sent.1 sent.2
owners_are_told m Event.releasing n k facts now =
    let sent = released_sends m n k facts now in
    new_responses n (outbox_in k m.sessions) (outbox_in k (step m Event.releasing).sessions) _ sent.0 sent.1 sent.2
owners_are_told m (Event.loading session target at) n k facts now =
    let sent = loaded_sends m n k facts.streams.stands.distinct now session target at (get (listening_of m session).targets target) (load_refusal m session target at) in
    new_responses n (outbox_in k m.sessions) (outbox_in k (step m (Event.loading session target at)).sessions) [] sent.0 sent.1 sent.2 ∙ sym (nothing_either (owns k n m.streams))
owners_are_told m (Event.raising session) n k facts now =
    let sent = raised_sends m n k facts.streams.stands.distinct now session (outbox_is_full m session) (is_ready (listening_of m session)) in
    new_responses n (outbox_in k m.sessions) (outbox_in k (step m (Event.raising session)).sessions) [] sent.0 sent.1 sent.2 ∙ sym (nothing_either (owns k n m.streams))
owners_are_told m e n k facts now = sym (nothing_either (owns k n m.streams))
