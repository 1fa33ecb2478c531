-- Who sends the last batch again is answered the response that is kept.
use Rattle.std.proofs.Common.{◌≡◌, ℕ, suc, Bool, true, false, cond, List, Option, Some, None, Result, Ok, Err, sym, ap, ◌∙◌, subst, arith, eq-eqb}
use Rattle.std.specs.Prelude.{◌==◌, nat_lt, unwrap_or}
use Rattle.std.specs.FinMap.{get}
use Rattle.std.proofs.lemmas.Bool.Decides.{nat_tests}
use Rattle.fs_path.specs.declared.name.Root.{Root}
use Rattle.fs_request.specs.declared.request.Envelope.{Envelope}
use Rattle.fs_request.specs.declared.request.Request.{Request}
use Rattle.fs_request.specs.declared.request.Request.TheVariants as request
use Rattle.fs_request.specs.declared.stream_request.StreamRequest.TheVariants.{Batch}
use Rattle.fs_stream.specs.Answers.{batch_of, by_owned, missed}
use Rattle.fs_stream.specs.Streams.{stream_of}
use Rattle.fs_stream.specs.declared.error.StreamError.{StreamError}
use Rattle.fs_stream.specs.declared.error.StreamError.TheVariants as error
use Rattle.fs_stream.specs.declared.kept.Kept.{Kept}
use Rattle.fs_stream.specs.declared.stream.Stream.{Stream as WriteStream}
use Rattle.fs_stream.specs.declared.take.Take.{Take}
use Rattle.fs_stream.specs.declared.take.Take.TheVariants.{Repeat}
use Rattle.fs_write.specs.declared.write.Write.{Write}
use Rattle.fs_machine.specs.Request.{Decision, answered, answered_unless, arrival_refusal, arrived, decided_answer, decision, drawn, numbered, unless_full, unless_refused}
use Rattle.fs_machine.specs.Sessions.{has_owned}
use Rattle.fs_machine.specs.State.{Machine}
use Rattle.fs_machine.specs.Stream.{known_answer, new_of, own_stream, response_of, take_of, taken_as, unless_taken}
use Rattle.fs_machine.specs.StreamLaws.{RepeatsAreTold}
use Rattle.fs_machine.specs.declared.answer.Answer.{Answer}
use Rattle.fs_machine.specs.declared.answer.Answer.TheVariants.{Reply}
use Rattle.fs_machine.specs.declared.parked_request.ParkedRequest.{ParkedRequest}

-- ---- it is a repeat

below_next : (a b : ℕ) → suc a ≡ b → (a == b) ≡ false
below_next a b next = grind (arith, nat_tests)

last_missed : (s : WriteStream) (token : ℕ) (kept : Kept) → s.kept ≡ Some kept → suc token ≡ s.finished → missed s token ≡ Ok (Some kept)
last_missed s token kept is next = by_tests (token == s.finished) (below_next token s.finished next) (suc token == s.finished) (eq-eqb (suc token) s.finished next) where
  rest : Result (Option Kept) StreamError
  rest = cond (nat_lt token s.finished) (Err (error.Stale token s.finished)) (Err (error.Ahead token s.finished))

  by_tests : (same : Bool) → same ≡ false → (last : Bool) → last ≡ true → cond same (Ok None) (cond last (Ok s.kept) rest) ≡ Ok (Some kept)
  by_tests true other last here = absurd (cc)
  by_tests false other true here = ap (λ (o : Option Kept). Ok o) is
  by_tests false other false here = absurd (cc)

module _ (m : Machine) (session n : ℕ) (kept : Kept) (token : ℕ) (owns : get m.streams.owners session ≡ Some n) (keeps : (stream_of n m.streams).kept ≡ Some kept)
    (next : suc token ≡ (stream_of n m.streams).finished) where
  is_repeat : take_of m session token ≡ Ok (Repeat kept)
  is_repeat = ap (λ o. by_owned o token m.streams) owns ∙ ap (batch_of n (stream_of n m.streams)) (last_missed (stream_of n m.streams) token kept keeps next)

  -- ---- so it is answered

  module _ (id : Option (List ℕ)) (database : Root) (writes : List Write) where
    abbrev asked : Request
    asked = request.Write database (Batch token writes)

    abbrev sent : Envelope
    sent = record { id = id; request = asked }

    abbrev as_taken : Result Take StreamError → ParkedRequest
    as_taken told = taken_as (new_of told) (numbered m session sent)

    -- as the stream takes it, by whether it is its next one
    abbrev taken_answer : Result Take StreamError → Answer
    taken_answer told = let r = as_taken told in decided_answer (drawn m r.envelope.request) r (unless_full m (decision m r.session r.envelope.request))

    -- as it is decided
    abbrev told_answer : Result Take StreamError → Answer
    told_answer told = decided_answer (drawn m asked) (numbered m session sent) (unless_full m (unless_refused (unless_taken (has_owned session m.sessions) told) Decision.goes_on))

    repeat_answered : arrival_refusal m session asked ≡ None → answered m session sent ≡ Reply (response_of n kept)
    repeat_answered none =
        ap (λ refusal. answered_unless refusal m (arrived m session sent)) none
        ∙ ap taken_answer is_repeat
        ∙ ap told_answer is_repeat
        ∙ ap (known_answer (own_stream m session)) is_repeat
        ∙ ap (λ o. Reply (response_of (unwrap_or o 0) kept)) owns

pub repeats_are_told : RepeatsAreTold
repeats_are_told m session n kept e database token writes owns keeps next is none =
    subst (λ q. arrival_refusal m session q ≡ None → answered m session (record { id = e.id; request = q }) ≡ Reply (response_of n kept)) (sym is)
    (repeat_answered m session n kept token owns keeps next e.id database writes) none
