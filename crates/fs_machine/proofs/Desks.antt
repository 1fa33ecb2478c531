-- Answers change no numbers of sessions.
use Rattle.std.proofs.Common.{◌≡◌, ℕ, List, [], ◌∷◌, ◌++◌, Option, Some, None, refl, ◌∙◌}
use Rattle.fs_request.specs.Refused.{refused}
use Rattle.fs_request.specs.declared.message.Message.TheVariants as message
use Rattle.fs_status.specs.declared.refusal.Refusal.{Refusal}
use Rattle.fs_stream.specs.declared.kept.Kept.{Kept}
use Rattle.fs_machine.specs.Release.{all_answered, answered_to}
use Rattle.fs_machine.specs.Retry.{given_up}
use Rattle.fs_machine.specs.Settle.{refused_to}
use Rattle.fs_machine.specs.Stream.{Desk, batch_finished, kept_of, kept_refused, owner_told, told_if}
use Rattle.fs_machine.specs.declared.asker.Asker.{Asker}
use Rattle.fs_machine.specs.declared.asker.Asker.TheVariants.{Session, Stream}
use Rattle.fs_machine.specs.declared.committed.Committed.{Committed}
use Rattle.fs_machine.specs.declared.reply.Reply.{Reply}
use Rattle.fs_machine.specs.declared.session.Session.{Session as OpenSession}
use Rattle.fs_machine.proofs.SessionsNumbered.{numbers_of, same_numbers}

-- ---- numbers of sessions

numbers_told : (r : Option Reply) (ss : List OpenSession) → numbers_of (told_if r ss) ≡ numbers_of ss
numbers_told None ss = refl
numbers_told (Some r) ss = same_numbers ss r.session (λ ms. ms ++ r.message ∷ [])

pub numbers_finished : (n : ℕ) (kept : Kept) (d : Desk) → numbers_of (batch_finished n kept d).1 ≡ numbers_of d.1
numbers_finished n kept d = numbers_told (owner_told d.0 n kept) d.1

pub numbers_refused : (of : Asker) (refusal : Refusal) (d : Desk) → numbers_of (refused_to of refusal d).1 ≡ numbers_of d.1
numbers_refused (Session session request) refusal d = same_numbers d.1 session (λ ms. ms ++ refused request refusal ∷ [])
numbers_refused (Stream n) refusal d = numbers_finished n (kept_refused d.0 n refusal) d

pub numbers_given_up : (stream : Option ℕ) (refusal : Refusal) (d : Desk) → numbers_of (given_up stream refusal d).1 ≡ numbers_of d.1
numbers_given_up None refusal d = refl
numbers_given_up (Some n) refusal d = numbers_finished n (kept_refused d.0 n refusal) d

pub numbers_answered_to : (c : Committed) (of : Asker) (d : Desk) → numbers_of (answered_to c of d).1 ≡ numbers_of d.1
numbers_answered_to c (Session session request) d = same_numbers d.1 session (λ ms. ms ++ message.Commit request c.time c.results ∷ [])
numbers_answered_to c (Stream n) d = numbers_finished n (kept_of d.0 n c) d

pub numbers_answered : (cs : List Committed) (d : Desk) → numbers_of (all_answered cs d).1 ≡ numbers_of d.1
numbers_answered [] d = refl
numbers_answered (c ∷ cs) d = numbers_answered cs (answered_to c c.asker d) ∙ numbers_answered_to c c.asker d
