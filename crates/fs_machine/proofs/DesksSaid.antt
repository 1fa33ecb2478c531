-- Answers tell no session of its targets.
use Rattle.std.proofs.Common.{◌≡◌, ℕ, Bool, true, false, List, [], ◌∷◌, ◌++◌, Option, Some, None, refl, sym, ap, ◌∙◌, cond}
use Rattle.std.specs.Prelude.{◌==◌, option_map}
use Rattle.std.specs.FinMap.{entries}
use Rattle.std.proofs.lemmas.List.Elements.{filter_map-append}
use Rattle.fs_pairs.specs.Pairs.{key_of}
use Rattle.std.proofs.lemmas.List.{append-nil, append_assoc}
use Rattle.fs_request.specs.Refused.{refused}
use Rattle.fs_request.specs.declared.message.Message.{Message}
use Rattle.fs_request.specs.declared.message.Message.TheVariants as message
use Rattle.fs_status.specs.declared.refusal.Refusal.{Refusal}
use Rattle.fs_stream.specs.declared.kept.Kept.{Kept}
use Rattle.fs_machine.specs.Release.{all_answered, answered_to}
use Rattle.fs_machine.specs.Retry.{given_up}
use Rattle.fs_machine.specs.Sessions.{delivered, outbox_in, owning}
use Rattle.fs_machine.specs.Settle.{refused_to}
use Rattle.fs_machine.specs.Stream.{Desk, batch_finished, kept_of, kept_refused, response_of, told_if}
use Rattle.fs_machine.specs.Told.{all_said, is_open, said_in}
use Rattle.fs_machine.specs.declared.asker.Asker.{Asker}
use Rattle.fs_machine.specs.declared.asker.Asker.TheVariants.{Session, Stream}
use Rattle.fs_machine.specs.declared.committed.Committed.{Committed}
use Rattle.fs_machine.specs.declared.session.Session.{Session as OpenSession}
use Rattle.fs_machine.proofs.Heard.{open_same, outbox_with}
use Rattle.fs_machine.proofs.Desks.{numbers_answered_to}

-- ---- outboxes

-- a session that is open gets more messages, which tell it of no target
abbrev pub SaysNothing : ℕ → List OpenSession → List OpenSession → Type 0
SaysNothing k before now = (more : List Message) × (outbox_in k now ≡ outbox_in k before ++ more) × (all_said more ≡ [])

nothing_at_all : (k : ℕ) (ss : List OpenSession) → SaysNothing k ss ss
nothing_at_all k ss = ([], sym (append-nil (outbox_in k ss)), refl)

both_nothing : (k : ℕ) (first next last : List OpenSession) → SaysNothing k first next → SaysNothing k next last → SaysNothing k first last
both_nothing k first next last (ms, here, none) (ns, there, nothing) =
    (ms ++ ns, there ∙ ap (λ xs. xs ++ ns) here ∙ append_assoc (outbox_in k first) ms ns, filter_map-append said_in ms ns ∙ ap (λ xs. xs ++ all_said ns) none ∙ nothing)

one_said : (k : ℕ) (ss : List OpenSession) (of : ℕ) (one : Message) → all_said (one ∷ []) ≡ [] → is_open k ss ≡ true → SaysNothing k ss (delivered of one ss)
one_said k ss of one none is = by_test (of == k) (outbox_with ss of k (λ ms. ms ++ one ∷ []) is) where
  by_test : (b : Bool) → outbox_in k (delivered of one ss) ≡ cond b (outbox_in k ss ++ one ∷ []) (outbox_in k ss) → SaysNothing k ss (delivered of one ss)
  by_test true same = (one ∷ [], same, none)
  by_test false same = ([], same ∙ sym (append-nil (outbox_in k ss)), refl)

-- the response to a batch
owner_said : (k : ℕ) (ss : List OpenSession) (n : ℕ) (kept : Kept) (owner : Option ℕ) → is_open k ss ≡ true
    → SaysNothing k ss (told_if (option_map (λ session. record { session = session; message = response_of n kept }) owner) ss)
owner_said k ss n kept None is = nothing_at_all k ss
owner_said k ss n kept (Some session) is = one_said k ss session (response_of n kept) refl is

finished_said : (k n : ℕ) (kept : Kept) (d : Desk) → is_open k d.1 ≡ true → SaysNothing k d.1 (batch_finished n kept d).1
finished_said k n kept d is = owner_said k d.1 n kept (key_of n (entries d.0.owners)) is

pub refused_said : (k : ℕ) (of : Asker) (refusal : Refusal) (d : Desk) → is_open k d.1 ≡ true → SaysNothing k d.1 (refused_to of refusal d).1
refused_said k (Session session request) refusal d is = one_said k d.1 session (refused request refusal) refl is
refused_said k (Stream n) refusal d is = finished_said k n (kept_refused d.0 n refusal) d is

pub given_up_said : (k : ℕ) (stream : Option ℕ) (refusal : Refusal) (d : Desk) → is_open k d.1 ≡ true → SaysNothing k d.1 (given_up stream refusal d).1
given_up_said k None refusal d is = nothing_at_all k d.1
given_up_said k (Some n) refusal d is = finished_said k n (kept_refused d.0 n refusal) d is

answered_said : (k : ℕ) (c : Committed) (of : Asker) (d : Desk) → is_open k d.1 ≡ true → SaysNothing k d.1 (answered_to c of d).1
answered_said k c (Session session request) d is = one_said k d.1 session (message.Commit request c.time c.results) refl is
answered_said k c (Stream n) d is = finished_said k n (kept_of d.0 n c) d is

pub all_answered_said : (k : ℕ) (cs : List Committed) (d : Desk) → is_open k d.1 ≡ true → SaysNothing k d.1 (all_answered cs d).1
all_answered_said k [] d is = nothing_at_all k d.1
all_answered_said k (c ∷ cs) d is =
    let next = answered_to c c.asker d in
    both_nothing k d.1 next.1 (all_answered cs next).1 (answered_said k c c.asker d is)
    (all_answered_said k cs next (open_same d.1 next.1 k (numbers_answered_to c c.asker d) ∙ is))

-- ---- a session that owns a stream

outbox_owning_next : (s : OpenSession) (ss : List OpenSession) (number k : ℕ) (b : Bool) → outbox_in k (owning number ss) ≡ outbox_in k ss
    → outbox_in k (cond b (record s { has_owned = true } ∷ ss) (s ∷ owning number ss)) ≡ cond (s.number == k) s.outbox (outbox_in k ss)
outbox_owning_next s ss number k true more = refl
outbox_owning_next s ss number k false more = ap (cond (s.number == k) s.outbox) more

pub outbox_owning : (ss : List OpenSession) (number k : ℕ) → outbox_in k (owning number ss) ≡ outbox_in k ss
outbox_owning [] number k = refl
outbox_owning (s ∷ ss) number k = outbox_owning_next s ss number k (s.number == number) (outbox_owning ss number k)
