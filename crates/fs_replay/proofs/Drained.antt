-- What emptying the outboxes of a directory's sessions does, where one message at most waits.
use Rattle.std.proofs.Common.{◌≡◌, ℕ, Bool, true, false, List, [], ◌∷◌, ◌++◌, refl, ap, ◌∙◌}
use Rattle.std.specs.Prelude.{◌==◌}
use Rattle.std.specs.List.{AllByRecursion}
use Rattle.std.proofs.lemmas.Bool.{eqb-true}
use Rattle.std.proofs.lemmas.List.{append-nil}
use Rattle.fs_request.specs.declared.message.Message.{Message}
use Rattle.fs_machine.specs.Outbox.{outbox_of, taken}
use Rattle.fs_machine.specs.Sessions.{outbox_in, delivered}
use Rattle.fs_machine.specs.State.{Machine}
use Rattle.fs_machine.specs.declared.session.Session.{Session}
use Rattle.fs_replay.specs.BetweenLines.{HasNothing, is_open}
use Rattle.fs_replay.specs.Outboxes.{drained, drain_output, message_line, message_lines}
use Rattle.fs_replay.specs.declared.directory.Named.{Named}
use Rattle.fs_replay.proofs.Known.{has_number}
use Rattle.fs_replay.proofs.Waiting.{behind, emptied_same, nothing_in, delivered_elsewhere, delivered_taken, delivered_there}

-- the server with these sessions
abbrev pub with_list : Machine → List Session → Machine
with_list m ss = record m { sessions = ss }

-- ---- where nothing waits

pub taken_same : (m : Machine) (number : ℕ) → AllByRecursion HasNothing m.sessions → taken m number ≡ m
taken_same m number none = ap (with_list m) (emptied_same m.sessions number (nothing_in m.sessions number none))

pub drained_same : (ns : List Named) (m : Machine) → AllByRecursion HasNothing m.sessions → drained ns m ≡ m
drained_same [] m none = refl
drained_same (n ∷ ns) m none = ap (drained ns) (taken_same m n.number none) ∙ drained_same ns m none

pub drain_none : (ns : List Named) (m : Machine) → AllByRecursion HasNothing m.sessions → drain_output ns m ≡ []
drain_none [] m none = refl
drain_none (n ∷ ns) m none =
    ap (λ (ms : List Message). message_lines n.name ms ++ drain_output ns (taken m n.number)) (nothing_in m.sessions n.number none)
    ∙ ap (drain_output ns) (taken_same m n.number none) ∙ drain_none ns m none

-- ---- where one message does

-- the server where a message waits for a session
abbrev pub delivering : Machine → ℕ → Message → Machine
delivering m number message = with_list m (delivered number message m.sessions)

-- it is taken from that session
taken_there : (m : Machine) (number at : ℕ) (message : Message) → AllByRecursion HasNothing m.sessions → (at == number) ≡ true → taken (delivering m number message) at ≡ m
taken_there m number at message none here =
    ap (λ (k : ℕ). taken (delivering m number message) k) (eqb-true at number here) ∙ ap (with_list m) (delivered_taken m.sessions number message none)

-- and not from another
taken_elsewhere : (m : Machine) (number at : ℕ) (message : Message) → AllByRecursion HasNothing m.sessions → (at == number) ≡ false → taken (delivering m number message) at ≡ delivering m number message
taken_elsewhere m number at message none other =
    ap (with_list m) (emptied_same (delivered number message m.sessions) at (delivered_elsewhere m.sessions number at message other ∙ nothing_in m.sessions at none))

drained_next : (n : Named) (ns : List Named) (m : Machine) (number : ℕ) (message : Message) (b : Bool) → (n.number == number) ≡ b → AllByRecursion HasNothing m.sessions
    → has_number number (n ∷ ns) ≡ true → (has_number number ns ≡ true → drained ns (delivering m number message) ≡ m) → drained (n ∷ ns) (delivering m number message) ≡ m
drained_next n ns m number message true is none there more = ap (drained ns) (taken_there m number n.number message none is) ∙ drained_same ns m none
drained_next n ns m number message false is none there more =
    ap (drained ns) (taken_elsewhere m number n.number message none is) ∙ more (behind (n.number == number) (has_number number ns) is there)

-- afterwards none waits, and all else is as it was
pub drained_delivered : (ns : List Named) (m : Machine) (number : ℕ) (message : Message) → AllByRecursion HasNothing m.sessions → has_number number ns ≡ true → drained ns (delivering m number message) ≡ m
drained_delivered [] m number message none there = absurd (cc)
drained_delivered (n ∷ ns) m number message none there = drained_next n ns m number message (n.number == number) refl none there (drained_delivered ns m number message none)

-- the message on a line of some name
abbrev pub IsToldOnce : Message → List ℕ → Type 0
IsToldOnce message output = (name : List ℕ) × (output ≡ message_line name message)

there_delivered : (m : Machine) (number at : ℕ) (message : Message) → AllByRecursion HasNothing m.sessions → is_open number m.sessions ≡ true → (at == number) ≡ true
    → outbox_of (delivering m number message) at ≡ message ∷ []
there_delivered m number at message none opened here =
    ap (λ (k : ℕ). outbox_in k (delivered number message m.sessions)) (eqb-true at number here) ∙ delivered_there m.sessions number message none opened

output_next : (n : Named) (ns : List Named) (m : Machine) (number : ℕ) (message : Message) (b : Bool) → (n.number == number) ≡ b → AllByRecursion HasNothing m.sessions
    → is_open number m.sessions ≡ true → has_number number (n ∷ ns) ≡ true → (has_number number ns ≡ true → IsToldOnce message (drain_output ns (delivering m number message)))
    → IsToldOnce message (drain_output (n ∷ ns) (delivering m number message))
output_next n ns m number message true is none opened there more = (
  n.name,
  ap (λ (ms : List Message). message_lines n.name ms ++ drain_output ns (taken (delivering m number message) n.number)) (there_delivered m number n.number message none opened is)
      ∙ ap (λ (rest : Machine). message_lines n.name (message ∷ []) ++ drain_output ns rest) (taken_there m number n.number message none is)
      ∙ ap (λ (rest : List ℕ). message_lines n.name (message ∷ []) ++ rest) (drain_none ns m none)
      ∙ append-nil (message_lines n.name (message ∷ [])) ∙ append-nil (message_line n.name message),
)
output_next n ns m number message false is none opened there more =
    let rest = more (behind (n.number == number) (has_number number ns) is there) in (
      rest.0,
      ap (λ (ms : List Message). message_lines n.name ms ++ drain_output ns (taken (delivering m number message) n.number)) (delivered_elsewhere m.sessions number n.number message is ∙ nothing_in m.sessions n.number none)
          ∙ ap (drain_output ns) (taken_elsewhere m number n.number message none is) ∙ rest.1,
    )

-- and it was written once
pub drain_delivered : (ns : List Named) (m : Machine) (number : ℕ) (message : Message) → AllByRecursion HasNothing m.sessions → is_open number m.sessions ≡ true → has_number number ns ≡ true
    → IsToldOnce message (drain_output ns (delivering m number message))
drain_delivered [] m number message none opened there = absurd (cc)
drain_delivered (n ∷ ns) m number message none opened there = output_next n ns m number message (n.number == number) refl none opened there (drain_delivered ns m number message none opened)
