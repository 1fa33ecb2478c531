-- What emptying the outboxes of a directory's sessions leaves: all but their messages.
use Rattle.std.proofs.Common.{◌≡◌, ℕ, ◌+◌, ◌<◌, true, false, cond, List, [], ◌∷◌, refl, sym, ap, ◌∙◌, subst, arith}
use Rattle.std.specs.Prelude.{◌==◌, map}
use Rattle.std.specs.List.{AllByRecursion}
use Rattle.std.proofs.lemmas.Bool.{eq-eqb}
use Rattle.fs_machine.specs.Outbox.{taken}
use Rattle.fs_machine.specs.Sessions.{emptied}
use Rattle.fs_machine.specs.SessionsNumbered.{NumbersRise}
use Rattle.fs_machine.specs.State.{Machine}
use Rattle.fs_machine.specs.declared.session.Session.{Session}
use Rattle.fs_machine.proofs.SessionsNumbered.{numbers_of}
use Rattle.fs_replay.specs.BetweenLines.{HasNothing, numbers_in}
use Rattle.fs_replay.specs.Outboxes.{drained}
use Rattle.fs_replay.specs.declared.directory.Named.{Named}
use Rattle.fs_replay.proofs.Known.{below_apart}

-- sessions with no message left for those of a directory
abbrev pub all_taken : List Named → List Session → List Session
all_taken [] ss = ss
all_taken (n ∷ ns) ss = all_taken ns (emptied n.number ss)

pub drained_is : (ns : List Named) (m : Machine) → drained ns m ≡ record m { sessions = all_taken ns m.sessions }
drained_is [] m = refl
drained_is (n ∷ ns) m = drained_is ns (taken m n.number)

pub drained_past : (ns : List Named) (m : Machine) → (drained ns m).past ≡ m.past
drained_past ns m = ap (λ (n : Machine). n.past) (drained_is ns m)

pub drained_parked : (ns : List Named) (m : Machine) → (drained ns m).parked ≡ m.parked
drained_parked ns m = ap (λ (n : Machine). n.parked) (drained_is ns m)

-- ---- where the directory has all that are open, none has a message left

-- a session with none
abbrev quiet : Session → Session
quiet s = record s { outbox = [] }

-- those of later sessions are taken
others_taken : (ns : List Named) (s : Session) (ss : List Session) (from to : ℕ) → s.number < from → NumbersRise from to (numbers_in ns) → all_taken ns (s ∷ ss) ≡ s ∷ all_taken ns ss
others_taken [] s ss from to below rise = refl
others_taken (n ∷ ns) s ss from to below rise =
    let first = rise.0 in
    let other : (s.number == n.number) ≡ false = below_apart s.number n.number (omega (arith, below, first)) in
    ap (λ b. all_taken ns (cond b (quiet s ∷ ss) (s ∷ emptied n.number ss))) other
    ∙ others_taken ns s (emptied n.number ss) (n.number + 1) to (omega (arith, below, first)) rise.1

all_quiet : (ns : List Named) (ss : List Session) (from to : ℕ) → numbers_in ns ≡ numbers_of ss → NumbersRise from to (numbers_of ss) → all_taken ns ss ≡ map quiet ss
all_quiet [] [] from to same rise = refl
all_quiet [] (s ∷ ss) from to same rise = absurd (cc)
all_quiet (n ∷ ns) [] from to same rise = absurd (cc)
all_quiet (n ∷ ns) (s ∷ ss) from to same rise =
    let first : n.number ≡ s.number = cc in
    let rest : numbers_in ns ≡ numbers_of ss = cc in
    let here : (s.number == n.number) ≡ true = eq-eqb s.number n.number (sym first) in
    ap (λ b. all_taken ns (cond b (quiet s ∷ ss) (s ∷ emptied n.number ss))) here
    ∙ others_taken ns (quiet s) ss (s.number + 1) to (omega arith) (subst (NumbersRise (s.number + 1) to) (sym rest) rise.1)
    ∙ ap (λ l. quiet s ∷ l) (all_quiet ns ss (s.number + 1) to rest rise.1)

quiet_nothing : (ss : List Session) → AllByRecursion HasNothing (map quiet ss)
quiet_nothing [] = tt
quiet_nothing (s ∷ ss) = (refl, quiet_nothing ss)

pub drained_nothing : (ns : List Named) (m : Machine) (from to : ℕ) → numbers_in ns ≡ numbers_of m.sessions → NumbersRise from to (numbers_of m.sessions) → AllByRecursion HasNothing (drained ns m).sessions
drained_nothing ns m from to same rise =
    let is : (drained ns m).sessions ≡ map quiet m.sessions = ap (λ (n : Machine). n.sessions) (drained_is ns m) ∙ all_quiet ns m.sessions from to same rise in
    subst (AllByRecursion HasNothing) (sym is) (quiet_nothing m.sessions)
