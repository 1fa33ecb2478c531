-- The numbers of sessions rise in the order of opening, still, after each event.
use Rattle.std.proofs.Common.{◌≡◌, ℕ, ◌+◌, ◌≤◌, Bool, true, false, cond, List, [], ◌∷◌, ◌++◌, map, refl, sym, ap, subst, arith}
use Rattle.std.specs.Prelude.{◌==◌}
use Rattle.fs_request.specs.declared.message.Message.{Message}
use Rattle.fs_machine.specs.Sessions.{owning, with_outbox, without}
use Rattle.fs_machine.specs.SessionsNumbered.{NumbersRise, SessionsNumbered}
use Rattle.fs_machine.specs.declared.session.Session.{Session}

-- the numbers of sessions
abbrev pub numbers_of : List Session → List ℕ
numbers_of ss = map (λ s. s.number) ss

pub rise_within : (ns : List ℕ) (from to : ℕ) → NumbersRise from to ns → from ≤ to
rise_within [] from to rise = rise
rise_within (n ∷ ns) from to rise = let rest = rise_within ns (n + 1) to rise.1 in let first = rise.0 in omega arith

-- one more, with the number of the next
rise_more : (ss : List Session) (s : Session) (from to : ℕ) → s.number ≡ to → NumbersRise from to (numbers_of ss) → NumbersRise from (to + 1) (numbers_of (ss ++ s ∷ []))
rise_more [] s from to is rise = (omega (arith, is, rise), omega (arith, is))
rise_more (t ∷ ss) s from to is rise = (rise.0, rise_more ss s (t.number + 1) to is rise.1)

pub sessions_opened : (ss : List Session) (given : ℕ) → SessionsNumbered ss given → SessionsNumbered (ss ++ record { number = given; outbox = []; has_owned = false } ∷ []) (given + 1)
sessions_opened ss given rise = rise_more ss (record { number = given; outbox = []; has_owned = false }) 0 given refl rise

-- one less
pub rise_lower : (ns : List ℕ) (low from to : ℕ) → low ≤ from → NumbersRise from to ns → NumbersRise low to ns
rise_lower [] low from to lower rise = omega arith
rise_lower (n ∷ ns) low from to lower rise = let first = rise.0 in (omega (arith, first), rise.1)

less_next : (s : Session) (ss : List Session) (number from to : ℕ) (b : Bool) → from ≤ s.number → NumbersRise (s.number + 1) to (numbers_of ss) → NumbersRise (s.number + 1) to (numbers_of (without number ss))
    → NumbersRise from to (numbers_of (cond b ss (s ∷ without number ss)))
less_next s ss number from to true first rise more = rise_lower (numbers_of ss) from (s.number + 1) to (omega arith) rise
less_next s ss number from to false first rise more = (first, more)

rise_less : (ss : List Session) (number from to : ℕ) → NumbersRise from to (numbers_of ss) → NumbersRise from to (numbers_of (without number ss))
rise_less [] number from to rise = rise
rise_less (s ∷ ss) number from to rise = less_next s ss number from to (s.number == number) rise.0 rise.1 (rise_less ss number (s.number + 1) to rise.1)

pub sessions_departed : (ss : List Session) (number given : ℕ) → SessionsNumbered ss given → SessionsNumbered (without number ss) given
sessions_departed ss number given rise = rise_less ss number 0 given rise

-- other messages
same_next : (s : Session) (ss : List Session) (number : ℕ) (change : List Message → List Message) (b : Bool) → numbers_of (with_outbox number change ss) ≡ numbers_of ss
    → numbers_of (cond b (record s { outbox = change s.outbox } ∷ ss) (s ∷ with_outbox number change ss)) ≡ s.number ∷ numbers_of ss
same_next s ss number change true more = refl
same_next s ss number change false more = ap (λ ns. s.number ∷ ns) more

pub same_numbers : (ss : List Session) (number : ℕ) (change : List Message → List Message) → numbers_of (with_outbox number change ss) ≡ numbers_of ss
same_numbers [] number change = refl
same_numbers (s ∷ ss) number change = same_next s ss number change (s.number == number) (same_numbers ss number change)

-- as many, with the same numbers
pub sessions_same : (ss other : List Session) (given : ℕ) → numbers_of other ≡ numbers_of ss → SessionsNumbered ss given → SessionsNumbered other given
sessions_same ss other given same rise = subst (NumbersRise 0 given) (sym same) rise

pub sessions_changed : (ss : List Session) (number given : ℕ) (change : List Message → List Message) → SessionsNumbered ss given → SessionsNumbered (with_outbox number change ss) given
sessions_changed ss number given change rise = subst (NumbersRise 0 given) (sym (same_numbers ss number change)) rise

-- one owns a stream
owning_next : (s : Session) (ss : List Session) (number : ℕ) (b : Bool) → numbers_of (owning number ss) ≡ numbers_of ss
    → numbers_of (cond b (record s { has_owned = true } ∷ ss) (s ∷ owning number ss)) ≡ s.number ∷ numbers_of ss
owning_next s ss number true more = refl
owning_next s ss number false more = ap (λ ns. s.number ∷ ns) more

pub numbers_owning : (ss : List Session) (number : ℕ) → numbers_of (owning number ss) ≡ numbers_of ss
numbers_owning [] number = refl
numbers_owning (s ∷ ss) number = owning_next s ss number (s.number == number) (numbers_owning ss number)
