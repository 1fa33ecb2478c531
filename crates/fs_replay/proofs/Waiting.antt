-- What waits in outboxes, where one message at most does.
use Rattle.std.proofs.Common.{◌≡◌, ℕ, Bool, true, false, cond, List, [], ◌∷◌, ◌++◌, refl, sym, ap, subst}
use Rattle.std.specs.Prelude.{◌==◌, ◌||◌}
use Rattle.std.specs.List.{AllByRecursion}
use Rattle.fs_request.specs.declared.message.Message.{Message}
use Rattle.fs_machine.specs.Sessions.{emptied, outbox_in, delivered, owning, with_outbox, without}
use Rattle.fs_machine.specs.declared.session.Session.{Session}
use Rattle.fs_replay.specs.BetweenLines.{HasNothing, is_open}
use Rattle.fs_replay.proofs.Known.{apart}

-- ---- where nothing waits

nothing_next : (s : Session) (ss : List Session) (number : ℕ) (b : Bool) → HasNothing s → outbox_in number ss ≡ [] → cond b s.outbox (outbox_in number ss) ≡ []
nothing_next s ss number true none more = none
nothing_next s ss number false none more = more

pub nothing_in : (ss : List Session) (number : ℕ) → AllByRecursion HasNothing ss → outbox_in number ss ≡ []
nothing_in [] number all = refl
nothing_in (s ∷ ss) number all = nothing_next s ss number (s.number == number) all.0 (nothing_in ss number all.1)

emptied_next : (s : Session) (ss : List Session) (number : ℕ) (b : Bool) → cond b s.outbox (outbox_in number ss) ≡ [] → (outbox_in number ss ≡ [] → emptied number ss ≡ ss)
    → cond b (record s { outbox = [] } ∷ ss) (s ∷ emptied number ss) ≡ s ∷ ss
emptied_next s ss number true none more = ap (λ (ms : List Message). record s { outbox = ms } ∷ ss) (sym none)
emptied_next s ss number false none more = ap (λ (l : List Session). s ∷ l) (more none)

-- taking nothing changes nothing
pub emptied_same : (ss : List Session) (number : ℕ) → outbox_in number ss ≡ [] → emptied number ss ≡ ss
emptied_same [] number none = refl
emptied_same (s ∷ ss) number none = emptied_next s ss number (s.number == number) none (emptied_same ss number)

pub nothing_more : (ss : List Session) (number : ℕ) → AllByRecursion HasNothing ss → AllByRecursion HasNothing (ss ++ record { number = number; outbox = []; has_owned = false } ∷ [])
nothing_more [] number all = (refl, tt)
nothing_more (s ∷ ss) number all = (all.0, nothing_more ss number all.1)

left_next : (s : Session) (ss : List Session) (number : ℕ) (b : Bool) → HasNothing s → AllByRecursion HasNothing ss → AllByRecursion HasNothing (without number ss) → AllByRecursion HasNothing (cond b ss (s ∷ without number ss))
left_next s ss number true none all more = all
left_next s ss number false none all more = (none, more)

pub nothing_left : (ss : List Session) (number : ℕ) → AllByRecursion HasNothing ss → AllByRecursion HasNothing (without number ss)
nothing_left [] number all = tt
nothing_left (s ∷ ss) number all = left_next s ss number (s.number == number) all.0 all.1 (nothing_left ss number all.1)

-- a session that owns a stream from now on has none either
owning_next : (s : Session) (ss : List Session) (number : ℕ) (b : Bool) → AllByRecursion HasNothing (s ∷ ss) → AllByRecursion HasNothing (owning number ss)
    → AllByRecursion HasNothing (cond b (record s { has_owned = true } ∷ ss) (s ∷ owning number ss))
owning_next s ss number true all more = all
owning_next s ss number false all more = (all.0, more)

pub nothing_owning : (ss : List Session) (number : ℕ) → AllByRecursion HasNothing ss → AllByRecursion HasNothing (owning number ss)
nothing_owning [] number all = tt
nothing_owning (s ∷ ss) number all = owning_next s ss number (s.number == number) all (nothing_owning ss number all.1)

-- ---- where some wait for one session, and are taken

taken_all_next : (s : Session) (ss : List Session) (number : ℕ) (change : List Message → List Message) (b : Bool) → (s.number == number) ≡ b → HasNothing s → AllByRecursion HasNothing ss
    → AllByRecursion HasNothing (emptied number (with_outbox number change ss))
    → AllByRecursion HasNothing (emptied number (cond b (record s { outbox = change s.outbox } ∷ ss) (s ∷ with_outbox number change ss)))
taken_all_next s ss number change true is here all more = rw is (refl, all)
taken_all_next s ss number change false is here all more = rw is (here, more)

pub taken_all : (ss : List Session) (number : ℕ) (change : List Message → List Message) → AllByRecursion HasNothing ss → AllByRecursion HasNothing (emptied number (with_outbox number change ss))
taken_all [] number change all = tt
taken_all (s ∷ ss) number change all = taken_all_next s ss number change (s.number == number) refl all.0 all.1 (taken_all ss number change all.1)

pub taken_none : (ss : List Session) (number : ℕ) → AllByRecursion HasNothing ss → AllByRecursion HasNothing (emptied number ss)
taken_none ss number all = subst (AllByRecursion HasNothing) (sym (emptied_same ss number (nothing_in ss number all))) all

-- ---- where one message does

pub behind : (b c : Bool) → b ≡ false → (b || c) ≡ true → c ≡ true
behind true c is e = absurd (cc)
behind false c is e = e

delivered_next : (s : Session) (ss : List Session) (number : ℕ) (message : Message) (b : Bool) → (s.number == number) ≡ b → HasNothing s → is_open number (s ∷ ss) ≡ true
    → (is_open number ss ≡ true → outbox_in number (delivered number message ss) ≡ message ∷ [])
    → outbox_in number (cond b (record s { outbox = s.outbox ++ message ∷ [] } ∷ ss) (s ∷ delivered number message ss)) ≡ message ∷ []
delivered_next s ss number message true is none opened more = rw is (ap (λ (ms : List Message). ms ++ message ∷ []) none)
delivered_next s ss number message false is none opened more = rw is (more (behind (s.number == number) (is_open number ss) is opened))

-- a session that is open has the message
pub delivered_there : (ss : List Session) (number : ℕ) (message : Message) → AllByRecursion HasNothing ss → is_open number ss ≡ true → outbox_in number (delivered number message ss) ≡ message ∷ []
delivered_there [] number message all opened = absurd (cc)
delivered_there (s ∷ ss) number message all opened = delivered_next s ss number message (s.number == number) refl all.0 opened (delivered_there ss number message all.1)

other_next : (s : Session) (ss : List Session) (number other : ℕ) (message : Message) (b : Bool) → (s.number == number) ≡ b → (other == number) ≡ false
    → outbox_in other (delivered number message ss) ≡ outbox_in other ss
    → outbox_in other (cond b (record s { outbox = s.outbox ++ message ∷ [] } ∷ ss) (s ∷ delivered number message ss)) ≡ cond (s.number == other) s.outbox (outbox_in other ss)
other_next s ss number other message true is distinct more =
    let elsewhere : (s.number == other) ≡ false = apart s.number number other is distinct in
    rw elsewhere refl
other_next s ss number other message false is distinct more = ap (cond (s.number == other) s.outbox) more

-- and no other has
pub delivered_elsewhere : (ss : List Session) (number other : ℕ) (message : Message) → (other == number) ≡ false → outbox_in other (delivered number message ss) ≡ outbox_in other ss
delivered_elsewhere [] number other message distinct = refl
delivered_elsewhere (s ∷ ss) number other message distinct = other_next s ss number other message (s.number == number) refl distinct (delivered_elsewhere ss number other message distinct)

taken_next : (s : Session) (ss : List Session) (number : ℕ) (message : Message) (b : Bool) → (s.number == number) ≡ b → HasNothing s → emptied number (delivered number message ss) ≡ ss
    → emptied number (cond b (record s { outbox = s.outbox ++ message ∷ [] } ∷ ss) (s ∷ delivered number message ss)) ≡ s ∷ ss
taken_next s ss number message true is none more = rw is (ap (λ (ms : List Message). record s { outbox = ms } ∷ ss) (sym none))
taken_next s ss number message false is none more = rw is (ap (λ (l : List Session). s ∷ l) more)

-- where it is taken, all is as before
pub delivered_taken : (ss : List Session) (number : ℕ) (message : Message) → AllByRecursion HasNothing ss → emptied number (delivered number message ss) ≡ ss
delivered_taken [] number message all = refl
delivered_taken (s ∷ ss) number message all = taken_next s ss number message (s.number == number) refl all.0 (delivered_taken ss number message all.1)
