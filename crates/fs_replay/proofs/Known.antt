-- The sessions of a directory are those that are open, in the order of opening: also after one more opens or one leaves.
use Rattle.std.proofs.Common.{◌≡◌, ℕ, ◌+◌, ◌<◌, ◌≤◌, Bool, true, false, cond, List, [], ◌∷◌, ◌++◌, Option, Some, None, refl, sym, ap, ◌∙◌, subst, arith}
use Rattle.std.specs.Prelude.{◌==◌, ◌&&◌, ◌||◌, is_none, is_some, not}
use Rattle.std.specs.List.{list_any, AllByRecursion}
use Rattle.std.specs.Str.{bytes_eq}
use Rattle.std.proofs.lemmas.Bool.{eq-eqb, or_left, or_right}
use Rattle.std.proofs.lemmas.Bool.Decides.{nat_tests}
use Rattle.std.proofs.lemmas.List.Folds.{list_any-append}
use Rattle.std.proofs.lemmas.Option.{same_Some}
use Rattle.fs_machine.specs.Leave.{is_own, of_others}
use Rattle.fs_machine.specs.Sessions.{without as without_session}
use Rattle.fs_machine.specs.SessionsNumbered.{NumbersRise}
use Rattle.fs_machine.specs.declared.parked_request.ParkedRequest.{ParkedRequest}
use Rattle.fs_machine.specs.declared.session.Session.{Session}
use Rattle.fs_machine.proofs.SessionsNumbered.{numbers_of}
use Rattle.fs_replay.specs.Directory.{number_of, without}
use Rattle.fs_replay.specs.BetweenLines.{is_asked, is_open, numbers_in}
use Rattle.fs_replay.specs.declared.directory.Named.{Named}

-- ---- the session of a name

-- a session of a directory
abbrev pub has_number : ℕ → List Named → Bool
has_number number ns = list_any (λ n. n.number == number) ns

known_next : (n : Named) (ns : List Named) (name : List ℕ) (number : ℕ) (b : Bool) → cond b (Some n.number) (number_of name ns) ≡ Some number → (number_of name ns ≡ Some number → has_number number ns ≡ true)
    → has_number number (n ∷ ns) ≡ true
known_next n ns name number true e more = or_left (n.number == number) (has_number number ns) (eq-eqb n.number number (same_Some n.number number e))
known_next n ns name number false e more = or_right (n.number == number) (has_number number ns) (more e)

-- a name's number is in the directory
pub known : (ns : List Named) (name : List ℕ) (number : ℕ) → number_of name ns ≡ Some number → has_number number ns ≡ true
known [] name number e = absurd (cc)
known (n ∷ ns) name number e = known_next n ns name number (bytes_eq n.name name) e (known ns name number)

-- and that of the last is
pub knows_it : (ns : List Named) (name : List ℕ) (number : ℕ) → has_number number (ns ++ record { name = name; number = number } ∷ []) ≡ true
knows_it ns name number =
    list_any-append (λ (n : Named). n.number == number) ns (record { name = name; number = number } ∷ [])
    ∙ or_right (has_number number ns) (has_number number (record { name = name; number = number } ∷ [])) (or_left (number == number) false (eq-eqb number number refl))

-- ---- which sessions are open hangs on their numbers alone

open_by_number : (ss : List Session) (number : ℕ) → is_open number ss ≡ list_any (λ k. k == number) (numbers_of ss)
open_by_number [] number = refl
open_by_number (s ∷ ss) number = ap (λ b. (s.number == number) || b) (open_by_number ss number)

pub known_by_number : (ns : List Named) (number : ℕ) → has_number number ns ≡ list_any (λ k. k == number) (numbers_in ns)
known_by_number [] number = refl
known_by_number (n ∷ ns) number = ap (λ b. (n.number == number) || b) (known_by_number ns number)

pub open_alike : (ss ts : List Session) (number : ℕ) → numbers_of ts ≡ numbers_of ss → is_open number ts ≡ is_open number ss
open_alike ss ts number same = open_by_number ts number ∙ ap (list_any (λ k. k == number)) same ∙ sym (open_by_number ss number)

-- what the script knows is open
pub known_open : (ns : List Named) (ss : List Session) (number : ℕ) → numbers_in ns ≡ numbers_of ss → has_number number ns ≡ true → is_open number ss ≡ true
known_open ns ss number same knows = open_by_number ss number ∙ sym (ap (list_any (λ k. k == number)) same) ∙ sym (known_by_number ns number) ∙ knows

-- that what waits is of a session that is open, or of a stream
abbrev pub OfOpen : List Session → List ParkedRequest → Type 0
OfOpen ss rs = AllByRecursion (λ r. is_asked ss r ≡ true) rs

pub of_open_alike : (ss ts : List Session) (rs : List ParkedRequest) → numbers_of ts ≡ numbers_of ss → OfOpen ss rs → OfOpen ts rs
of_open_alike ss ts [] same all = tt
of_open_alike ss ts (r ∷ rs) same all = (ap (λ b. is_some r.stream || b) (open_alike ss ts r.session same) ∙ all.0, of_open_alike ss ts rs same all.1)

-- ---- one session more

-- a session that has just opened
abbrev pub session_of : ℕ → Session
session_of number = record { number = number; outbox = []; has_owned = false }

pub known_more : (ns : List Named) (ss : List Session) (name : List ℕ) (number : ℕ) → numbers_in ns ≡ numbers_of ss
    → numbers_in (ns ++ record { name = name; number = number } ∷ []) ≡ numbers_of (ss ++ session_of number ∷ [])
known_more [] [] name number same = refl
known_more [] (s ∷ ss) name number same = absurd (cc)
known_more (n ∷ ns) [] name number same = absurd (cc)
known_more (n ∷ ns) (s ∷ ss) name number same =
    let first : n.number ≡ s.number = cc in
    let rest : numbers_in ns ≡ numbers_of ss = cc in
    λ i. first i ∷ known_more ns ss name number rest i

still_open : (ss : List Session) (number more : ℕ) → is_open number ss ≡ true → is_open number (ss ++ session_of more ∷ []) ≡ true
still_open ss number more opened =
    list_any-append (λ (s : Session). s.number == number) ss (session_of more ∷ []) ∙ or_left (is_open number ss) (is_open number (session_of more ∷ [])) opened

in_any_case : (b c d : Bool) → (c ≡ true → d ≡ true) → (b || c) ≡ true → (b || d) ≡ true
in_any_case true c d more is = refl
in_any_case false c d more is = more is

pub of_open_more : (ss : List Session) (number : ℕ) (rs : List ParkedRequest) → OfOpen ss rs → OfOpen (ss ++ session_of number ∷ []) rs
of_open_more ss number [] all = tt
of_open_more ss number (r ∷ rs) all = (
  in_any_case (is_some r.stream) (is_open r.session ss) (is_open r.session (ss ++ session_of number ∷ [])) (still_open ss r.session number) all.0,
  of_open_more ss number rs all.1,
)

-- ---- one less

pub apart : (a b c : ℕ) → (a == b) ≡ true → (c == b) ≡ false → (a == c) ≡ false
apart a b c is other = grind (arith, nat_tests)

open_without_next : (s : Session) (ss : List Session) (number other : ℕ) (b : Bool) → (s.number == number) ≡ b → (other == number) ≡ false → is_open other (without_session number ss) ≡ is_open other ss
    → is_open other (cond b ss (s ∷ without_session number ss)) ≡ is_open other (s ∷ ss)
open_without_next s ss number other true is distinct more = let elsewhere : (s.number == other) ≡ false = apart s.number number other is distinct in rw elsewhere refl
open_without_next s ss number other false is distinct more = ap (λ (c : Bool). (s.number == other) || c) more

-- another session stays open
open_without : (ss : List Session) (number other : ℕ) → (other == number) ≡ false → is_open other (without_session number ss) ≡ is_open other ss
open_without [] number other distinct = refl
open_without (s ∷ ss) number other distinct = open_without_next s ss number other (s.number == number) refl distinct (open_without ss number other distinct)

-- a request of another, or of a stream
asked_without : (ss : List Session) (number session : ℕ) (stream : Option ℕ) → ((session == number) && is_none stream) ≡ false
    → (is_some stream || is_open session ss) ≡ true → (is_some stream || is_open session (without_session number ss)) ≡ true
asked_without ss number session None other asked = open_without ss number session (sym (and_true (session == number)) ∙ other) ∙ asked where
  and_true : (b : Bool) → (b && true) ≡ b
  and_true true = refl
  and_true false = refl
asked_without ss number session (Some n) other asked = refl

others_next : (ss : List Session) (number : ℕ) (r : ParkedRequest) (rs : List ParkedRequest) (b : Bool) → is_own number r ≡ b → is_asked ss r ≡ true → OfOpen (without_session number ss) (of_others number rs)
    → OfOpen (without_session number ss) (cond (not b) (r ∷ of_others number rs) (of_others number rs))
others_next ss number r rs true is asked more = more
others_next ss number r rs false is asked more = (asked_without ss number r.session r.stream is asked, more)

-- so what stays is of one that is open, or of a stream
pub of_open_departed : (ss : List Session) (number : ℕ) (rs : List ParkedRequest) → OfOpen ss rs → OfOpen (without_session number ss) (of_others number rs)
of_open_departed ss number [] all = tt
of_open_departed ss number (r ∷ rs) all = others_next ss number r rs (is_own number r) refl all.0 (of_open_departed ss number rs all.1)

pub below_apart : (a b : ℕ) → a < b → (a == b) ≡ false
below_apart a b below = grind (arith, nat_tests)

found_next : (n : Named) (ns : List Named) (name : List ℕ) (number from : ℕ) (b : Bool) → from ≤ n.number → cond b (Some n.number) (number_of name ns) ≡ Some number
    → (number_of name ns ≡ Some number → n.number + 1 ≤ number) → from ≤ number
found_next n ns name number from true first e more = let is = same_Some n.number number e in omega (arith, first, is)
found_next n ns name number from false first e more = let rest = more e in omega (arith, first, rest)

found_above : (ns : List Named) (name : List ℕ) (number from to : ℕ) → NumbersRise from to (numbers_in ns) → number_of name ns ≡ Some number → from ≤ number
found_above [] name number from to rise e = absurd (cc)
found_above (n ∷ ns) name number from to rise e = found_next n ns name number from (bytes_eq n.name name) rise.0 e (found_above ns name number (n.number + 1) to rise.1)

departed_next : (n : Named) (ns : List Named) (s : Session) (ss : List Session) (name : List ℕ) (number to : ℕ) (b : Bool) → n.number ≡ s.number → numbers_in ns ≡ numbers_of ss
    → NumbersRise (s.number + 1) to (numbers_in ns) → cond b (Some n.number) (number_of name ns) ≡ Some number
    → (number_of name ns ≡ Some number → numbers_in (without name ns) ≡ numbers_of (without_session number ss))
    → numbers_in (cond b ns (n ∷ without name ns)) ≡ numbers_of (without_session number (s ∷ ss))
departed_next n ns s ss name number to true first rest rise e more =
    let here : (s.number == number) ≡ true = eq-eqb s.number number (sym first ∙ same_Some n.number number e) in
    rw here rest
departed_next n ns s ss name number to false first rest rise e more =
    let above : s.number + 1 ≤ number = found_above ns name number (s.number + 1) to rise e in
    let elsewhere : (s.number == number) ≡ false = below_apart s.number number (omega (arith, above)) in
    rw elsewhere (λ i. first i ∷ more e i)

-- where the session of a name leaves, the others stay
pub known_departed : (ns : List Named) (ss : List Session) (name : List ℕ) (number from to : ℕ) → numbers_in ns ≡ numbers_of ss → NumbersRise from to (numbers_of ss) → number_of name ns ≡ Some number
    → numbers_in (without name ns) ≡ numbers_of (without_session number ss)
known_departed [] ss name number from to same rise e = absurd (cc)
known_departed (n ∷ ns) [] name number from to same rise e = absurd (cc)
known_departed (n ∷ ns) (s ∷ ss) name number from to same rise e =
    let first : n.number ≡ s.number = cc in
    let rest : numbers_in ns ≡ numbers_of ss = cc in
    departed_next n ns s ss name number to (bytes_eq n.name name) first rest (subst (NumbersRise (s.number + 1) to) (sym rest) rise.1) e
    (λ behind. known_departed ns ss name number (s.number + 1) to rest rise.1 behind)
