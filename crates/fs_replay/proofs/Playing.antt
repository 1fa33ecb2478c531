-- What was played so far, and what is to be played behind it.
use Rattle.std.proofs.Common.{◌≡◌, ℕ, Bool, true, false, cond, List, ◌++◌, append_assoc, arith, suc, ◌<◌, ◌-◌, ◌+◌, Some, drop, get_or, length, inl, inr, sym, ap, ◌∙◌, subst}
use Rattle.std.specs.Prelude.{◌||◌, is_some, nat_lt, slice_get}
use Rattle.std.proofs.lemmas.List.{append-nil, at_drop_more}
use Rattle.std.proofs.lemmas.Option.{slice_get_cases}
use Rattle.fs_replay.specs.Played.{Played, Plays, nothing, followed_by}
use Rattle.fs_machine.specs.Pending.{next_pending}
use Rattle.fs_machine.specs.State.{Machine}
use Rattle.fs_machine.specs.declared.parked_request.ParkedRequest.{ParkedRequest}
use Rattle.fs_replay.specs.Held.{held_among, held_line}
use Rattle.fs_replay.specs.Settling.{did_something, place_after, settling, tries, tries_from, turn}
use Rattle.fs_replay.specs.declared.directory.Named.{Named}
use Rattle.fs_replay.specs.declared.state.State.{State}
use Rattle.fs_replay.proofs.Falling.{turn_did}
use Rattle.fs_replay.proofs.Turns.{Settled, settling_step}

-- where this is played from a state on, all of it is: what was played so far, and the rest
pub record Goes (all : Played) (out now : List ℕ) (rest : Played) : Type 0 where
  pub state : rest.state ≡ all.state
  pub output : out ++ all.output ≡ now ++ rest.output

-- a part of the rest is played
pub goes_on : (all : Played) (out now next : List ℕ) (s : State) (first : Played) (more : State → Played) → Goes all out now (followed_by first more) → Plays first s now next → Goes all out next (more s)
goes_on all out now next s first more goes plays =
    record {
      state = ap (λ (t : State). (more t).state) plays.state ∙ goes.state;
      output =
          goes.output ∙ sym (append_assoc now first.output (more first.state).output)
          ∙ ap (λ o. o ++ (more first.state).output) (sym plays.output)
          ∙ ap (λ (t : State). next ++ (more t).output) (sym plays.state);
    }

-- nothing is left to be played
pub goes_to : (all : Played) (out now : List ℕ) (s : State) → Goes all out now (nothing s) → Plays all s out now
goes_to all out now s goes = record { state = goes.state; output = sym (append-nil now) ∙ sym goes.output }

-- ---- requests that are tried one after another

some_more : (n : ℕ) → 0 < n → n ≡ suc (n - 1)
some_more n some = omega (arith, some)

-- one more is tried
pub next_try : (all : Played) (out now next : List ℕ) (s t : State) (untried place : ℕ) → 0 < untried → Goes all out now (tries_from untried place s) → Plays (tries s place) t now next
    → Goes all out next (tries_from (untried - 1) (place_after s.server place) t)
next_try all out now next s t untried place some goes plays =
    let more : Goes all out now (tries_from (suc (untried - 1)) place s) = subst (λ n. Goes all out now (tries_from n place s)) (some_more untried some) goes in
    goes_on all out now next t (tries s place) (tries_from (untried - 1) (place_after s.server place)) more plays

-- ---- turns

behind_turn : (all : Played) (out now next : List ℕ) (s t : State) → Goes all out now (settling s) → Plays (turn s) t now next → Goes all out next (Settled s t)
behind_turn all out now next s t goes plays = goes_on all out now next t (turn s) (Settled s) (subst (Goes all out now) (settling_step s) goes) plays

-- a turn that did something, and the others behind it
pub next_turn : (all : Played) (out now next : List ℕ) (s t : State) → Goes all out now (settling s) → Plays (turn s) t now next → did_something s t ≡ true → Goes all out next (settling t)
next_turn all out now next s t goes plays did =
    subst (λ b. Goes all out next (cond b (settling t) (nothing t))) did (behind_turn all out now next s t goes plays)

-- and one that did nothing, which is the last
pub last_turn : (all : Played) (out now next : List ℕ) (s t : State) → Goes all out now (settling s) → Plays (turn s) t now next → did_something s t ≡ false → Plays all t out next
last_turn all out now next s t goes plays did =
    goes_to all out next t (subst (λ b. Goes all out next (cond b (settling t) (nothing t))) did (behind_turn all out now next s t goes plays))

-- whether it did
abbrev fewer : State → State → Bool
fewer s t = nat_lt (length t.server.parked) (length s.server.parked)

did_as : (s t : State) (settled : Bool) → t ≡ (turn s).state → settled ≡ is_some (next_pending s.server.past) → (settled || fewer s t) ≡ did_something s t
did_as s t settled is some =
    ap (λ b. b || fewer s t) some ∙ ap (λ (u : State). is_some (next_pending s.server.past) || fewer s u) is ∙ sym (turn_did s) ∙ ap (did_something s) (sym is)

pub did_settle : (s t : State) (settled : Bool) → t ≡ (turn s).state → settled ≡ is_some (next_pending s.server.past) → settled ≡ true → settled ≡ did_something s t
did_settle s t settled is some true_is = true_is ∙ sym (ap (λ b. b || fewer s t) true_is) ∙ did_as s t settled is some

pub did_try : (s t : State) (settled : Bool) (now waited : ℕ) → t ≡ (turn s).state → settled ≡ is_some (next_pending s.server.past) → settled ≡ false → now ≡ length t.server.parked → waited ≡ length s.server.parked
    → nat_lt now waited ≡ did_something s t
did_try s t settled now waited is some false_is here before =
    (λ i. nat_lt (here i) (before i)) ∙ sym (ap (λ b. b || fewer s t) false_is) ∙ did_as s t settled is some

-- ---- the requests that still wait

-- the one at a place
pub found_at : (rs : List ParkedRequest) (place : ℕ) → place < length rs → (r : ParkedRequest) × (slice_get rs place ≡ Some r) × (r ≡ get_or rs place r)
found_at rs place within =
    elim (slice_get_cases rs place).1
    [ inl h ↦ (h.0, h.2, sym h.3) | inr h ↦ absurd (omega (arith, within, h.0)) ]

-- one more is told
pub held_next : (ns : List Named) (m : Machine) (rs : List ParkedRequest) (place : ℕ) (r : ParkedRequest) (out next total : List ℕ) → place < length rs → r ≡ get_or rs place r
    → next ≡ out ++ held_line ns m r → out ++ held_among ns m (drop place rs) ≡ total → next ++ held_among ns m (drop (place + 1) rs) ≡ total
held_next ns m rs place r out next total within is told so_far =
    let rest = held_among ns m (drop (place + 1) rs) in
    let step : held_among ns m (drop place rs) ≡ held_line ns m r ++ rest = at_drop_more (held_among ns m) rs place r within ∙ ap (λ x. held_line ns m x ++ rest) (sym is) in
    ap (λ o. o ++ rest) told ∙ append_assoc out (held_line ns m r) rest ∙ ap (λ x. out ++ x) (sym step) ∙ so_far
