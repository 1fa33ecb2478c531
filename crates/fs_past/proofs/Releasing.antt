-- A release lets the accepted commits into the history before which none is pending, one after another.
use Rattle.std.proofs.Common.{◌≡◌, ℕ, ◌+◌, ◌-◌, ◌≤◌, ℤ, ◌≤ℤ◌, cond, List, [], ◌∷◌, length, map, Option, Some, None, refl, sym, ap, ◌∙◌, subst, arith}
use Rattle.std.specs.Prelude.{pos, ◌-ℤ◌, is_none}
use Rattle.std.specs.Option.{option_map, option_map_or}
use Rattle.std.proofs.lemmas.Int.{ints}
use Rattle.std.proofs.lemmas.Option.{same_Some}
use Rattle.fs_board.specs.Board.{all_ready, ready, rest_of}
use Rattle.fs_history.specs.Bytes.{batch_size}
use Rattle.fs_history.specs.History.{EndsBy}
use Rattle.fs_history.specs.declared.batch.Batch.{Batch}
use Rattle.fs_machine.specs.Release.{free_to, freed, joined, kept_back}
use Rattle.fs_machine.specs.UnreleasedRise.{RiseFrom}
use Rattle.fs_machine.specs.declared.unreleased.Unreleased.{Unreleased}
use Rattle.fs_machine.proofs.HistoryRises.{ends_before}
use Rattle.fs_machine.proofs.Moved.{accepted_goes, none_freed, pending_stays}
use Rattle.fs_machine.proofs.UnreleasedRise.{free_above}
use Rattle.fs_past.specs.declared.accepted.Accepted.{Accepted}
use Rattle.fs_past.specs.declared.holds.Holds.{Holds}
use Rattle.fs_past.specs.Kept.{AreHeld, AreNumbered, GoOn, HoldLess, all_history, all_unreleased, bytes_of, changes_of, kept_on_board, let_out_of}
use Rattle.fs_past.proofs.Holding.{held_behind}
use Rattle.fs_past.proofs.OnBoard.{Posted1, bytes_more, with_brought}

-- ---- it is the release of the machine

module _ (t : ℤ) (id : ℕ) (u : Unreleased) (cs : List Posted1) (h : List Batch) (last : ℤ) (above : RiseFrom u.batch.time last (all_unreleased cs))
    (more : (k : List Batch) → (joined k (freed (free_to last (all_unreleased cs)) (all_unreleased cs)) ≡ all_history k cs) × (kept_back (free_to last (all_unreleased cs)) (all_unreleased cs) ≡ all_unreleased (kept_on_board cs))) where
  moves_next : (o : Option Accepted) (to : ℤ) → to ≡ cond (is_none (option_map (λ (a : Accepted). a.results) o)) (u.batch.time -ℤ pos 1) (free_to last (all_unreleased cs))
      → (joined h (freed to (with_brought u o ∷ all_unreleased cs)) ≡ cond (is_none o) h (all_history (u.batch ∷ h) cs))
      × (kept_back to (with_brought u o ∷ all_unreleased cs) ≡ all_unreleased (cond (is_none o) (record { time = t; id = id; asked = u; batch = o } ∷ cs) (kept_on_board cs)))
  moves_next None to e =
      let none = none_freed (all_unreleased cs) u.batch.time last to above (omega (arith, ints)) in
      rw (pending_stays to (with_brought u None) refl, none.0, none.1) (refl, refl)
  moves_next (Some a) to e =
      let us = all_unreleased cs in
      let within : u.batch.time ≤ℤ to = subst (λ x. u.batch.time ≤ℤ x) (sym e) (free_above us u.batch.time last above) in
      rw (accepted_goes to (with_brought u (Some a)) refl within)
      (subst (λ x. (joined (u.batch ∷ h) (freed x us) ≡ all_history (u.batch ∷ h) cs) × (kept_back x us ≡ all_unreleased (kept_on_board cs))) (sym e) (more (u.batch ∷ h)))

pub moves : (cs : List Posted1) (from last : ℤ) → RiseFrom from last (all_unreleased cs) → (h : List Batch)
    → (joined h (freed (free_to last (all_unreleased cs)) (all_unreleased cs)) ≡ all_history h cs) × (kept_back (free_to last (all_unreleased cs)) (all_unreleased cs) ≡ all_unreleased (kept_on_board cs))
moves [] from last above h = (refl, refl)
moves (c ∷ cs) from last above h =
    moves_next c.time c.id c.asked cs h last above.1 (moves cs c.asked.batch.time last above.1) c.batch (free_to last (all_unreleased (c ∷ cs))) refl

-- ---- those that leave the board are those that are let out

module _ (u : Unreleased) (cs : List Posted1) (last : ℤ) (above : RiseFrom u.batch.time last (all_unreleased cs)) (more : let_out_of cs ≡ freed (free_to last (all_unreleased cs)) (all_unreleased cs)) where
  out_next : (o : Option Accepted) (to : ℤ) → to ≡ cond (is_none (option_map (λ (a : Accepted). a.results) o)) (u.batch.time -ℤ pos 1) (free_to last (all_unreleased cs))
      → map (λ (r : Unreleased × Accepted). with_brought r.0 (Some r.1)) (option_map_or (λ a. (u, a) ∷ all_ready cs) o []) ≡ freed to (with_brought u o ∷ all_unreleased cs)
  out_next None to e =
      let none = none_freed (all_unreleased cs) u.batch.time last to above (omega (arith, ints)) in
      rw (pending_stays to (with_brought u None) refl, none.0) refl
  out_next (Some a) to e =
      let us = all_unreleased cs in
      let within : u.batch.time ≤ℤ to = subst (λ x. u.batch.time ≤ℤ x) (sym e) (free_above us u.batch.time last above) in
      rw (accepted_goes to (with_brought u (Some a)) refl within)
      (ap (λ vs. with_brought u (Some a) ∷ vs) (more ∙ ap (λ x. freed x us) (sym e)))

pub lets_out : (cs : List Posted1) (from last : ℤ) → RiseFrom from last (all_unreleased cs) → let_out_of cs ≡ freed (free_to last (all_unreleased cs)) (all_unreleased cs)
lets_out [] from last above = refl
lets_out (c ∷ cs) from last above = out_next c.asked cs last above.1 (lets_out cs c.asked.batch.time last above.1) c.batch (free_to last (all_unreleased (c ∷ cs))) refl

-- ---- each is later than those before it

pub go_on : (cs : List Posted1) (h : List Batch) (from last : ℤ) → EndsBy h from → RiseFrom from last (all_unreleased cs) → GoOn h cs
go_on [] h from last ends above = tt
go_on (c ∷ cs) h from last ends above =
    let here : c.asked.batch.time ≤ℤ c.asked.batch.time = omega (arith, ints) in
    (ends_before h from c.asked.batch.time above.0 ends, go_on cs (c.asked.batch ∷ h) c.asked.batch.time last here above.1)

-- ---- one after another

-- the commits that are let in from here on, those that then stay, and what stands until then
pub record AreLetIn (h k : List Batch) (cs ds : List Posted1) (holds : Holds) (free bytes : ℕ) : Type 0 where
  pub history : all_history h cs ≡ k
  pub rest : kept_on_board cs ≡ ds
  pub room : length cs ≤ free
  pub times : GoOn h cs
  pub waiting : bytes ≡ bytes_of cs
  pub numbered : AreNumbered cs
  pub held : AreHeld holds cs

-- the first of them counts this
ready_next : (t : ℤ) (id : ℕ) (u : Unreleased) (o : Option Accepted) (cs : List Posted1) (x : ℤ × Unreleased × Accepted) → Some x ≡ option_map (λ a. (t, u, a)) o
    → bytes_of (record { time = t; id = id; asked = u; batch = o } ∷ cs) ≡ batch_size x.1.batch + bytes_of (cond (is_none o) (record { time = t; id = id; asked = u; batch = o } ∷ cs) cs)
ready_next t id u None cs x is = absurd (cc)
ready_next t id u (Some a) cs x is =
    bytes_more (record { time = t; id = id; asked = u; batch = Some a }) cs
    ∙ ap (λ (y : ℤ × Unreleased × Accepted). batch_size y.1.batch + bytes_of cs) (sym (same_Some x (t, u, a) is))

pub bytes_ready : (cs : List Posted1) (x : ℤ × Unreleased × Accepted) → Some x ≡ ready cs → bytes_of cs ≡ batch_size x.1.batch + bytes_of (rest_of cs)
bytes_ready [] x is = absurd (cc)
bytes_ready (c ∷ cs) x is = ready_next c.time c.id c.asked c.batch cs x is

module _ (h k : List Batch) (ds : List Posted1) (old new : Holds) (free bytes then_bytes : ℕ) where
  in_next : (t : ℤ) (id : ℕ) (u : Unreleased) (o : Option Accepted) (cs : List Posted1) (x : ℤ × Unreleased × Accepted) → Some x ≡ option_map (λ a. (t, u, a)) o
      → then_bytes ≡ bytes_of (cond (is_none o) (record { time = t; id = id; asked = u; batch = o } ∷ cs) cs) → HoldLess old new x.1.batch.id
      → AreLetIn h k (record { time = t; id = id; asked = u; batch = o } ∷ cs) ds old free bytes
      → AreLetIn (x.1.batch ∷ h) k (cond (is_none o) (record { time = t; id = id; asked = u; batch = o } ∷ cs) cs) ds new (free - 1) then_bytes
  in_next t id u None cs x is left but are = absurd (cc)
  in_next t id u (Some a) cs x is left but are =
      let c : Posted1 = record { time = t; id = id; asked = u; batch = Some a } in
      let same : x.1 ≡ u = ap (λ (y : ℤ × Unreleased × Accepted). y.1) (same_Some x (t, u, a) is) in
      let room = are.room in
      let whose : x.1.batch.id ≡ id = ap (λ (v : Unreleased). v.batch.id) same ∙ are.numbered.0 in
      subst (λ (v : Unreleased). AreLetIn (v.batch ∷ h) k cs ds new (free - 1) then_bytes) (sym same)
      (record {
        history = are.history;
        rest = are.rest;
        room = omega arith;
        times = are.times.1;
        waiting = left;
        numbered = are.numbered.2;
        held = held_behind old new c cs x.1.batch.id whose are.numbered.1 but are.held;
      })

  -- it is let in
  pub one_in : (cs : List Posted1) (x : ℤ × Unreleased × Accepted) → Some x ≡ ready cs → then_bytes ≡ bytes_of (rest_of cs) → HoldLess old new x.1.batch.id → AreLetIn h k cs ds old free bytes
      → AreLetIn (x.1.batch ∷ h) k (rest_of cs) ds new (free - 1) then_bytes
  one_in [] x is left but are = absurd (cc)
  one_in (c ∷ cs) x is left but are = in_next c.time c.id c.asked c.batch cs x is left but are

-- its changes come first
changes_next : (u : Unreleased) (t : ℤ) (id : ℕ) (o : Option Accepted) (cs : List Posted1) (x : ℤ × Unreleased × Accepted) → Some x ≡ option_map (λ a. (t, u, a)) o
    → map (λ (r : Unreleased × Accepted). r.1.change) (option_map_or (λ a. (u, a) ∷ all_ready cs) o []) ≡ x.2.change ∷ changes_of (cond (is_none o) (record { time = t; id = id; asked = u; batch = o } ∷ cs) cs)
changes_next u t id None cs x is = absurd (cc)
changes_next u t id (Some a) cs x is = ap (λ (y : ℤ × Unreleased × Accepted). y.2.change ∷ changes_of cs) (sym (same_Some x (t, u, a) is))

pub changes_ready : (cs : List Posted1) (x : ℤ × Unreleased × Accepted) → Some x ≡ ready cs → changes_of cs ≡ x.2.change ∷ changes_of (rest_of cs)
changes_ready [] x is = absurd (cc)
changes_ready (c ∷ cs) x is = changes_next c.asked c.time c.id c.batch cs x is
