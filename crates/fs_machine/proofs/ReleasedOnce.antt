-- A release before a pending commit is settled changes nothing of the one behind it: the two let out what the last alone lets out.
use Rattle.std.proofs.Common.{◌≡◌, ℕ, ℤ, ◌≤ℤ◌, Bool, true, false, List, [], ◌∷◌, ◌++◌, map, Some, None, refl, sym, ap, ◌∙◌, arith}
use Rattle.std.proofs.lemmas.Int.{ints}
use Rattle.std.proofs.lemmas.List.{append_assoc, append-nil}
use Rattle.fs_machine.specs.declared.unreleased.Unreleased.{Unreleased}
use Rattle.fs_machine.specs.Past.{is_pending}
use Rattle.fs_machine.specs.Release.{all_answered, as_committed, free_to, freed, joined, kept_back, released}
use Rattle.fs_machine.specs.State.{Machine}
use Rattle.fs_machine.specs.Stream.{Desk, desk_of, with_desk}
use Rattle.fs_machine.specs.UnreleasedRise.{RiseFrom, UnreleasedRise}
use Rattle.fs_machine.proofs.Moved.{accepted_goes, joined_more, none_freed, pending_stays}
use Rattle.fs_machine.proofs.Pending.{passes_it}
use Rattle.fs_machine.proofs.UnreleasedRise.{free_above}
use Rattle.fs_machine.proofs.Verdicts.{Verdict, mark_here, marked, marked_past, rise_marked}

-- ---- the lists

-- what was let out before and is let out now, what is kept back, and up to which time
abbrev Lists : Type 0
Lists = List Unreleased × List Unreleased × ℤ

abbrev let_go : ℤ → List Unreleased → List Unreleased → Lists
let_go last out us = (out ++ freed (free_to last us) us, kept_back (free_to last us) us, free_to last us)

goes_next : (u : Unreleased) (us out : List Unreleased) (last : ℤ) → is_pending u ≡ false → RiseFrom u.batch.time last us → let_go last out (u ∷ us) ≡ let_go last (out ++ u ∷ []) us
goes_next u us out last is rise =
    let to : free_to last (u ∷ us) ≡ free_to last us = rw is refl in
    let goes = accepted_goes (free_to last us) u is (free_above us u.batch.time last rise) in
    ap (λ t. (out ++ freed t (u ∷ us), kept_back t (u ∷ us), t)) to
    ∙ rw goes (ap (λ xs. (xs, kept_back (free_to last us) us, free_to last us)) (sym (append_assoc out (u ∷ []) (freed (free_to last us) us))))

pending_before : (u : Unreleased) (us : List Unreleased) (last : ℤ) → is_pending u ≡ true → free_to last (u ∷ us) ≤ℤ u.batch.time
pending_before u us last is = rw is (omega (arith, ints))

stays_first : (u : Unreleased) (us out : List Unreleased) (last : ℤ) → is_pending u ≡ true → RiseFrom u.batch.time last us → let_go last out (u ∷ us) ≡ (out, u ∷ us, free_to last (u ∷ us))
stays_first u us out last is rise =
    let to = free_to last (u ∷ us) in
    let before : to ≤ℤ u.batch.time = pending_before u us last is in
    let none = none_freed us u.batch.time last to rise before in
    rw (pending_stays to u is, none.0, none.1) (ap (λ xs. (xs, u ∷ us, to)) (append-nil out))

-- one is marked once these went, and they go again
abbrev again : ℤ → ℕ → Verdict → Lists → Lists
again last id v l = let_go last l.0 (marked id v l.1)

twice_next : (u : Unreleased) (us out : List Unreleased) (last : ℤ) (id : ℕ) (v : Verdict) (b : Bool) → is_pending u ≡ b → RiseFrom u.batch.time last us
    → ((more : List Unreleased) → again last id v (let_go last more us) ≡ let_go last more (marked id v us)) → again last id v (let_go last out (u ∷ us)) ≡ let_go last out (marked id v (u ∷ us))
twice_next u us out last id v true is rise more = ap (again last id v) (stays_first u us out last is rise)
twice_next u us out last id v false is rise more =
    ap (again last id v) (goes_next u us out last is rise) ∙ more (out ++ u ∷ [])
    ∙ sym (goes_next u (marked id v us) out last is (rise_marked us id v u.batch.time last rise))
    ∙ ap (let_go last out) (sym (mark_here id v u us (passes_it id u is)))

twice_none : (id : ℕ) (v : Verdict) (out : List Unreleased) (last : ℤ) → again last id v (let_go last out []) ≡ let_go last out (marked id v [])
twice_none id (Some results) out last = ap (λ xs. let_go last xs []) (append-nil out)
twice_none id None out last = ap (λ xs. let_go last xs []) (append-nil out)

twice : (us : List Unreleased) (from last : ℤ) (id : ℕ) (v : Verdict) → RiseFrom from last us → (out : List Unreleased) → again last id v (let_go last out us) ≡ let_go last out (marked id v us)
twice [] from last id v above out = twice_none id v out last
twice (u ∷ us) from last id v above out = twice_next u us out last id v (is_pending u) refl above.1 (twice us u.batch.time last id v above.1)

-- ---- the server

told_more : (xs ys : List Unreleased) (d : Desk) → all_answered (map as_committed (xs ++ ys)) d ≡ all_answered (map as_committed ys) (all_answered (map as_committed xs) d)
told_more [] ys d = refl
told_more (x ∷ xs) ys d = told_more xs ys _

abbrev pub marked_in : Machine → ℕ → Verdict → Machine
marked_in m id v = record m { past = marked_past m.past id v }

abbrev with_lists : Machine → Lists → Machine
with_lists m l = with_desk (record m { past = record m.past { history = joined m.past.history l.0; unreleased = l.1; released = l.2 } }) (all_answered (map as_committed l.0) (desk_of m))

pub released_once : (m : Machine) (id : ℕ) (v : Verdict) → UnreleasedRise m.past → released (marked_in (released m) id v) ≡ released (marked_in m id v)
released_once m id v above =
    let first = let_go m.past.last [] m.past.unreleased in
    let rest = let_go m.past.last [] (marked id v first.1) in
    let both : with_lists m (again m.past.last id v first) ≡ released (marked_in (released m) id v) = λ i.
    with_desk (record m { past = record m.past { history = joined_more first.0 rest.0 m.past.history i; unreleased = rest.1; released = rest.2 } }) (told_more first.0 rest.0 (desk_of m) i) in
    sym both ∙ ap (with_lists m) (twice m.past.unreleased m.past.released m.past.last id v above [])
