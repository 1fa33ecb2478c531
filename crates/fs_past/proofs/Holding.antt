-- The names that the commits on the board hold, as commits come, are accepted, and leave.
use Rattle.std.proofs.Common.{◌≡◌, ℕ, Bool, true, false, cond, List, [], ◌∷◌, ◌++◌, map, Option, Some, None, refl, sym, ap, ◌∙◌, subst}
use Rattle.std.specs.Prelude.{◌==◌, ◌&&◌, ◌||◌, IsTrue, not}
use Rattle.std.specs.List.{AllByRecursion, list_any}
use Rattle.std.proofs.Math.Bool.{and-false, or-false}
use Rattle.std.proofs.lemmas.Bool.{eqb-true}
use Rattle.std.proofs.lemmas.List.Folds.{list_any-append}
use Rattle.std.proofs.lemmas.Option.{same_Some}
use Rattle.fs_board.specs.Board.{HasNo, accepted_with, asked_in, time_in, without}
use Rattle.fs_board.specs.Rising.{Differ}
use Rattle.fs_locks.proofs.Ids.{apart_from, same_id}
use Rattle.fs_locks.specs.Holds.{is_held, is_in}
use Rattle.fs_path.specs.NameOrder.{name_eq}
use Rattle.fs_path.specs.declared.name.DocName.{DocName}
use Rattle.fs_write.specs.Batch.{Docs}
use Rattle.fs_write.specs.WrittenName.{is_written, written_name}
use Rattle.fs_write.specs.declared.write.Write.{Write}
use Rattle.fs_machine.specs.declared.unreleased.Unreleased.{Unreleased}
use Rattle.fs_past.specs.declared.accepted.Accepted.{Accepted}
use Rattle.fs_past.specs.declared.holds.Holds.{Holds}
use Rattle.fs_past.specs.Kept.{AreHeld, AreNumbered, HoldLess, Stands, is_late, writes_name}
use Rattle.fs_past.proofs.Naming.{turned}
use Rattle.fs_board.proofs.Keeping.{not_behind, not_there}
use Rattle.fs_past.proofs.OnBoard.{Posted1}

-- the names of writes are those that they write
pub in_written : (n : DocName) (ws : List Write) → is_in n (map written_name ws) ≡ is_written n ws
in_written n [] = refl
in_written n (w ∷ ws) = ap (λ b. b || is_in n (map written_name ws)) (turned n (written_name w)) ∙ ap (λ b. name_eq (written_name w) n || b) (in_written n ws)

-- this commit has an id and writes a name
abbrev writes_it : ℕ → DocName → Posted1 → Bool
writes_it i n c = c.id == i && is_written n c.asked.batch.writes

-- none that has no commit's id writes
none_writes : (i : ℕ) (n : DocName) (cs : List Posted1) → HasNo i cs → writes_name i n cs ≡ false
none_writes i n [] none = refl
none_writes i n (c ∷ cs) none =
    ap (λ b. (b && is_written n c.asked.batch.writes) || writes_name i n cs) (not_there (c.id == i) c.time (time_in i cs) none)
    ∙ none_writes i n cs (not_behind (c.id == i) c.time (time_in i cs) none)

-- ---- an id holds nothing more

-- the names of one commit less
behind_next : (c : Posted1) (cs : List Posted1) (i : ℕ) (n : DocName) (b : Bool) → (i == c.id) ≡ b → HasNo c.id cs → (not b && (writes_it i n c || writes_name i n cs)) ≡ writes_name i n cs
behind_next c cs i n true is none = sym (none_writes i n cs (subst (λ k. HasNo k cs) (sym (eqb-true i c.id is)) none))
behind_next c cs i n false is none = ap (λ b. (b && is_written n c.asked.batch.writes) || writes_name i n cs) (same_id c.id i ∙ is)

writes_behind : (c : Posted1) (cs : List Posted1) (i : ℕ) (n : DocName) → HasNo c.id cs → (not (i == c.id) && writes_name i n (c ∷ cs)) ≡ writes_name i n cs
writes_behind c cs i n none = behind_next c cs i n (i == c.id) refl none

less_late : (a late w : Bool) → (not a && (not late && w)) ≡ (not (not a && late) && (not a && w))
less_late true late w = refl
less_late false late w = refl

-- what is held of what other commits write
held_less : (old new : Holds) (id i : ℕ) (n : DocName) (was is : Bool) → HoldLess old new id → (not (i == id) && was) ≡ is → is_held old.locks.exclusive i n ≡ (not (is_late old.late i) && was)
    → is_held new.locks.exclusive i n ≡ (not (is_late new.late i) && is)
held_less old new id i n was is less left held =
    less.locks i n
    ∙ ap (λ b. not (i == id) && b) held
    ∙ less_late (i == id) (is_late old.late i) was
    ∙ ap (λ b. not b && (not (i == id) && was)) (sym (less.late i))
    ∙ ap (λ b. not (is_late new.late i) && b) left

-- the first commit leaves
pub held_behind : (old new : Holds) (c : Posted1) (cs : List Posted1) (id : ℕ) → id ≡ c.id → HasNo c.id cs → HoldLess old new id → AreHeld old (c ∷ cs) → AreHeld new cs
held_behind old new c cs id is none less held i n =
    held_less old new id i n (writes_name i n (c ∷ cs)) (writes_name i n cs) less
    (ap (λ (k : ℕ). not (i == k) && writes_name i n (c ∷ cs)) is ∙ writes_behind c cs i n none) (held i n)

less_by : (x y rest : Bool) (b : Bool) → (b ≡ true → x ≡ false) → ((x && y) || (not b && rest)) ≡ (not b && ((x && y) || rest))
less_by x y rest true none = ap (λ a. (a && y) || false) (none refl)
less_by x y rest false none = refl

less_next : (c : Posted1) (cs : List Posted1) (id i : ℕ) (n : DocName) (b : Bool) → (c.id == id) ≡ b → HasNo c.id cs → writes_name i n (without id cs) ≡ (not (i == id) && writes_name i n cs)
    → writes_name i n (cond b cs (c ∷ without id cs)) ≡ (not (i == id) && writes_name i n (c ∷ cs))
less_next c cs id i n true is none more = sym (writes_behind c cs i n none) ∙ ap (λ (k : ℕ). not (i == k) && writes_name i n (c ∷ cs)) (eqb-true c.id id is)
less_next c cs id i n false is none more =
    ap (λ b. writes_it i n c || b) more
    ∙ less_by (c.id == i) (is_written n c.asked.batch.writes) (writes_name i n cs) (i == id) (apart_from c.id id i is)

writes_less : (cs : List Posted1) (id i : ℕ) (n : DocName) → Differ cs → writes_name i n (without id cs) ≡ (not (i == id) && writes_name i n cs)
writes_less [] id i n differ = sym (and-false (not (i == id)))
writes_less (c ∷ cs) id i n differ = less_next c cs id i n (c.id == id) refl differ.0 (writes_less cs id i n differ.1)

-- the commit of an id is dropped
pub held_dropped : (old new : Holds) (cs : List Posted1) (id : ℕ) → Differ cs → HoldLess old new id → AreHeld old cs → AreHeld new (without id cs)
held_dropped old new cs id differ less held i n = held_less old new id i n (writes_name i n cs) (writes_name i n (without id cs)) less (sym (writes_less cs id i n differ)) (held i n)

-- ---- one is accepted

accepted_next : (c : Posted1) (cs more : List Posted1) (a : Accepted) (i : ℕ) (n : DocName) (b : Bool) → writes_name i n more ≡ writes_name i n cs
    → writes_name i n (cond b (record c { batch = Some a } ∷ cs) (c ∷ more)) ≡ writes_name i n (c ∷ cs)
accepted_next c cs more a i n true same = refl
accepted_next c cs more a i n false same = ap (λ b. writes_it i n c || b) same

writes_accepted : (cs : List Posted1) (id : ℕ) (a : Accepted) (i : ℕ) (n : DocName) → writes_name i n (accepted_with id a cs) ≡ writes_name i n cs
writes_accepted [] id a i n = refl
writes_accepted (c ∷ cs) id a i n = accepted_next c cs (accepted_with id a cs) a i n (c.id == id) (writes_accepted cs id a i n)

pub held_accepted : (holds : Holds) (cs : List Posted1) (id : ℕ) (a : Accepted) → AreHeld holds cs → AreHeld holds (accepted_with id a cs)
held_accepted holds cs id a held i n = held i n ∙ ap (λ b. not (is_late holds.late i) && b) (sym (writes_accepted cs id a i n))

-- ---- one comes

late_next : (cs : List Posted1) (c : Posted1) (i : ℕ) (n : DocName) (b : Bool) → (i == c.id) ≡ b → HasNo c.id cs → writes_name i n cs ≡ (not b && (writes_name i n cs || (writes_it i n c || false)))
late_next cs c i n true is none = none_writes i n cs (subst (λ k. HasNo k cs) (sym (eqb-true i c.id is)) none)
late_next cs c i n false is none = sym (ap (λ a. writes_name i n cs || ((a && is_written n c.asked.batch.writes) || false)) (same_id c.id i ∙ is) ∙ or-false (writes_name i n cs))

-- where none was late, the newest is late
pub held_late : (old : Holds) (cs : List Posted1) (c : Posted1) → old.late ≡ None → HasNo c.id cs → AreHeld old cs → AreHeld (record old { late = Some c.id }) (cs ++ c ∷ [])
held_late old cs c late none held i n =
    held i n
    ∙ ap (λ o. not (is_late o i) && writes_name i n cs) late
    ∙ late_next cs c i n (i == c.id) refl none
    ∙ ap (λ b. not (i == c.id) && b) (sym (list_any-append (writes_it i n) cs (c ∷ [])))

-- ---- what the commit of an id writes

own_next : (c : Posted1) (cs : List Posted1) (id : ℕ) (u : Unreleased) (n : DocName) (b : Bool) → (c.id == id) ≡ b → HasNo c.id cs
    → (asked_in id cs ≡ Some u → writes_name id n cs ≡ is_written n u.batch.writes) → cond b (Some c.asked) (asked_in id cs) ≡ Some u
    → ((b && is_written n c.asked.batch.writes) || writes_name id n cs) ≡ is_written n u.batch.writes
own_next c cs id u n true is none more at =
    ap (λ b. is_written n c.asked.batch.writes || b) (none_writes id n cs (subst (λ k. HasNo k cs) (eqb-true c.id id is) none))
    ∙ or-false (is_written n c.asked.batch.writes)
    ∙ ap (λ (v : Unreleased). is_written n v.batch.writes) (same_Some c.asked u at)
own_next c cs id u n false is none more at = more at

-- the commit of an id writes these names
pub writes_own : (cs : List Posted1) (id : ℕ) (u : Unreleased) (n : DocName) → Differ cs → asked_in id cs ≡ Some u → writes_name id n cs ≡ is_written n u.batch.writes
writes_own [] id u n differ at = absurd (cc)
writes_own (c ∷ cs) id u n differ at = own_next c cs id u n (c.id == id) refl differ.0 (writes_own cs id u n differ.1) at

unwritten_next : (c : Posted1) (cs : List Posted1) (id : ℕ) (n : DocName) (b : Bool) → (asked_in id cs ≡ None → writes_name id n cs ≡ false) → cond b (Some c.asked) (asked_in id cs) ≡ None
    → ((b && is_written n c.asked.batch.writes) || writes_name id n cs) ≡ false
unwritten_next c cs id n true more none = absurd (cc)
unwritten_next c cs id n false more none = more none

-- and one that isn't there writes none
pub writes_nothing : (cs : List Posted1) (id : ℕ) (n : DocName) → asked_in id cs ≡ None → writes_name id n cs ≡ false
writes_nothing [] id n none = refl
writes_nothing (c ∷ cs) id n none = unwritten_next c cs id n (c.id == id) (writes_nothing cs id n) none

-- ---- who writes one of these names: who holds one, or is late

pub none_at_all : {A : Type 0} (xs : List A) → list_any (λ x. false) xs ≡ false
none_at_all [] = refl
none_at_all (x ∷ xs) = none_at_all xs

module _ (holds : Holds) (cs : List Posted1) (held : AreHeld holds cs) (ws : List Write) (i : ℕ) where
  covered_by : (late : Bool) → is_late holds.late i ≡ late
      → list_any (λ w. writes_name i (written_name w) cs) ws ≡ (list_any (λ w. is_held holds.locks.exclusive i (written_name w)) ws || (late && list_any (λ w. writes_name i (written_name w) cs) ws))
  covered_by true is =
      sym (ap (λ b. b || list_any (λ w. writes_name i (written_name w) cs) ws)
      (ap (λ p. list_any p ws) (λ k w. (held i (written_name w) ∙ ap (λ b. not b && writes_name i (written_name w) cs) is) k) ∙ none_at_all ws))
  covered_by false is =
      sym (ap (λ b. b || false) (ap (λ p. list_any p ws) (λ k w. (held i (written_name w) ∙ ap (λ b. not b && writes_name i (written_name w) cs) is) k))
      ∙ or-false (list_any (λ w. writes_name i (written_name w) cs) ws))

  pub covered : list_any (λ w. writes_name i (written_name w) cs) ws
      ≡ (list_any (λ w. is_held holds.locks.exclusive i (written_name w)) ws || (is_late holds.late i && list_any (λ w. writes_name i (written_name w) cs) ws))
  covered = covered_by (is_late holds.late i) refl

-- the one that is late is none of them, where it writes none of the names
none_late_next : (writes : ℕ → Bool) (id by j : ℕ) (b : Bool) → (j == id) ≡ b → writes id ≡ false → IsTrue (b && writes j) → j ≡ by
none_late_next writes id by j true is none h = let nothing = ap writes (eqb-true j id is) ∙ none in absurd (cc)
none_late_next writes id by j false is none h = absurd (cc)

pub none_late : (writes : ℕ → Bool) (late : Option ℕ) (id by j : ℕ) → late ≡ Some id → writes id ≡ false → IsTrue (is_late late j && writes j) → j ≡ by
none_late writes late id by j is none h = none_late_next writes id by j (j == id) refl none (subst (λ o. IsTrue (is_late o j && writes j)) is h)

-- ---- their numbers

pub are_numbered : (docs : Docs) (cs : List Posted1) → AllByRecursion (Stands docs) cs → Differ cs → AreNumbered cs
are_numbered docs [] stand differ = tt
are_numbered docs (c ∷ cs) stand differ = (stand.0.id, differ.0, are_numbered docs cs stand.1 differ.1)
