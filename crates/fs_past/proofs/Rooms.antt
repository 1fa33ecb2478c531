-- No two of the commits that a release lets in change one name: so they have room where each name has it for one version.
use Rattle.std.proofs.Common.{◌≡◌, ℕ, ◌+◌, ◌≤◌, ℤ, Bool, true, false, cond, List, [], ◌∷◌, map, Option, Some, None, refl, ap, ◌∙◌, subst, arith}
use Rattle.std.specs.Prelude.{◌||◌, is_some}
use Rattle.std.specs.FinMap.{find, get}
use Rattle.std.specs.List.{All, AllByRecursion}
use Rattle.std.specs.Option.{option_map_or}
use Rattle.std.specs.Ordering.{eq_by_cmp}
use Rattle.std.proofs.lemmas.Bool.{or_parts}
use Rattle.fs_board.specs.Board.{all_ready}
use Rattle.fs_history.specs.declared.batch.Batch.{Batch}
use Rattle.fs_machine.specs.Behind.{write_same}
use Rattle.fs_machine.specs.NamesApart.{AreApart, IsApartFrom}
use Rattle.fs_machine.specs.Past.{batches}
use Rattle.fs_machine.specs.declared.unreleased.Unreleased.{Unreleased}
use Rattle.fs_path.specs.NameOrder.{name_cmp, name_is}
use Rattle.fs_path.specs.declared.name.DocName.{DocName}
use Rattle.fs_store.proofs.Rooms.{enough}
use Rattle.fs_store.specs.Room.{HasRoomFor, times_changed}
use Rattle.fs_versions.specs.Room.{HasRoom, Room}
use Rattle.fs_write.proofs.BatchLaws.{no_change, untouched}
use Rattle.fs_write.specs.Batch.{Docs, IsOutcome, change_of, changes_by_name}
use Rattle.fs_write.specs.WrittenName.{is_written, written_name}
use Rattle.fs_write.specs.declared.change.Change.{Change}
use Rattle.fs_write.specs.declared.write.Write.{Write}
use Rattle.fs_write.specs.declared.write_result.WriteResult.{WriteResult}
use Rattle.fs_past.specs.declared.accepted.Accepted.{Accepted}
use Rattle.fs_past.specs.Kept.{BringsEffects, Stands, all_unreleased, changes_of}
use Rattle.fs_past.proofs.OnBoard.{Posted1}

-- a name that some writes write isn't among those of others that write none of theirs
apart_next : (q : DocName) (w : Write) (ws vs : List Write) (b : Bool) → eq_by_cmp name_cmp (written_name w) q ≡ b → is_written (written_name w) vs ≡ false → is_written q vs ≡ true
    → is_written q ws ≡ false → b || is_written q ws ≡ false
apart_next q w ws vs true is apart at more = let same : is_written q vs ≡ false = subst (λ n. is_written n vs ≡ false) (name_is (written_name w) q is) apart in absurd (cc)
apart_next q w ws vs false is apart at more = more

unwritten : (q : DocName) (ws vs : List Write) → write_same ws vs ≡ false → is_written q vs ≡ true → is_written q ws ≡ false
unwritten q [] vs apart at = refl
unwritten q (w ∷ ws) vs apart at =
    let both = or_parts (is_written (written_name w) vs) (write_same ws vs) apart in
    apart_next q w ws vs (eq_by_cmp name_cmp (written_name w) q) refl both.0 at (unwritten q ws vs both.1 at)

-- the commits that write no such name
abbrev NoneWrites : DocName → List Posted1 → Type 0
NoneWrites q cs = AllByRecursion (λ b. is_written q b.writes ≡ false) (batches (all_unreleased cs))

none_behind : (q : DocName) (b : Batch) (cs : List Posted1) → is_written q b.writes ≡ true → AllByRecursion (IsApartFrom b) (batches (all_unreleased cs)) → NoneWrites q cs
none_behind q b [] at apart = tt
none_behind q b (c ∷ cs) at apart = (unwritten q c.asked.batch.writes b.writes apart.0 at, none_behind q b cs at apart.1)

module _ (docs : Docs) (q : DocName) where
  -- what isn't written isn't changed
  unchanged : (ws : List Write) (t : ℤ) (ds : List Change) (rs : List WriteResult) → IsOutcome docs ws t ds rs → is_written q ws ≡ false → find name_cmp q (changes_by_name ds) ≡ None
  unchanged ws t ds rs had apart =
      had.changed.told q ∙ ap (change_of q (get docs q)) (untouched ws docs [] t (had.after, rs) q apart had.done) ∙ no_change q (get docs q)

  -- how many of a commit and of those after it change the name
  abbrev times_from : Unreleased → Option Accepted → List Posted1 → ℕ
  times_from u o cs = times_changed q (map (λ (r : Unreleased × Accepted). r.1.change) (option_map_or (λ a. (u, a) ∷ all_ready cs) o []))

  not_here : (f : Option Change) (n : ℕ) → f ≡ None → cond (is_some f) 1 0 + n ≤ n
  not_here None n none = omega arith
  not_here (Some d) n none = absurd (cc)

  not_next : (u : Unreleased) (o : Option Accepted) (cs : List Posted1) → BringsEffects docs u o → is_written q u.batch.writes ≡ false → times_from u o cs ≤ times_changed q (changes_of cs)
  not_next u None cs brings apart = omega arith
  not_next u (Some a) cs brings apart =
      not_here (find name_cmp q (changes_by_name a.change.changes)) (times_changed q (changes_of cs)) (unchanged u.batch.writes u.batch.time a.change.changes a.results brings.1 apart)

  not_changed : (cs : List Posted1) → AllByRecursion (Stands docs) cs → NoneWrites q cs → times_changed q (changes_of cs) ≡ 0
  not_changed [] stand none = refl
  not_changed (c ∷ cs) stand none =
      let next = not_next c.asked c.batch cs stand.0.effects none.0 in let more = not_changed cs stand.1 none.1 in omega arith

  once_here : (f : Option Change) (n : ℕ) → n ≡ 0 → cond (is_some f) 1 0 + n ≤ 1
  once_here None n none = omega arith
  once_here (Some d) n none = omega arith

  once_next : (u : Unreleased) (o : Option Accepted) (cs : List Posted1) (b : Bool) → is_written q u.batch.writes ≡ b → BringsEffects docs u o → AllByRecursion (Stands docs) cs
      → AllByRecursion (IsApartFrom u.batch) (batches (all_unreleased cs)) → times_changed q (changes_of cs) ≤ 1 → times_from u o cs ≤ 1
  once_next u None cs true at brings stand apart more = omega arith
  once_next u (Some a) cs true at brings stand apart more =
      once_here (find name_cmp q (changes_by_name a.change.changes)) (times_changed q (changes_of cs)) (not_changed cs stand (none_behind q u.batch cs at apart))
  once_next u o cs false at brings stand apart more = let next = not_next u o cs brings at in omega arith

  once : (cs : List Posted1) → AllByRecursion (Stands docs) cs → AreApart (batches (all_unreleased cs)) → times_changed q (changes_of cs) ≤ 1
  once [] stand apart = omega arith
  once (c ∷ cs) stand apart = once_next c.asked c.batch cs (is_written q c.asked.batch.writes) refl stand.0.effects stand.1 apart.0 (once cs stand.1 apart.1)

pub room_for_ready : (docs : Docs) (cs : List Posted1) (room : Room) → AllByRecursion (Stands docs) cs → AreApart (batches (all_unreleased cs)) → All (λ c. HasRoom room 1 c.changes) (changes_of cs) → HasRoomFor room (changes_of cs)
room_for_ready docs cs room stand apart has q = enough room 1 (changes_of cs) q has (once docs q cs stand apart)
