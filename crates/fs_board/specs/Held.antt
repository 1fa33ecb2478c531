-- Only the model of a board and private clauses cite this: what it is made of.
use Rattle.std.specs.Prelude.{◌≡◌, ℕ, ℤ, ◌<ℤ◌, ◌==◌, List, [], ◌∷◌, Option, Some, None, if◌then◌else◌}
use Rattle.std.specs.BTreeMap.{is_at}
use Rattle.std.specs.List.{AllByRecursion}
use Rattle.std.specs.Map.{lookup}
use Rattle.std.specs.Ordering.{nat_cmp}
use Rattle.fs_time.specs.Moment.{first_moment}
use Rattle.fs_board.specs.declared.entry.Entry.{Entry}
use Rattle.fs_board.specs.Board.{Commit, is_pending, time_in}
use Rattle.fs_board.specs.Rising.{RiseTo, Differ}

module _ {A B : Type 0} where
  -- what stands at the commit of an id
  abbrev pub entry_in : ℕ → List (Commit A B) → Option (Entry A B)
  entry_in id [] = None
  entry_in id (c ∷ cs) = if c.id == id then Some (record { id = c.id; asked = c.asked; batch = c.batch }) else entry_in id cs

  -- by id they have the times of these commits
  abbrev pub AreTimesOf : List (ℕ × ℤ) → List (Commit A B) → Type 0
  AreTimesOf times cs = (id : ℕ) → lookup (is_at (nat_cmp id)) times ≡ time_in id cs

  -- the time and the id of the first pending one
  abbrev pub first_pending_in : List (Commit A B) → Option (ℤ × ℕ)
  first_pending_in [] = None
  first_pending_in (c ∷ cs) = if is_pending c then Some (c.time, c.id) else first_pending_in cs

  pub record IsKept (cs : List (Commit A B)) (times : List (ℕ × ℤ)) (last : ℤ) : Type 0 where
    pub rise : RiseTo last cs
    pub differ : Differ cs
    pub stand : AreTimesOf times cs
    -- so there is a time before each
    pub late : AllByRecursion (λ c. first_moment <ℤ c.time) cs
