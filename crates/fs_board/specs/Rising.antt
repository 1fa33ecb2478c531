-- Always: the times of the commits rise, none is above the last that was issued, and no two commits have the same id.
use Rattle.std.specs.Prelude.{ℤ, ◌<ℤ◌, ◌≤ℤ◌, List, [], ◌∷◌}
use Rattle.std.specs.List.{AllByRecursion}
use Rattle.fs_board.specs.Board.{Commit, Posted, HasNo}

module _ {A B : Type 0} where
  -- each is above those before it, and at most another time
  abbrev pub RiseTo : ℤ → List (Commit A B) → Type 0
  RiseTo to [] = Unit {0}
  RiseTo to (c ∷ cs) = (c.time ≤ℤ to) × AllByRecursion (λ d. c.time <ℤ d.time) cs × RiseTo to cs

  -- no two have the same id
  abbrev pub Differ : List (Commit A B) → Type 0
  Differ [] = Unit {0}
  Differ (c ∷ cs) = HasNo c.id cs × Differ cs

pub record IsRising {A B : Type 0} (p : Posted A B) : Type 0 where
  pub times : RiseTo p.last p.commits
  pub ids : Differ p.commits
