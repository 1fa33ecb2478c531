-- Only private clauses cite this: which of its reads an id had made before. After it has read c/a, the collection x below it, and
-- c/a again, the last is marked: where that is taken back, c/a is held still.
use Rattle.std.specs.Prelude.{◌≡◌, ℕ, Bool, true, ◌≢◌, List, [], ◌∷◌, ◌++◌, map, Some}
use Rattle.std.specs.BTreeMap.{is_at}
use Rattle.std.specs.Map.{lookup}
use Rattle.std.specs.Ordering.{nat_cmp}
use Rattle.fs_locks.specs.Shares.{Shares}
use Rattle.fs_locks.specs.Spots.{Spot, is_among, is_at_spot}
use Rattle.fs_locks.specs.declared.held.Held.{Held}
use Rattle.fs_locks.specs.declared.reads.Noted.{Noted}

-- what was read
abbrev pub helds : List Noted → List Held
helds ns = map (λ n. n.share) ns

-- a mark tells whether one of those before stands where this does
abbrev pub IsMarked : List Held → Held → Bool → Type 0
IsMarked before h again = (s : Spot) → is_at_spot s h ≡ true → is_among s before ≡ again

-- each has its mark, behind these
abbrev pub AreMarked : List Held → List Noted → Type 0
AreMarked before [] = Unit {0}
AreMarked before (n ∷ ns) = IsMarked before n.share n.again × AreMarked (before ++ n.share ∷ []) ns

-- who stands there holds something
abbrev pub HoldSomething : Shares → Type 0
HoldSomething shares = (i : ℕ) → lookup (is_at (nat_cmp i)) shares ≢ Some []
