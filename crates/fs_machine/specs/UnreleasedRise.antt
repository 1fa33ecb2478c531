-- Always: the times of the commits that aren't released rise, from above what is released to the last that was issued.
use Rattle.std.specs.Prelude.{ℤ, ◌<ℤ◌, ◌≤ℤ◌, List, [], ◌∷◌}
use Rattle.fs_machine.specs.Past.{Past}
use Rattle.fs_machine.specs.declared.unreleased.Unreleased.{Unreleased}

-- above a time, each above the one before it, and none above another time
abbrev pub RiseFrom : ℤ → ℤ → List Unreleased → Type 0
RiseFrom from to [] = from ≤ℤ to
RiseFrom from to (u ∷ us) = (from <ℤ u.batch.time) × RiseFrom u.batch.time to us

abbrev pub UnreleasedRise : Past → Type 0
UnreleasedRise p = RiseFrom p.released p.last p.unreleased
