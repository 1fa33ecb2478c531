-- Always: what can be read begins no later than what is released.
use Rattle.std.specs.Prelude.{◌≤ℤ◌}
use Rattle.fs_machine.specs.Past.{Past}

abbrev pub FloorIsReleased : Past → Type 0
FloorIsReleased p = p.floor ≤ℤ p.released
