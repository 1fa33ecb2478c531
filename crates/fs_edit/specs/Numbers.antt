-- The numbers that are looked up in fields.
use Rattle.std.specs.Prelude.{ℤ, Option, Some, None}
use Rattle.fs_value.specs.Data.{Data, integer}

-- the integer that is there
abbrev pub integer_in : Option Data → Option ℤ
integer_in (Some (integer n)) = Some n
integer_in there = None
