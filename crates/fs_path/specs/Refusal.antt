-- Why a text is no name, and which reason is told.
use Rattle.std.specs.Prelude.{Bool, List, [], ◌∷◌, Option, Some, None, Result, Ok, Err, if◌then◌else◌}
use Rattle.fs_path.specs.declared.error.PathError.{PathError}
use Rattle.fs_path.specs.declared.error.PathError.TheVariants.{BadPrefix, WrongDatabase, Parity, Empty, Reserved, Dots, TooLong, TooDeep, BadQuote, Memory}
use Rattle.fs_path.specs.declared.place.Rule.{Rule}
use Rattle.fs_path.specs.declared.place.Rule.TheVariants.{P}

-- the rule that a refusal tells, by its number; three carry a number of their own
abbrev pub rule_of : PathError → Option Rule
rule_of BadPrefix = Some (P 1 None)
rule_of WrongDatabase = Some (P 2 None)
rule_of Parity = Some (P 3 None)
rule_of Empty = Some (P 4 None)
rule_of Reserved = Some (P 5 None)
rule_of Dots = Some (P 6 None)
rule_of (TooLong n) = Some (P 7 (Some n))
rule_of (TooDeep n) = Some (P 8 (Some n))
rule_of (BadQuote n) = Some (P 9 (Some n))
rule_of (Memory e) = None

-- want of memory, which no text causes
abbrev pub IsMemory : PathError → Type 0
IsMemory (Memory e) = Unit {0}
IsMemory _ = ⊥

-- a value, or the first of the refusals that holds of it
abbrev pub unless_refused : {A : Type 0} → A → List (Bool × PathError) → Result A PathError
unless_refused a [] = Ok a
unless_refused a (test ∷ tests) = if test.0 then Err test.1 else unless_refused a tests
