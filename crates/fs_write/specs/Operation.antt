-- What each operation of a transform makes of a field, from the value that is there or none, and what is reported of it.
-- (v1 reference, "DocumentTransform.FieldTransform"; Cloud Firestore documentation, "Update elements in an array",
-- "Increment a numeric value", "Server timestamp".)
--
--     3      increment 4                    7, reported 7
--     "x"    increment 4                    4, reported 4
--     3      maximum 4                      4, reported 4
--     [1]    append missing 1, 2, 2         [1, 2], reported null
--     [1, 2, 1]    remove all 1             [2], reported null
use Rattle.std.specs.Prelude.{ℤ, pos, neg_ℤ, ◌+ℤ◌, ◌*ℤ◌, ◌≤ℤ◌, Option}
use Rattle.std.specs.Int.{int_max, int_min, int_div_euclid}
use Rattle.std.specs.Option.{option_map_or}
use Rattle.fs_value.specs.Data.{Data, null, integer, timestamp, array, items_of}
use Rattle.fs_edit.specs.Arrays.{elements_in, append_missing, remove_all}
use Rattle.fs_edit.specs.Numbers.{integer_in}
use Rattle.fs_write.specs.declared.transform.Operation.{Operation}
use Rattle.fs_write.specs.declared.transform.Operation.TheVariants.{RequestTime, Increment, Maximum, Minimum, AppendMissing, RemoveAll}

-- ---- numbers

-- the ends of an integer, which has 64 bits
abbrev pub least_integer : ℤ
least_integer = neg_ℤ (pos 9_223_372_036_854_775_808)

abbrev pub greatest_integer : ℤ
greatest_integer = pos 9_223_372_036_854_775_807

-- a number from one end to the other
abbrev pub IsInteger : ℤ → Type 0
IsInteger n = (least_integer ≤ℤ n) × (n ≤ℤ greatest_integer)

-- the integer nearest to a number
abbrev pub saturated : ℤ → ℤ
saturated n = int_max least_integer (int_min greatest_integer n)

-- the microseconds of a millisecond
abbrev pub millisecond : ℤ
millisecond = pos 1000

-- a time rounded down to milliseconds
abbrev pub whole_milliseconds : ℤ → ℤ
whole_milliseconds t = int_div_euclid t millisecond *ℤ millisecond

-- ---- operations

-- the value of a field after an operation at a time
abbrev pub value_after : Operation → ℤ → Option Data → Data
value_after RequestTime t there = timestamp (whole_milliseconds t)
value_after (Increment n) t there = integer (option_map_or (λ m. saturated (m +ℤ n)) (integer_in there) n)
value_after (Maximum n) t there = integer (option_map_or (λ m. int_max m n) (integer_in there) n)
value_after (Minimum n) t there = integer (option_map_or (λ m. int_min m n) (integer_in there) n)
value_after (AppendMissing ds) t there = array (items_of (append_missing (elements_in there) ds))
value_after (RemoveAll ds) t there = array (items_of (remove_all (elements_in there) ds))

-- what is reported of an operation that made this value
abbrev pub reported : Operation → Data → Data
reported RequestTime d = d
reported (Increment n) d = d
reported (Maximum n) d = d
reported (Minimum n) d = d
reported (AppendMissing ds) d = null
reported (RemoveAll ds) d = null
