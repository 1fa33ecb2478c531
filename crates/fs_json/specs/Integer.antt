-- Integers in JSON: 64-bit ones may be strings (proto3 JSON: `int64` is a string, and a JSON number is accepted too).
use Rattle.std.specs.Prelude.{ℕ, ℤ, pos, negsuc, neg_ℤ, Bool, ◌&&◌, List, drop, length, nat_le, nat_lt, ◌^◌, Option, Some, None, option_and_then, if◌then◌else◌}
use Rattle.std.specs.Fmt.{signed_decimal}
use Rattle.std.specs.Str.{all_ascii_digits}
use Rattle.std.specs.Str.Parse.{starts_with_minus, digits_value}
use Rattle.serde_json.specs.Data.{Data, null, boolean, number, string, array, object}
use Rattle.serde_json.specs.Find.{as_i64, of_integer}

-- a text without its `-`
abbrev pub without_minus : List ℕ → List ℕ
without_minus text = if starts_with_minus text then drop 1 text else text

-- the most digits that an integer in a string may have: those of the largest one
abbrev pub max_digits : ℕ
max_digits = 19

-- an optional `-`, and 1 to max_digits digits
abbrev pub is_numeral : List ℕ → Bool
is_numeral text = nat_le 1 (length (without_minus text)) && (nat_le (length (without_minus text)) max_digits && all_ascii_digits (without_minus text))

-- the number that it writes
abbrev pub signed_value : List ℕ → ℤ
signed_value text = if starts_with_minus text then neg_ℤ (pos (digits_value 10 (without_minus text))) else pos (digits_value 10 (without_minus text))

-- whether a number fits so many bits and its sign
abbrev pub fits_bits : ℕ → ℤ → Bool
fits_bits bits (pos n) = nat_lt n (2 ^ bits)
fits_bits bits (negsuc n) = nat_lt n (2 ^ bits)

-- the number, if it fits
abbrev pub if_fits : ℕ → ℤ → Option ℤ
if_fits bits z = if fits_bits bits z then Some z else None

-- what a numeral says, if it fits 64 bits, its sign included
abbrev pub integer_in_text : List ℕ → Option ℤ
integer_in_text text = if is_numeral text then if_fits 63 (signed_value text) else None

-- a 64-bit integer: a numeral in a string, or a JSON number that is an integer
abbrev pub integer_of : Data → Option ℤ
integer_of null = None
integer_of (boolean b) = None
integer_of (number n) = as_i64 n
integer_of (string text) = integer_in_text text
integer_of (array ds) = None
integer_of (object ms) = None

-- an integer of 32 bits, its sign included, is read the same way
abbrev pub small_of : Data → Option ℤ
small_of d = option_and_then (if_fits 31) (integer_of d)

-- a 64-bit integer as it is written
abbrev pub integer_json : ℤ → Data
integer_json n = string (signed_decimal n)

-- a 32-bit integer as it is written: a number
abbrev pub small_json : ℤ → Data
small_json n = number (of_integer n)
