-- A number of 64 bits as a text of its decimal digits: that of a write stream, and on a line of a script that of a commit.
-- (v1 reference: `stream_id`.)
--
--     "12", "0012"                             12
--     "", "-1", "+1", "1.0", or 21 digits      no number
use Rattle.std.specs.Prelude.{◌≡◌, ℕ, Bool, ◌&&◌, List, length, nat_le, nat_lt, ◌^◌, Option, Some, None, Result, Ok, decimal, option_and_then, if◌then◌else◌}
use Rattle.std.specs.Str.{all_ascii_digits}
use Rattle.std.specs.Str.Parse.{digits_value}
use Rattle.serde_json.specs.Data.{Data, string}
use Rattle.serde_json.specs.Find.{as_str}
use Rattle.fs_path.specs.declared.place.Rule.TheVariants.{G}
use Rattle.fs_json.specs.Answer.{or_fault}
use Rattle.fs_json.specs.declared.bad.Bad.{Bad}

-- the most digits that it may have: those of the largest number of 64 bits
abbrev pub max_digits : ℕ
max_digits = 20

-- 1 to max_digits digits, the first of which may be zeros
abbrev pub is_decimal : List ℕ → Bool
is_decimal text = nat_le 1 (length text) && (nat_le (length text) max_digits && all_ascii_digits text)

-- the number, if it is below this
abbrev pub if_below : ℕ → ℕ → Option ℕ
if_below limit n = if nat_lt n limit then Some n else None

-- the number that the digits write, if it fits 64 bits
abbrev pub number_in_text : List ℕ → Option ℕ
number_in_text text = if is_decimal text then if_below (2 ^ 64) (digits_value 10 text) else None

abbrev pub decimal_at : Data → List ℕ → Result ℕ Bad
decimal_at d place = or_fault G place (option_and_then number_in_text (as_str d))

-- a number is written without zeros in front
abbrev pub decimal_json : ℕ → Data
decimal_json n = string (decimal n)

-- the text of a number is read back, at any place
abbrev pub IsDecimalHeld : ℕ → Type 0
IsDecimalHeld n = (place : List ℕ) → decimal_at (decimal_json n) place ≡ Ok n
