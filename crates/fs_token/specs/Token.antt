-- Resume tokens (v1 reference, `Target.resumeToken`): which bytes a moment has, and which moment bytes have.
use Rattle.std.specs.Prelude.{ℕ, ◌==◌, if◌then◌else◌, ℤ, Result, Ok, Err, List, ◌++◌, length, drop, codes, nat_eq}
use Rattle.std.specs.List.{starts_with}
use Rattle.std.specs.Int.{w64, cast_signed, cast_unsigned, to_be_bytes, from_be_bytes}
use Rattle.fs_time.specs.Moment.{is_moment}
use Rattle.fs_token.specs.declared.error.TokenError.{TokenError}
use Rattle.fs_token.specs.declared.error.TokenError.TheVariants.{BadLength, BadMark, BadTime}

-- how many bytes a token has
abbrev pub token_length : ℕ
token_length = 12

-- what it begins with
abbrev pub mark : List ℕ
mark = codes "FSR1"

-- The token of a moment: the mark, and its microseconds since 1970 as a signed 64-bit number, the most significant byte
-- first. That of 1,704,067,200,000,001 is 46 53 52 31 00 06 0d d7 10 21 20 01.
unfoldable pub token_of : ℤ → List ℕ
token_of time = mark ++ to_be_bytes w64 (cast_unsigned w64 time)

-- the signed number that 8 bytes behind the mark show
abbrev pub number_in : List ℕ → ℤ
number_in bytes = cast_signed w64 (from_be_bytes w64 (drop 4 bytes))

-- the moment of a number of microseconds
abbrev pub time_of_number : ℤ → Result ℤ TokenError
time_of_number z = if is_moment z then Ok z else Err BadTime

-- The moment of bytes, or the first reason why they have none: their number, then the mark, then the time.
unfoldable pub time_in : List ℕ → Result ℤ TokenError
time_in bytes =
    if length bytes == token_length
    then (if starts_with nat_eq bytes mark then time_of_number (number_in bytes) else Err BadMark)
    else Err (BadLength (length bytes))
