-- Which moment a text of RFC 3339 reads as, and the text that is printed of a moment, as `google.protobuf.Timestamp` in JSON.
use Rattle.std.specs.Prelude.{◌≡◌, ℕ, ◌-◌, ◌/◌, ◌%◌, ◌^◌, ◌≤◌, ◌⊎◌, ◌==◌, ◌&&◌, if◌then◌else◌, min, max, ℤ, pos, unsigned_abs, ◌-ℤ◌, ◌*ℤ◌, Option, Some, None, option_map, Result, Ok, Err, List, [], ◌∷◌, length}
use Rattle.std.specs.Char.{is_ascii_digit}
use Rattle.std.specs.List.{prefix_len}
use Rattle.std.specs.Int.{int_div_euclid}
use Rattle.jiff_core.specs.declared.civil.datetime.DateTime.{DateTime}
use Rattle.jiff_core.specs.DateTime.{civil_nanos}
use Rattle.fs_time.specs.declared.error.TimeError.{TimeError}
use Rattle.fs_time.specs.declared.error.TimeError.TheVariants.{BadText, OutOfRange, Memory}
use Rattle.fs_time.specs.Moment.{first_moment, is_moment}
use Rattle.fs_time.specs.Calendar.{day_after_first}
use Rattle.fs_time.specs.Pieces.{Numbers, ◌>>=◌, read}
use Rattle.fs_time.specs.Stamp.{Sign, utc, ahead, behind, Stamp, date_time, decimals_piece, offset_pieces, most_decimals, text_of, is_on_calendar, is_offset, nanos_of}

-- ---- reading

-- how many decimals a text begins with, none without a point: as many digits as follow it, at least 1 and at most 9
abbrev pub places_at : List ℕ → ℕ
places_at [] = 0
places_at (b ∷ rest) = if b == 46 then max 1 (min most_decimals (prefix_len is_ascii_digit rest)) else 0

-- whether a text begins with `Z`, `+` or `-`
abbrev pub sign_at : List ℕ → Option Sign
sign_at [] = None
sign_at (b ∷ rest) =
    if b == 90 then Some utc
    else (if b == 43 then Some ahead
    else (if b == 45 then Some behind
    else None))

-- the stamp of numbers, with so many decimals and that sign
abbrev pub stamp_by_numbers : (places : ℕ) (sign : Sign) → Numbers date_time → Numbers (decimals_piece places ∷ []) → Numbers (offset_pieces sign) → Stamp
stamp_by_numbers places sign (year, (month, (day, (hour, (minute, (second, end)))))) (fraction, end') (hours, (minutes, end'')) =
    record {
      year = year;
      month = month;
      day = day;
      hour = hour;
      minute = minute;
      second = second;
      places = places;
      fraction = fraction;
      offset = record { sign = sign; hours = hours; minutes = minutes };
    }

-- the stamp that all of a text is
unfoldable pub stamp_in : List ℕ → Option Stamp
stamp_in text = do
  front ← read date_time text
  let places = places_at front.1
  decimals ← read (decimals_piece places ∷ []) front.1
  sign ← sign_at decimals.1
  offset ← read (offset_pieces sign) decimals.1
  if length offset.1 == 0 then Some (stamp_by_numbers places sign front.0 decimals.0 offset.0) else None

-- the nanoseconds since 1970-01-01T00:00:00Z, if there is such a day and such a time of day
abbrev pub nanos_if_time : Stamp → Option ℤ
nanos_if_time p = if is_on_calendar p && is_offset p.offset then Some (nanos_of p) else None

-- the microseconds that a text shows, rounded down, if it shows a time
unfoldable pub micros_in : List ℕ → Option ℤ
micros_in text = option_map (λ n. int_div_euclid n (pos 1000)) (stamp_in text >>= nanos_if_time)

-- the moment of microseconds, where Firestore has it
abbrev pub moment_of : Option ℤ → Result ℤ TimeError
moment_of None = Err BadText
moment_of (Some z) = if is_moment z then Ok z else Err OutOfRange

-- the moment that a text reads as
unfoldable pub time_of : List ℕ → Result ℤ TimeError
time_of text = moment_of (micros_in text)

-- no memory was left
abbrev pub IsMemory : TimeError → Type 0
IsMemory BadText = ⊥
IsMemory OutOfRange = ⊥
IsMemory (Memory e) = Unit {0}

-- ---- printing

-- how many decimals are printed for the microseconds below a second
abbrev pub decimals : ℕ → ℕ
decimals micros = if micros == 0 then 0 else (if micros % 1000 == 0 then 3 else 6)

-- the stamp of the moment so many microseconds after the first
abbrev pub stamp_after_first : ℕ → Stamp
stamp_after_first n =
    let date = day_after_first (n / 86_400_000_000) in
    let micros = n % 1_000_000 in
    record {
      year = date.year;
      month = date.month;
      day = date.day;
      hour = n / 3_600_000_000 % 24;
      minute = n / 60_000_000 % 60;
      second = n / 1_000_000 % 60;
      places = decimals micros;
      fraction = micros / 10 ^ (6 - decimals micros);
      offset = record { sign = utc; hours = 0; minutes = 0 };
    }

-- the stamp of a moment
abbrev pub stamp_at : ℤ → Stamp
stamp_at z = stamp_after_first (unsigned_abs (z -ℤ first_moment))

-- the printed text of a moment
unfoldable pub time_text : ℤ → List ℕ
time_text z = text_of (stamp_at z)

-- the most bytes that a printed text has, as `2024-01-01T00:00:00.000001Z`
abbrev pub longest_text : ℕ
longest_text = 27

-- ---- what holds of a printed text

-- so many decimals of a second show these microseconds exactly
abbrev pub IsExact : ℕ → ℕ → Type 0
IsExact micros places = micros % 10 ^ (6 - places) ≡ 0

-- of 0, 3 and 6 decimals these are the least that are exact
abbrev pub IsLeastExact : ℕ → ℕ → Type 0
IsLeastExact micros places =
    ((places ≡ 0) ⊎ ((places ≡ 3) ⊎ (places ≡ 6))) × IsExact micros places
    × ((other : ℕ) → (other ≡ 0) ⊎ ((other ≡ 3) ⊎ (other ≡ 6)) → IsExact micros other → places ≤ other)

-- a date and time of the calendar, in UTC, with so many decimals
abbrev pub stamp_of_civil : DateTime → ℕ → Stamp
stamp_of_civil dt places =
    record {
      year = unsigned_abs dt.date.year;
      month = dt.date.month;
      day = dt.date.day;
      hour = dt.time.hour;
      minute = dt.time.minute;
      second = dt.time.second;
      places = places;
      fraction = dt.time.subsec_nanosecond / 1000 / 10 ^ (6 - places);
      offset = record { sign = utc; hours = 0; minutes = 0 };
    }

-- The text shows the date and time that the moment is in UTC, with the least decimals that are exact.
abbrev pub IsTextOfMoment : ℤ → List ℕ → Type 0
IsTextOfMoment z text =
    (dt : DateTime) × (places : ℕ) × (civil_nanos dt ≡ z *ℤ pos 1000)
    × IsLeastExact (dt.time.subsec_nanosecond / 1000) places × (text ≡ text_of (stamp_of_civil dt places))
