-- The stamp of a time, as a text of RFC 3339 has it, 5.6: `2024-01-01T00:00:00.000001Z`, where the decimals may be left out, and where
-- `+01:00` or `-01:00` may stand for `Z`. As `google.protobuf.Timestamp` has them, `T` and `Z` are in upper case, and
-- there are at most 9 decimals.
use Rattle.std.specs.Prelude.{◌≡◌, ℕ, ◌+◌, ◌-◌, ◌*◌, ◌^◌, ◌≤◌, ◌==◌, if◌then◌else◌, Bool, ◌&&◌, nat_le, nat_lt, ℤ, pos, neg_ℤ, ◌+ℤ◌, ◌-ℤ◌, ◌*ℤ◌, ◌≤ℤ◌, ◌<ℤ◌, IsTrue, List, [], ◌∷◌, ◌++◌, codes}
use Rattle.jiff_core.specs.Calendar.{days_in_month, days_from_civil}
use Rattle.fs_time.specs.Pieces.{Piece, Numbers, Fit, printed}

-- whether the clock has UTC, or is ahead of it or behind it
pub data Sign : Type 0 where
  utc : Sign
  ahead : Sign
  behind : Sign

-- how far the clock is from UTC, which is 0 hours and 0 minutes at UTC
pub record Offset : Type 0 where
  pub sign : Sign
  pub hours : ℕ
  pub minutes : ℕ

pub record Stamp : Type 0 where
  pub year : ℕ
  pub month : ℕ
  pub day : ℕ
  pub hour : ℕ
  pub minute : ℕ
  pub second : ℕ
  -- how many decimals the second has, 0 where the text has no point
  pub places : ℕ
  -- those decimals, read as one number
  pub fraction : ℕ
  pub offset : Offset

-- the most decimals that a second has
abbrev pub most_decimals : ℕ
most_decimals = 9

-- ---- the text

abbrev pub piece : List ℕ → ℕ → Piece
piece bytes places = record { bytes = bytes; places = places }

-- `2024-01-01T00:00:00`
abbrev pub date_time : List Piece
date_time = piece [] 4 ∷ piece (codes "-") 2 ∷ piece (codes "-") 2 ∷ piece (codes "T") 2 ∷ piece (codes ":") 2 ∷ piece (codes ":") 2 ∷ []

-- `.000001`, or nothing
abbrev pub decimals_piece : ℕ → Piece
decimals_piece places = piece (if places == 0 then [] else codes ".") places

-- `Z`, or the `+01` of `+01:00`, or the `-01` of `-01:00`
abbrev pub hours_piece : Sign → Piece
hours_piece utc = piece (codes "Z") 0
hours_piece ahead = piece (codes "+") 2
hours_piece behind = piece (codes "-") 2

-- and what follows
abbrev pub minutes_piece : Sign → Piece
minutes_piece utc = piece [] 0
minutes_piece ahead = piece (codes ":") 2
minutes_piece behind = piece (codes ":") 2

-- `Z`, `+01:00` or `-01:00`
abbrev pub offset_pieces : Sign → List Piece
offset_pieces sign = hours_piece sign ∷ minutes_piece sign ∷ []

-- The pieces of a whole text. `2024-01-01T05:30:00.120+05:30` has 3 decimals and is ahead: its pieces are "" 4, "-" 2,
-- "-" 2, "T" 2, ":" 2, ":" 2, "." 3, "+" 2, ":" 2, and its numbers 2024, 1, 1, 5, 30, 0, 120, 5, 30.
abbrev pub form : ℕ → Sign → List Piece
form places sign = date_time ++ decimals_piece places ∷ offset_pieces sign

-- and the numbers in them
abbrev pub numbers : (p : Stamp) → Numbers (form p.places p.offset.sign)
numbers p = (p.year, (p.month, (p.day, (p.hour, (p.minute, (p.second, (p.fraction, (p.offset.hours, (p.offset.minutes, tt)))))))))

abbrev pub text_of : Stamp → List ℕ
text_of p = printed (form p.places p.offset.sign) (numbers p)

-- ---- the time

-- the calendar has the day, and a clock has the time
abbrev pub is_on_calendar : Stamp → Bool
is_on_calendar p =
    nat_le 1 p.month && nat_le p.month 12 && nat_le 1 p.day && nat_le p.day (days_in_month (pos p.year) p.month)
    && nat_lt p.hour 24 && nat_lt p.minute 60 && nat_lt p.second 60

-- hours to 23 and minutes to 59
abbrev pub is_offset : Offset → Bool
is_offset o = nat_lt o.hours 24 && nat_lt o.minutes 60

-- how many minutes the clock is ahead of UTC
abbrev pub minutes_ahead : Offset → ℤ
minutes_ahead o = elim o.sign [
  | utc ↦ pos 0
  | ahead ↦ pos (o.hours * 60 + o.minutes)
  | behind ↦ neg_ℤ (pos (o.hours * 60 + o.minutes))
]

-- the nanoseconds since 1970-01-01T00:00:00 on the clock of the stamp
unfoldable pub clock_nanos : Stamp → ℤ
clock_nanos p =
    days_from_civil (pos p.year) p.month p.day *ℤ pos 86_400_000_000_000
    +ℤ pos ((p.hour * 3600 + p.minute * 60 + p.second) * 1_000_000_000 + p.fraction * 10 ^ (most_decimals - p.places))

-- and since 1970-01-01T00:00:00Z
abbrev pub nanos_of : Stamp → ℤ
nanos_of p = clock_nanos p -ℤ (minutes_ahead p.offset *ℤ pos 60_000_000_000)

-- The text is that of a time whose day the calendar has, and whose time of day a clock has.
pub record IsTimeText (text : List ℕ) (p : Stamp) : Type 0 where
  pub stamped : text ≡ text_of p
  pub fit : Fit (form p.places p.offset.sign) (numbers p)
  pub places : p.places ≤ most_decimals
  pub calendar : IsTrue (is_on_calendar p)
  pub offset : IsTrue (is_offset p.offset)

-- the last microsecond that isn't after the time of a stamp
abbrev pub IsRoundedDown : Stamp → ℤ → Type 0
IsRoundedDown p z = ((z *ℤ pos 1000) ≤ℤ nanos_of p) × (nanos_of p <ℤ ((z +ℤ pos 1) *ℤ pos 1000))
