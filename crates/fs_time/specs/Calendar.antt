-- The Gregorian calendar, day after day.
use Rattle.std.specs.Prelude.{ℕ, zero, suc, ◌+◌, nat_lt, if◌then◌else◌, pos}
use Rattle.jiff_core.specs.Calendar.{days_in_month}

-- a day of the calendar
pub record Day : Type 0 where
  pub year : ℕ
  pub month : ℕ
  pub day : ℕ

-- the day after: the next of the month, or the first of the next month, or the first of the next year
abbrev pub next_day : Day → Day
next_day d =
    if nat_lt d.day (days_in_month (pos d.year) d.month)
    then record { year = d.year; month = d.month; day = d.day + 1 }
    else (if nat_lt d.month 12
    then record { year = d.year; month = d.month + 1; day = 1 }
    else record { year = d.year + 1; month = 1; day = 1 })

-- the day so many days after 0001-01-01
unfoldable pub day_after_first : ℕ → Day
day_after_first zero = record { year = 1; month = 1; day = 1 }
day_after_first (suc n) = next_day (day_after_first n)
