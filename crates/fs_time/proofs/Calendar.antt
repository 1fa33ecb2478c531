-- The calendar, day after day, has the day numbers of jiff's.
use Rattle.std.proofs.Common.{◌≡◌, ℕ, zero, suc, ◌+◌, ◌<◌, ◌≤◌, Bool, true, false, nat_lt, cond, refl, arith, ℤ, pos, ◌+ℤ◌}
use Rattle.std.specs.Int.{IsInRange}
use Rattle.std.proofs.lemmas.Bool.{ltb-true, ltb-false}
use Rattle.std.proofs.lemmas.Int.{by_lt_z}
use Rattle.jiff_core.specs.Calendar.{days_in_month, days_from_civil}
use Rattle.jiff_core.specs.declared.civil.date.Date.{Date}
use Rattle.jiff_core.specs.Date.{epoch_day}
use Rattle.jiff_core.proofs.SignedLemmas.{signed_arith}
use Rattle.jiff_core.proofs.CalendarLemmas.{days_from_civil-day_count, day_count-lt_year, days_in_month_bounds}
use Rattle.jiff_core.proofs.MarchLemmas.{day_count-early}
use Rattle.jiff_core.proofs.DateLemmas.{days_from_civil-day, days_from_civil-next_month, days_from_civil-next_year, days_from_civil-max, epoch_day_injective}
use Rattle.fs_time.specs.Calendar.{Day, next_day, day_after_first}

-- the day number that jiff gives a day, counted from 1970-01-01
abbrev number_of : Day → ℤ
number_of d = days_from_civil (pos d.year) d.month d.day

-- the calendar has the day, and it is n days after 0001-01-01
pub record IsNth (n : ℕ) (d : Day) : Type 0 where
  pub year : 1 ≤ d.year
  pub month : IsInRange 1 12 d.month
  pub day : IsInRange 1 (days_in_month (pos d.year) d.month) d.day
  pub number : number_of d +ℤ pos 719_162 ≡ pos n

next_in_month : (n : ℕ) (d : Day) → IsNth n d → d.day < days_in_month (pos d.year) d.month → IsNth (suc n) (record { year = d.year; month = d.month; day = d.day + 1 })
next_in_month n d h more = record {
  year = h.year;
  month = h.month;
  day = (omega arith, omega arith);
  number = omega (arith, signed_arith, h.number, days_from_civil-day (pos d.year) d.month d.day (d.day + 1) h.day.0 (omega arith));
}

first_of_month : (n : ℕ) (d : Day) → IsNth n d → d.day ≡ days_in_month (pos d.year) d.month → d.month < 12 → IsNth (suc n) (record { year = d.year; month = d.month + 1; day = 1 })
first_of_month n d h last more = record {
  year = h.year;
  month = (omega arith, omega arith);
  day = (omega arith, omega (arith, days_in_month_bounds (pos d.year) (d.month + 1)));
  number = omega (arith, signed_arith, h.number, days_from_civil-next_month (pos d.year) d.month d.day h.month.0 last);
}

first_of_year : (n : ℕ) (d : Day) → IsNth n d → d.day ≡ 31 → d.month ≡ 12 → IsNth (suc n) (record { year = d.year + 1; month = 1; day = 1 })
first_of_year n d h day month = record {
  year = omega arith;
  month = (omega arith, omega arith);
  day = (omega arith, omega (arith, days_in_month_bounds (pos (d.year + 1)) 1));
  number =
      let number : days_from_civil (pos d.year) 12 31 +ℤ pos 719_162 ≡ pos n = rw (← month, ← day) h.number in
      omega (arith, signed_arith, number, days_from_civil-next_year (pos d.year) (pos (d.year + 1)) (omega (arith, signed_arith)) (omega (arith, signed_arith)));
}

next_nth : (n : ℕ) (d : Day) → IsNth n d → IsNth (suc n) (next_day d)
next_nth n d h = go _ _ refl refl
  where
    go : (more : Bool) (early : Bool) → nat_lt d.day (days_in_month (pos d.year) d.month) ≡ more → nat_lt d.month 12 ≡ early
        → IsNth (suc n) (cond more (record { year = d.year; month = d.month; day = d.day + 1 }) (cond early (record { year = d.year; month = d.month + 1; day = 1 }) (record { year = d.year + 1; month = 1; day = 1 })))
    go true early e f = next_in_month n d h (ltb-true _ _ e)
    go false true e f = first_of_month n d h (omega (arith, ltb-false, h.day.1)) (ltb-true _ _ f)
    go false false e f =
        let month : d.month ≡ 12 = omega (arith, ltb-false _ _ f, h.month.1) in
        let long : days_in_month (pos d.year) d.month ≡ 31 = rw month refl in
        first_of_year n d h (omega (arith, ltb-false _ _ e, h.day.1)) month

pub day_after_first_nth : (n : ℕ) → IsNth n (day_after_first n)
unfolding day_after_first
day_after_first_nth zero = record {
  year = omega arith;
  month = (omega arith, omega arith);
  day = (omega arith, omega (arith, days_in_month_bounds (pos 1) 1));
  number = omega (arith, signed_arith, days_from_civil-day_count (pos 1) 1 1, day_count-early (pos 1) 10000 1 1 refl (omega arith) (omega arith) (omega arith));
}
day_after_first_nth (suc n) = next_nth n (day_after_first n) (day_after_first_nth n)

-- the day before the year 10000
pub year_bound : (n : ℕ) (d : Day) → IsNth n d → n < 3_652_059 → d.year ≤ 9999
year_bound n d h below =
    by_lt_z (pos 9999) (pos d.year)
    (λ later. absurd (omega (arith, signed_arith, h.number, days_from_civil-max, days_from_civil-day_count, day_count-lt_year (pos 9999) 12 31 (pos d.year) d.month d.day ((omega (arith, signed_arith), omega (arith, signed_arith)), (omega arith, omega arith), (omega arith, omega arith)) h.day.0 later)))
    (λ le. omega (arith, signed_arith))

-- a date of jiff with that day number has the same year, month and day
pub same_day : (date : Date) (n : ℕ) → n < 3_652_059 → epoch_day date +ℤ pos 719_162 ≡ pos n → (date.year ≡ pos (day_after_first n).year) × (date.month ≡ (day_after_first n).month) × (date.day ≡ (day_after_first n).day)
same_day date n below e =
    let d = day_after_first n in
    let h = day_after_first_nth n in
    let year : d.year ≤ 9999 = year_bound n d h below in
    let own : Date = record { year = pos d.year; month = d.month; day = d.day; year_in = (omega (arith, signed_arith), omega (arith, signed_arith)); month_in = h.month; day_in = h.day } in
    epoch_day_injective date own (omega (arith, signed_arith, h.number))
