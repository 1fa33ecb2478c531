-- The numbers that a text shows, as jiff is given them, and the nanoseconds that it gives.
use Rattle.std.proofs.Common.{◌≡◌, ℕ, ◌+◌, ◌-◌, ◌*◌, ◌^◌, ◌<◌, ◌≤◌, ◌&&◌, nat_lt, nat_le, Bool, true, false, cond, Some, None, refl, sym, ap, ◌∙◌, arith, ℤ, pos, ◌+ℤ◌, ◌-ℤ◌, ◌*ℤ◌, ◌≤ℤ◌, unsigned_abs, to_z, w8, w16, w32}
use Rattle.jiff_core.specs.Date.{IsYmd}
use Rattle.std.proofs.lemmas.Nat.{pow-add}
use Rattle.std.proofs.Math.Nat.{pow-le-pow_right, mul-lt-mul_of_pos_right}
use Rattle.std.proofs.lemmas.Bool.Decides.{nat_tests}
use Rattle.std.proofs.lemmas.Int.{ints}
use Rattle.jiff_core.specs.Calendar.{IsDate, days_in_month, days_from_civil}
use Rattle.jiff_core.specs.Time.{IsTime, IsHms}
use Rattle.jiff_core.specs.DateTime.{civil_nanos}
use Rattle.jiff_core.specs.declared.civil.datetime.DateTime.{DateTime}
use Rattle.std.proofs.lemmas.Option.{none-some, same_Some}
use Rattle.jiff_core.proofs.SignedLemmas.{signed_arith}
use Rattle.fs_time.specs.Pieces.{Fit}
use Rattle.fs_time.specs.Stamp.{Stamp, most_decimals, form, numbers, clock_nanos, is_on_calendar}

-- decimals are less than a second
pub fraction_below : (k n : ℕ) → k ≤ 9 → n < 10 ^ k → n * 10 ^ (9 - k) < 1_000_000_000
fraction_below k n few small =
    let whole : 10 ^ 9 ≡ 10 ^ k * 10 ^ (9 - k) = let parts : 9 ≡ k + (9 - k) = omega arith in ap (λ j. 10 ^ j) parts ∙ pow-add 10 k (9 - k) in
    let some : 1 ≤ 10 ^ (9 - k) = pow-le-pow_right {n = 10} (omega arith) {i = 0} {j = 9 - k} (omega arith) in
    omega (arith, whole, mul-lt-mul_of_pos_right {k = 10 ^ (9 - k)} small some)

-- a clock's time, less its offset
pub less_offset : (on fine : Bool) (clock minutes s m r : ℤ) → Some s ≡ cond on (Some clock) None → Some m ≡ cond fine (Some minutes) None → r ≡ s -ℤ (m *ℤ pos 60_000_000_000) → Some r ≡ cond (on && fine) (Some (clock -ℤ (minutes *ℤ pos 60_000_000_000))) None
less_offset true true clock minutes s m r e f g =
    let same : s ≡ clock = same_Some s clock e in
    let also : m ≡ minutes = same_Some m minutes f in
    ap Some g ∙ rw (same, also) refl
less_offset false fine clock minutes s m r e f g = absurd (none-some s (sym e))
less_offset true false clock minutes s m r e f g = absurd (none-some m (sym f))

-- ---- what jiff's calendar and clock ask

abbrev Ranges : ℕ → ℕ → ℕ → ℕ → ℕ → ℕ → Type 0
Ranges month day last hour minute second = (1 ≤ month) × (month ≤ 12) × (1 ≤ day) × (day ≤ last) × (hour < 24) × (minute < 60) × (second < 60)

abbrev tests : ℕ → ℕ → ℕ → ℕ → ℕ → ℕ → Bool
tests month day last hour minute second = nat_le 1 month && nat_le month 12 && nat_le 1 day && nat_le day last && nat_lt hour 24 && nat_lt minute 60 && nat_lt second 60

in_ranges : (month day last hour minute second : ℕ) → Ranges month day last hour minute second → tests month day last hour minute second ≡ true
in_ranges month day last hour minute second (a, b, c, d, e, f, g) = grind (arith, nat_tests)

ranges_of : (month day last hour minute second : ℕ) → tests month day last hour minute second ≡ true → Ranges month day last hour minute second
ranges_of month day last hour minute second e = (grind (arith, nat_tests), grind (arith, nat_tests), grind (arith, nat_tests), grind (arith, nat_tests), grind (arith, nat_tests), grind (arith, nat_tests), grind (arith, nat_tests))

within : (low high n : ℕ) → low ≤ n → n ≤ high → (pos low ≤ℤ pos n) × (pos n ≤ℤ pos high)
within low high n least most = (omega (arith, signed_arith), omega (arith, signed_arith))

on_calendar : (p : Stamp) (subsec : ℕ) → p.year < 10_000 → subsec < 1_000_000_000 → is_on_calendar p ≡ true → IsDate (pos p.year) (pos p.month) (pos p.day) × IsTime (pos p.hour) (pos p.minute) (pos p.second) (pos subsec)
on_calendar p subsec year below e =
    let (m, m', d, d', h, i, s) = ranges_of p.month p.day (days_in_month (pos p.year) p.month) p.hour p.minute p.second e in
    (((omega (arith, signed_arith), omega (arith, signed_arith)), within 1 12 p.month m m', within 1 (days_in_month (pos p.year) p.month) p.day d d'), (within 0 23 p.hour (omega arith) (omega arith), within 0 59 p.minute (omega arith) (omega arith), within 0 59 p.second (omega arith) (omega arith), within 0 999_999_999 subsec (omega arith) (omega arith)))

-- ---- the numbers as jiff is given them, in signed types

-- what jiff's calendar and clock ask of them
abbrev pub OnCast : Stamp → ℕ → Type 0
OnCast p subsec =
    IsDate (to_z w16 p.year) (to_z w8 p.month) (to_z w8 p.day)
    × IsTime (to_z w8 p.hour) (to_z w8 p.minute) (to_z w8 p.second) (to_z w32 subsec)

-- what jiff says of the date and time
abbrev pub IsCast : Stamp → ℕ → DateTime → Type 0
IsCast p subsec dt =
    IsYmd (to_z w16 p.year) (to_z w8 p.month) (to_z w8 p.day) dt.date
    × IsHms (to_z w8 p.hour) (to_z w8 p.minute) (to_z w8 p.second) (to_z w32 subsec) dt.time

module _ (p : Stamp) (subsec : ℕ) (fit : Fit (form p.places p.offset.sign) (numbers p)) (below : subsec < 1_000_000_000) where
  year : to_z w16 p.year ≡ pos p.year
  year = omega (arith, ints, fit.0)

  month : to_z w8 p.month ≡ pos p.month
  month = omega (arith, ints, fit.1.0)

  day : to_z w8 p.day ≡ pos p.day
  day = omega (arith, ints, fit.1.1.0)

  hour : to_z w8 p.hour ≡ pos p.hour
  hour = omega (arith, ints, fit.1.1.1.0)

  minute : to_z w8 p.minute ≡ pos p.minute
  minute = omega (arith, ints, fit.1.1.1.1.0)

  second : to_z w8 p.second ≡ pos p.second
  second = omega (arith, ints, fit.1.1.1.1.1.0)

  nanos : to_z w32 subsec ≡ pos subsec
  nanos = omega (arith, ints)

  pub cast_true : OnCast p subsec → is_on_calendar p ≡ true
  cast_true h =
      let (date, clock) = rw (year, month, day, hour, minute, second, nanos) at h in
      in_ranges p.month p.day (days_in_month (pos p.year) p.month) p.hour p.minute p.second
      (omega (arith, signed_arith, date.1), omega (arith, signed_arith, date.1), omega (arith, signed_arith, date.2), omega (arith, signed_arith, date.2), omega (arith, signed_arith, clock.0), omega (arith, signed_arith, clock.1), omega (arith, signed_arith, clock.2))

  pub cast_false : ¬ (OnCast p subsec) → is_on_calendar p ≡ false
  cast_false not_on = go (is_on_calendar p) refl
    where
      go : (b : Bool) → is_on_calendar p ≡ b → b ≡ false
      go false e = refl
      go true e = absurd (not_on (rw (year, month, day, hour, minute, second, nanos) (on_calendar p subsec fit.0 below e)))

  pub cast_nanos : (dt : DateTime) → subsec ≡ p.fraction * 10 ^ (most_decimals - p.places) → IsCast p subsec dt → civil_nanos dt ≡ clock_nanos p
  unfolding civil_nanos clock_nanos
  cast_nanos dt e ((y, m, d), (h, i, s, n)) = λ j.
      days_from_civil ((y ∙ year) j) (unsigned_abs ((m ∙ month) j)) (unsigned_abs ((d ∙ day) j)) *ℤ pos 86_400_000_000_000
      +ℤ pos ((unsigned_abs ((h ∙ hour) j) * 3600 + unsigned_abs ((i ∙ minute) j) * 60 + unsigned_abs ((s ∙ second) j)) * 1_000_000_000 + (ap unsigned_abs (n ∙ nanos) ∙ e) j)
