-- What was printed is read again, and a moment has one text of the printed form.
use Rattle.std.proofs.Common.{◌≡◌, ℕ, ◌/◌, ◌%◌, ◌<◌, ◌≤◌, true, List, Some, Ok, ap, ◌∙◌, arith, ℤ, pos, ◌*ℤ◌}
use Rattle.std.proofs.lemmas.Bool.Decides.{nat_tests}
use Rattle.std.specs.Int.{int_div_euclid}
use Rattle.jiff_core.proofs.SignedLemmas.{signed_arith}
use Rattle.jiff_core.proofs.CalendarLemmas.{days_in_month_bounds}
use Rattle.fs_time.specs.Moment.{IsMoment}
use Rattle.fs_time.specs.Calendar.{day_after_first}
use Rattle.fs_time.specs.Pieces.{Fit}
use Rattle.fs_time.specs.Stamp.{form, numbers, text_of, clock_nanos, nanos_of, is_on_calendar, most_decimals}
use Rattle.fs_time.specs.Rfc3339.{decimals, stamp_at, stamp_of_civil, time_text, time_of, micros_in, IsLeastExact, IsTextOfMoment}
use Rattle.fs_time.proofs.Calendar.{day_after_first_nth, year_bound}
use Rattle.fs_time.proofs.Rounding.{div_only}
use Rattle.fs_time.proofs.Stamp.{fitting, stamp_in-text}
use Rattle.fs_time.proofs.Moments.{since_first, since_first-parts, since_first-bound, stamp_of_civil-is, decimals_fit, decimals_most, decimals-least}

-- ---- what is printed of a moment

module _ (z : ℤ) (h : IsMoment z) where
  n : ℕ
  n = since_first z

  below : since_first z / 86_400_000_000 < 3_652_059
  below = omega (arith, since_first-bound z h)

  pub stamp_at-fit : Fit (form (stamp_at z).places (stamp_at z).offset.sign) (numbers (stamp_at z))
  stamp_at-fit =
      let d = day_after_first (since_first z / 86_400_000_000) in
      let nth = day_after_first_nth (since_first z / 86_400_000_000) in
      let day : d.day < 100 = omega (arith, nth.day.1, days_in_month_bounds (pos d.year) d.month) in
      let fraction = (decimals_fit (since_first z % 1_000_000) (omega arith)).0 in
      fitting (stamp_at z) (omega (arith, year_bound _ d nth below)) (omega (arith, nth.month.1)) day (omega arith) (omega arith) (omega arith) fraction (omega arith, (omega arith, tt))

  stamp_at-calendar : is_on_calendar (stamp_at z) ≡ true
  stamp_at-calendar =
      let nth = day_after_first_nth (since_first z / 86_400_000_000) in
      grind (arith, nat_tests, nth.month, nth.day)

  stamp_at-nanos : nanos_of (stamp_at z) ≡ z *ℤ pos 1000
  unfolding clock_nanos
  stamp_at-nanos =
      let nth = day_after_first_nth (since_first z / 86_400_000_000) in
      let value = (decimals_fit (since_first z % 1_000_000) (omega arith)).1 in
      omega (arith, signed_arith, nth.number, value, since_first-parts z h)

-- ---- what was printed is read again

micros_again : (z : ℤ) → IsMoment z → micros_in (time_text z) ≡ Some z
unfolding micros_in time_text
micros_again z h =
    let nanos = stamp_at-nanos z h in
    let exact : int_div_euclid (z *ℤ pos 1000) (pos 1000) ≡ z = div_only (z *ℤ pos 1000) z (omega (arith, signed_arith)) (omega (arith, signed_arith)) in
    let few : decimals (since_first z % 1_000_000) ≤ most_decimals = omega (arith, decimals_most (since_first z % 1_000_000)) in
    rw (stamp_in-text (stamp_at z) (stamp_at-fit z h) few, stamp_at-calendar z h) (rw (nanos, exact))

-- reading what was printed gives the same time
pub time_of-time_text : (z : ℤ) → IsMoment z → time_of (time_text z) ≡ Ok z
unfolding time_of
time_of-time_text z h = rw (micros_again z h, h)

-- ---- a time has one text of the printed form

same_places : (m a b : ℕ) → IsLeastExact m a → IsLeastExact m b → a ≡ b
same_places m a b (which, exact, least) (which', exact', least') = omega (arith, least b which' exact', least' a which exact)

pub stamp_once : (z : ℤ) (text : List ℕ) → IsMoment z → IsTextOfMoment z text → text ≡ time_text z
unfolding time_text
stamp_once z text h (dt, places, e, least, stamped) =
    let micros = dt.time.subsec_nanosecond / 1000 in
    let same : places ≡ decimals micros = same_places micros places (decimals micros) least (decimals-least micros (omega (arith, dt.time.subsec_in))) in
    stamped ∙ ap (λ (k : ℕ). text_of (stamp_of_civil dt k)) same ∙ ap text_of (stamp_of_civil-is z dt h e)
