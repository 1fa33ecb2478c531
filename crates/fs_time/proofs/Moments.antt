-- What a date and time of jiff's calendar shows is what is printed of its moment, with the least decimals that are exact.
use Rattle.std.proofs.Common.{◌≡◌, ℕ, ◌-◌, ◌*◌, ◌/◌, ◌%◌, ◌^◌, ◌<◌, ◌≤◌, refl, arith, ℤ, pos, negsuc, ◌+ℤ◌, ◌-ℤ◌, ◌*ℤ◌, ◌≤ℤ◌, unsigned_abs, Bool, true, false, cond, ◌==◌, eqb-true, inl, inr}
use Rattle.std.proofs.lemmas.Bool.{eqb-false}
use Rattle.std.proofs.lemmas.Int.{ints}
use Rattle.jiff_core.specs.declared.civil.time.Time.{Time}
use Rattle.jiff_core.specs.declared.civil.datetime.DateTime.{DateTime}
use Rattle.jiff_core.specs.Date.{epoch_day}
use Rattle.jiff_core.specs.Time.{time_nanos}
use Rattle.jiff_core.specs.DateTime.{civil_nanos}
use Rattle.jiff_core.proofs.SignedLemmas.{signed_arith}
use Rattle.jiff_core.proofs.DateTimeLemmas.{civil_nanos-parts, time_nanos_bound}
use Rattle.fs_time.specs.Moment.{first_moment, last_moment, IsMoment}
use Rattle.fs_time.specs.Stamp.{utc}
use Rattle.fs_time.specs.Rfc3339.{decimals, stamp_at, stamp_of_civil, IsLeastExact}
use Rattle.fs_time.proofs.Calendar.{same_day}

-- the microseconds since 0001-01-01T00:00:00Z
abbrev pub since_first : ℤ → ℕ
since_first z = unsigned_abs (z -ℤ first_moment)

from_zero : (w : ℤ) → pos 0 ≤ℤ w → pos (unsigned_abs w) ≡ w
from_zero (pos n) h = refl
from_zero (negsuc n) h = absurd (omega (arith, signed_arith, h))

-- a moment is between the first and the last
pub moment_range : (z : ℤ) → IsMoment z → (first_moment ≤ℤ z) × (z ≤ℤ last_moment)
moment_range z h = (grind (arith, ints), grind (arith, ints))

pub since_first-parts : (z : ℤ) → IsMoment z → pos (since_first z) ≡ z -ℤ first_moment
since_first-parts z h = from_zero (z -ℤ first_moment) (omega (arith, signed_arith, (moment_range z h).0))

pub since_first-bound : (z : ℤ) → IsMoment z → since_first z < 315_537_897_600_000_000
since_first-bound z h = omega (arith, signed_arith, since_first-parts z h, (moment_range z h).1)

-- whole days, and nanoseconds of the day
split_days : (z : ℤ) (dt : DateTime) → IsMoment z → civil_nanos dt ≡ z *ℤ pos 1000 → (epoch_day dt.date +ℤ pos 719_162 ≡ pos (since_first z / 86_400_000_000)) × (time_nanos dt.time ≡ since_first z % 86_400_000_000 * 1000)
split_days z dt h e = omega (arith, signed_arith, since_first-parts z h, civil_nanos-parts dt, time_nanos_bound dt.time)

-- the parts of a time of day
split_time : (t : Time) (n : ℕ) → time_nanos t ≡ n % 86_400_000_000 * 1000 → (t.hour ≡ n / 3_600_000_000 % 24) × (t.minute ≡ n / 60_000_000 % 60) × (t.second ≡ n / 1_000_000 % 60) × (t.subsec_nanosecond / 1000 ≡ n % 1_000_000)
split_time t n e = omega arith

pub stamp_of_civil-is : (z : ℤ) (dt : DateTime) → IsMoment z → civil_nanos dt ≡ z *ℤ pos 1000 → stamp_of_civil dt (decimals (dt.time.subsec_nanosecond / 1000)) ≡ stamp_at z
stamp_of_civil-is z dt h e =
    let days = split_days z dt h e in
    let date = same_day dt.date (since_first z / 86_400_000_000) (omega (arith, since_first-bound z h)) days.0 in
    let time = split_time dt.time (since_first z) days.1 in
    λ i. record {
      year = unsigned_abs (date.0 i);
      month = date.1 i;
      day = date.2 i;
      hour = time.0 i;
      minute = time.1 i;
      second = time.2 i;
      places = decimals (time.3 i);
      fraction = time.3 i / 10 ^ (6 - decimals (time.3 i));
      offset = record { sign = utc; hours = 0; minutes = 0 };
    }

-- ---- the decimals

pub decimals-least : (m : ℕ) → m < 1_000_000 → IsLeastExact m (decimals m)
decimals-least m below = go _ _ refl refl
  where
    go : (none three : Bool) → (m == 0) ≡ none → (m % 1000 == 0) ≡ three → IsLeastExact m (cond none 0 (cond three 3 6))
    go true three e f =
        let zero : m ≡ 0 = eqb-true _ _ e in
        (inl refl, rw zero refl, λ other which exact. omega arith)
    go false true e f = (
      inr (inl refl),
      eqb-true _ _ f,
      λ other which exact. elim which [
        | inl none ↦ absurd (eqb-false m 0 e (let whole : m % 1_000_000 ≡ 0 = rw none at exact in omega arith))
        | inr (inl three) ↦ omega arith
        | inr (inr six) ↦ omega arith
      ],
    )
    go false false e f = (
      inr (inr refl),
      omega arith,
      λ other which exact. elim which [
        | inl none ↦ absurd (eqb-false m 0 e (let whole : m % 1_000_000 ≡ 0 = rw none at exact in omega arith))
        | inr (inl three) ↦ absurd (eqb-false (m % 1000) 0 f (rw three at exact))
        | inr (inr six) ↦ omega arith
      ],
    )

pub decimals_fit : (m : ℕ) → m < 1_000_000 → (m / 10 ^ (6 - decimals m) < 10 ^ decimals m) × (m / 10 ^ (6 - decimals m) * 10 ^ (9 - decimals m) ≡ m * 1000)
decimals_fit m below = go _ _ refl refl
  where
    go : (none three : Bool) → (m == 0) ≡ none → (m % 1000 == 0) ≡ three
        → (m / 10 ^ (6 - cond none 0 (cond three 3 6)) < 10 ^ cond none 0 (cond three 3 6)) × (m / 10 ^ (6 - cond none 0 (cond three 3 6)) * 10 ^ (9 - cond none 0 (cond three 3 6)) ≡ m * 1000)
    go true three e f = let zero : m ≡ 0 = eqb-true _ _ e in (omega arith, omega arith)
    go false true e f = let whole : m % 1000 ≡ 0 = eqb-true _ _ f in (omega arith, omega arith)
    go false false e f = (omega arith, omega arith)

pub decimals_most : (m : ℕ) → decimals m ≤ 6
decimals_most m = grind arith
