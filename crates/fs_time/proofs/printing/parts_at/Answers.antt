use Rattle.std.proofs.Common.{◌≡◌, ◌∙◌, sym, ap, arith, unsigned_abs, ◌/◌, pos, ◌*ℤ◌, w16, to_z, of_z}
use Rattle.std.proofs.lemmas.Int.{ints}
use Rattle.jiff_core.specs.DateTime.{civil_nanos}
use Rattle.fs_time.specs.Stamp.{utc, text_of}
use Rattle.fs_time.specs.Rfc3339.{decimals}
use Rattle.fs_time.proofs.Moments.{stamp_of_civil-is, decimals-least}
use Rattle.fs_time.proofs.printing.parts_at.Goals as goal

pub returns-clause-value : goal.returns-clause-value
returns-clause-value c =
    let dt = c.from_nanosecond_in_range.result in
    let nanos : civil_nanos dt ≡ c.args.t *ℤ pos 1000 = omega (arith, ints) in
    let is = stamp_of_civil-is c.args.t dt c.get.ensures.range nanos in
    let same : to_z w16 (of_z w16 dt.date.year) ≡ dt.date.year = omega (arith, ints) in
    let year : c.unsigned_abs.result ≡ unsigned_abs dt.date.year = c.unsigned_abs.ensures.value ∙ ap unsigned_abs same in
    (λ i. record {
      year = year i;
      month = dt.date.month;
      day = dt.date.day;
      hour = dt.time.hour;
      minute = dt.time.minute;
      second = dt.time.second;
      places = c.shortened-places.ensures.places i;
      fraction = c.shortened-places.ensures.fraction i;
      offset = record { sign = utc; hours = 0; minutes = 0 };
    }) ∙ is

pub returns-clause-shows : goal.returns-clause-shows
returns-clause-shows c =
    let dt = c.from_nanosecond_in_range.result in
    let nanos : civil_nanos dt ≡ c.args.t *ℤ pos 1000 = omega (arith, ints) in
    let micros = dt.time.subsec_nanosecond / 1000 in
    let same = returns-clause-value c ∙ sym (stamp_of_civil-is c.args.t dt c.get.ensures.range nanos) in
    (dt, decimals micros, nanos, decimals-least micros (omega (arith, dt.time.subsec_in)), ap text_of same)
