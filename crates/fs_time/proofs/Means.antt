-- What each answer says of the text that was read.
use Rattle.std.proofs.Common.{◌≡◌, ℕ, ◌&&◌, Bool, true, false, cond, List, Option, Some, None, option_and_then, Result, Ok, Err, IfOk, IfErr, refl, sym, ap, ◌∙◌, subst, ℤ, pos}
use Rattle.std.proofs.lemmas.Bool.{false≢true}
use Rattle.std.proofs.lemmas.Option.{none-some}
use Rattle.std.specs.Int.{int_div_euclid}
use Rattle.fs_time.specs.declared.error.TimeError.{TimeError}
use Rattle.fs_time.specs.declared.error.TimeError.TheVariants.{BadText, OutOfRange, Memory}
use Rattle.fs_time.specs.Moment.{is_moment, IsMoment}
use Rattle.fs_time.specs.Stamp.{Stamp, nanos_of, is_on_calendar, is_offset, IsTimeText, IsRoundedDown}
use Rattle.fs_time.specs.Rfc3339.{time_text, time_of, stamp_in, micros_in, moment_of, nanos_if_time, IsMemory, IsTextOfMoment}
use Rattle.fs_time.proofs.Chains.{cond_some, then_some, map_some}
use Rattle.fs_time.proofs.Rounding.{div_down, div_only}
use Rattle.fs_time.proofs.RoundTrip.{stamp_once}
use Rattle.fs_time.proofs.Stamp.{stamp_in-sound, stamp_in-text}

-- ---- what is read shows the time that it is read as

micros_of-text : (text : List ℕ) (p : Stamp) → IsTimeText text p → micros_in text ≡ Some (int_div_euclid (nanos_of p) (pos 1000))
unfolding micros_in
micros_of-text text p h = rw (h.stamped, stamp_in-text p h.fit h.places, h.calendar, h.offset)

micros_in-shows : (text : List ℕ) (z : ℤ) → micros_in text ≡ Some z → (p : Stamp) × IsTimeText text p × IsRoundedDown p z
unfolding micros_in
micros_in-shows text z e =
    map_some _ (option_and_then nanos_if_time (stamp_in text)) z e λ n led same.
    then_some nanos_if_time (stamp_in text) n led λ p read led₁.
    let (time, same₁) = cond_some (is_on_calendar p && is_offset p.offset) (nanos_of p) n led₁ in
    let (fit, few, stamped) = stamp_in-sound text p read in
    let is : int_div_euclid (nanos_of p) (pos 1000) ≡ z = rw same₁ same in
    let (calendar, offset) = both_true (is_on_calendar p) (is_offset p.offset) time in
    (p, record { stamped = stamped; fit = fit; places = few; calendar = calendar; offset = offset }, subst (IsRoundedDown p) is (div_down (nanos_of p)))
  where
    both_true : (a b : Bool) → (a && b) ≡ true → (a ≡ true) × (b ≡ true)
    both_true true true e = (refl, refl)
    both_true true false e = absurd (false≢true e)
    both_true false b e = absurd (false≢true e)

-- ---- when each answer comes

abbrev pub IsOutside : List ℕ → Type 0
IsOutside text = (p : Stamp) × (z : ℤ) × IsTimeText text p × IsRoundedDown p z × ¬ (IsMoment z)

-- what is known of each answer
abbrev pub Means : List ℕ → Result ℤ TimeError → Type 0
Means text (Ok z) = (p : Stamp) × IsTimeText text p × IsRoundedDown p z × IsMoment z
Means text (Err BadText) = (p : Stamp) → ¬ (IsTimeText text p)
Means text (Err OutOfRange) = IsOutside text
Means text (Err (Memory e)) = ⊥

time_of-means : (text : List ℕ) → Means text (time_of text)
unfolding time_of
time_of-means text = go (micros_in text) refl
  where
    in_range : (z : ℤ) → micros_in text ≡ Some z → (b : Bool) → is_moment z ≡ b → Means text (cond b (Ok z) (Err OutOfRange))
    in_range z read true e =
        let (p, shows, rounded) = micros_in-shows text z read in
        (p, shows, rounded, e)
    in_range z read false e =
        let (p, shows, rounded) = micros_in-shows text z read in
        (p, z, shows, rounded, (λ h. cc (e, h)))

    go : (o : Option ℤ) → micros_in text ≡ o → Means text (moment_of o)
    go None read = λ p shows. none-some _ (sym read ∙ micros_of-text text p shows)
    go (Some z) read = in_range z read _ refl

-- a text that shows a time isn't bad, and one that shows a time outside of the range is out of range
outside_is : (text : List ℕ) → IsOutside text → time_of text ≡ Err OutOfRange
unfolding time_of
outside_is text (p, z, shows, rounded, outside) =
    let same : int_div_euclid (nanos_of p) (pos 1000) ≡ z = div_only (nanos_of p) z rounded.0 rounded.1 in
    let read : micros_in text ≡ Some z = micros_of-text text p shows ∙ ap Some same in
    rw read (go (is_moment z) refl)
  where
    go : (b : Bool) → is_moment z ≡ b → cond b (Ok z) (Err OutOfRange) ≡ Err OutOfRange
    go true e = absurd (outside (e))
    go false e = refl

-- the same of a result that is what the text reads as
pub means : (text : List ℕ) (r : Result ℤ TimeError) → r ≡ time_of text → Means text r
means text r e = subst (Means text) (sym e) (time_of-means text)

pub found : (text : List ℕ) (r : Result ℤ TimeError) → Means text r → IfOk r (λ z. (p : Stamp) × IsTimeText text p × IsRoundedDown p z)
found text (Ok z) (p, shows, rounded, moment) = (p, shows, rounded)
found text (Err e) m = tt

pub no_memory : (text : List ℕ) (r : Result ℤ TimeError) → Means text r → IfErr r (λ e. ¬ (IsMemory e))
no_memory text (Ok z) m = tt
no_memory text (Err BadText) m = λ h. h
no_memory text (Err OutOfRange) m = λ h. h
no_memory text (Err (Memory e)) m = absurd m

pub bad_text : (text : List ℕ) (r : Result ℤ TimeError) → Means text r → ((p : Stamp) → ¬ (IsTimeText text p)) → r ≡ Err BadText
bad_text text (Ok z) (p, shows, rounded, moment) none = absurd (none p shows)
bad_text text (Err BadText) m none = refl
bad_text text (Err OutOfRange) (p, z, shows, rounded, outside) none = absurd (none p shows)
bad_text text (Err (Memory e)) m none = absurd m

pub out_of_range : (text : List ℕ) (r : Result ℤ TimeError) → r ≡ time_of text → IsOutside text → r ≡ Err OutOfRange
out_of_range text r e outside = e ∙ outside_is text outside

pub one_text : (text : List ℕ) (r : Result ℤ TimeError) → Means text r → IfOk r (λ z. IsTextOfMoment z text → text ≡ time_text z)
one_text text (Ok z) (p, shows, rounded, moment) = stamp_once z text moment
one_text text (Err e) m = tt
