use Rattle.std.proofs.Common.{◌≡◌, ◌∙◌, arith, to_z, of_z, Some, ap, refl}
use Rattle.std.specs.Int.{w128}
use Rattle.std.proofs.lemmas.Int.{ints}
use Rattle.fs_time.specs.Inner.{stamp_by}
use Rattle.fs_time.specs.Stamp.{clock_nanos}
use Rattle.fs_time.proofs.Civil.{cast_true, cast_false, cast_nanos}
use Rattle.jiff_core.specs.DateTime.{civil_nanos}
use Rattle.fs_time.proofs.reading.clock_nanos.Goals as goal

pub returns-in-Ok-clause-value : goal.returns-in-Ok-clause-value
returns-in-Ok-clause-value c =
    let p = stamp_by c.args.parts in
    let on = cast_true p c.subsec_of-subsec.result c.requires.0 c.subsec_of-subsec.ensures.bound (c.in-Ok.ensures.succeeds.0 refl) in
    let nanos = cast_nanos p c.subsec_of-subsec.result c.requires.0 c.subsec_of-subsec.ensures.bound c.in-Ok.clock c.subsec_of-subsec.ensures.value c.in-Ok.ensures.value in
    let back : to_z w128 (of_z w128 c.to_nanosecond.result) ≡ c.to_nanosecond.result = omega (arith, ints, c.to_nanosecond.ensures.bound) in
    let value : to_z w128 (of_z w128 c.to_nanosecond.result) ≡ clock_nanos p = back ∙ c.to_nanosecond.ensures.value ∙ ap civil_nanos c.to_plain.ensures ∙ nanos in
    rw on (ap Some value)

pub returns-in-Err-clause-value : goal.returns-in-Err-clause-value
returns-in-Err-clause-value c =
    let off = cast_false (stamp_by c.args.parts) c.subsec_of-subsec.result c.requires.0 c.subsec_of-subsec.ensures.bound (λ h. cc (c.in-Err.ensures.succeeds.1 h)) in
    rw off
