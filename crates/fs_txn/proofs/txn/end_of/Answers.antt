use Rattle.std.proofs.Common.{◌≡◌, sym, ap, ◌∙◌, subst, w64, to_z, of_z, arith}
use Rattle.std.specs.Prelude.{◌+ℤ◌}
use Rattle.std.specs.Int.{int_min}
use Rattle.std.proofs.lemmas.Int.{ints}
use Rattle.fs_time.proofs.Moments.{moment_range}
use Rattle.fs_time.specs.Moment.{IsMoment}
use Rattle.fs_txn.specs.Expiry.{idle, longest}
use Rattle.fs_txn.proofs.txn.end_of.Goals as goal

pub returns : goal.returns
returns c =
    let t = c.args.txn.now in
    let own : to_z w64 (of_z w64 c.min.result) ≡ c.min.result = omega (arith, ints) in
    let used = moment_range c.get.result (subst IsMoment (sym c.get.ensures.value) c.get.ensures.range) in
    let begun = moment_range c.get-2.result (subst IsMoment (sym c.get-2.ensures.value) c.get-2.ensures.range) in
    let first : to_z w64 (of_z w64 (to_z w64 (of_z w64 c.get.result) +ℤ idle)) ≡ t.used +ℤ idle = omega (arith, ints, c.get.ensures.value) in
    let second : to_z w64 (of_z w64 (to_z w64 (of_z w64 c.get-2.result) +ℤ longest)) ≡ t.begun +ℤ longest = omega (arith, ints, c.get-2.ensures.value) in
    own ∙ c.min.ensures.value ∙ ap (λ z. int_min z (to_z w64 (of_z w64 (to_z w64 (of_z w64 c.get-2.result) +ℤ longest)))) first ∙ ap (λ z. int_min (t.used +ℤ idle) z) second
