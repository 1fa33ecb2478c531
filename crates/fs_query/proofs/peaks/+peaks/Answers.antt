use Rattle.std.proofs.Common.{◌-◌, drop, sym, ap, ◌∙◌, arith}
use Rattle.fs_query.specs.Condition.{conditions_of}
use Rattle.fs_query.specs.Normal.{equalities, conjunctions, conjunctions_of_all}
use Rattle.fs_query.specs.Peaks.{peaks_in, both_peaks}
use Rattle.fs_query.specs.View.{view}
use Rattle.fs_query.proofs.InFront.{at_front}
use Rattle.fs_query.proofs.PeakProducts.{peaks_products}
use Rattle.fs_query.proofs.peaks.+peaks.Goals as goal

pub peaks_of_all-loop-i-preserved : goal.peaks_of_all-loop-i-preserved
peaks_of_all-loop-i-preserved t c =
    c.both-all.ensures
    ∙ (λ j. both_peaks (c.peaks_of.ensures j) (c.loop-i.invariant j))
    ∙ sym (peaks_products (conjunctions equalities (view c.at.result.now)) (conjunctions_of_all equalities (conditions_of (drop c.loop-i.i c.args.filters.now))))
    ∙ sym (ap (λ ds. peaks_in (conjunctions_of_all equalities (conditions_of ds))) (at_front c.args.filters.now (c.loop-i.i - 1) c.loop-i.i (view c.at.result.now) c.at.ensures.value (omega arith)))
