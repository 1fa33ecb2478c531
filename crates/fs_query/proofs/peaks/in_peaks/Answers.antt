use Rattle.std.proofs.Common.{length, ap, sym, ◌∙◌}
use Rattle.std.proofs.lemmas.List.{length-map}
use Rattle.fs_value.specs.View.{view as value_view}
use Rattle.fs_value.specs.Elements.{elements}
use Rattle.fs_query.proofs.PeakProducts.{in_peaks}
use Rattle.fs_query.proofs.peaks.in_peaks.Goals as goal

pub returns-else-elements-eq0 : goal.returns-else-elements-eq0
returns-else-elements-eq0 c = λ p. in_peaks p (elements (value_view c.args.value.now))
    (λ e. c.if-elements-eq0.false (sym (length-map c.elements.result.now value_view) ∙ ap length c.elements.ensures ∙ e))
