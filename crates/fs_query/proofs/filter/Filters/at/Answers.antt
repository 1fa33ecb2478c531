use Rattle.std.proofs.Common.{length, ℕ, ◌<◌, sym, ap, subst, ◌∙◌}
use Rattle.std.proofs.lemmas.List.{length-map}
use Rattle.fs_query.specs.View.{view}
use Rattle.fs_query.proofs.Weights.{filter_lighter}
use Rattle.fs_query.proofs.filter.Filters.at.Goals as goal

pub returns-clause-lighter : goal.returns-clause-lighter
returns-clause-lighter c =
    let fs = c.self.inside.items.items in
    let within : c.args.i < length fs = subst (λ (n : ℕ). c.args.i < n) (ap length (sym c.self.view_is) ∙ length-map fs view) c.requires in
    rw (c.index.ensures, ← c.self.view_is) (filter_lighter fs c.args.i c.index.result.now within)
