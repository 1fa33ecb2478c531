use Rattle.std.proofs.Common.{length, ℕ, ◌<◌, sym, ap, subst, ◌∙◌}
use Rattle.std.proofs.lemmas.List.{length-map}
use Rattle.fs_value.specs.View.{view}
use Rattle.fs_value.proofs.Weights.{item_lighter}
use Rattle.fs_value.proofs.values.Values.at.Goals as goal

pub returns-clause-lighter : goal.returns-clause-lighter
returns-clause-lighter c =
    let vs = c.self.inside.items.items in
    let within : c.args.i < length vs = subst (λ (n : ℕ). c.args.i < n) (ap length (sym c.self.view_is) ∙ length-map vs view) c.requires in
    rw (c.index.ensures, ← c.self.view_is) (item_lighter vs c.args.i c.index.result.now within)
