use Rattle.std.proofs.Common.{not, rules, ap, ◌∙◌}
use Rattle.std.specs.List.{filter}
use Rattle.std.proofs.lemmas.Fn.{filter_same}
use Rattle.fs_locks.specs.Tree.{held}
use Rattle.fs_locks.proofs.tree.fresh.Goals as goal

pub returns : goal.returns
returns c =
    filter_same _ (λ n. not (held c.args.tree.now.entries c.args.id n)) _ (λ x b f' k. search rules) _ _ c.retain.ensures.filtered
    ∙ ap (filter (λ n. not (held c.args.tree.now.entries c.args.id n))) c.into_vec-fresh.ensures
