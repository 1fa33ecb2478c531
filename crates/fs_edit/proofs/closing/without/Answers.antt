use Rattle.std.proofs.Common.{map, not, rules, ap, ◌∙◌}
use Rattle.std.specs.BTreeSet.{contains}
use Rattle.std.proofs.lemmas.Fn.{filter_same}
use Rattle.fs_value.specs.View.{view}
use Rattle.fs_edit.specs.Arrays.{remove_all}
use Rattle.fs_edit.specs.Closing.{held_cmp}
use Rattle.fs_edit.proofs.ValueSets.{all_kept}
use Rattle.fs_edit.proofs.closing.without.Goals as goal

pub returns : goal.returns
returns c =
    let kept = filter_same _ (λ v. not (contains held_cmp c.args.gone.now v)) _ (λ x b f' k. search rules) _ _ c.retain.ensures.filtered in
    λ ds has. c.of.ensures ∙ ap (map view) kept ∙ all_kept c.args.gone.now ds has _ ∙ ap (λ vs. remove_all vs ds) c.into_vec-items.ensures
