use Rattle.std.proofs.Common.{rules, tests, sym, ◌∙◌}
use Rattle.std.proofs.lemmas.Iterator.{YieldsList-from_slice}
use Rattle.std.proofs.lemmas.Iterator.Search.{all_from_yields_List}
use Rattle.std.proofs.lemmas.List.Folds.{list_all-map}
use Rattle.fs_value.specs.View.{view as value_view}
use Rattle.fs_query.specs.FilterRules.{is_reference}
use Rattle.fs_query.proofs.census.all_references.Goals as goal

pub returns : goal.returns
returns c =
    all_from_yields_List (λ v. is_reference (value_view v)) _ _ _ c.all.ensures.ran (YieldsList-from_slice c.args.values.now cc) (λ x b q k. search (rules, tests))
    ∙ sym (list_all-map is_reference value_view c.args.values.now)
