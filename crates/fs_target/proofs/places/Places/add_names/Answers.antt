use Rattle.std.proofs.Common.{ap, ◌∙◌}
use Rattle.std.specs.Prelude.{is_some}
use Rattle.std.specs.FinMap.{get}
use Rattle.std.proofs.lemmas.Result.{on_ok_weaker}
use Rattle.fs_path.specs.NameOrder.{name_cmp_total}
use Rattle.fs_value.proofs.Tree.{get_tree}
use Rattle.fs_target.proofs.Standing.{placed_where}
use Rattle.fs_target.proofs.places.Places.add_names.Goals as goal

pub returns-clause-added : goal.returns-clause-added
returns-clause-added c =
    on_ok_weaker c.add_keys.result
    (λ added name some. added name
    (ap is_some (get_tree name_cmp_total c.self.inside.places.entries name ∙ ap (λ m. get m name) c.self.view_is) ∙ placed_where c.args.self.now name some))
    c.add_keys.ensures.added
