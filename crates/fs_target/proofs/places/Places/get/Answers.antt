use Rattle.std.proofs.Common.{sym, ap, ◌∙◌}
use Rattle.std.specs.FinMap.{get}
use Rattle.fs_path.specs.NameOrder.{name_cmp_total}
use Rattle.fs_value.proofs.Tree.{get_tree}
use Rattle.fs_target.specs.Places.{stood}
use Rattle.fs_target.proofs.Standing.{get-docs_in}
use Rattle.fs_target.proofs.places.Places.get.Goals as goal

pub returns-in-Some : goal.returns-in-Some
returns-in-Some c =
    c.as_ref.ensures.value
    ∙ ap stood (c.in-Some.ensures.value ∙ get_tree name_cmp_total c.self.inside.places.entries c.args.name.now ∙ ap (λ m. get m c.args.name.now) c.self.view_is)
    ∙ sym (get-docs_in c.args.self.now c.args.name.now)

pub returns-in-None : goal.returns-in-None
returns-in-None c =
    ap stood (c.in-None.ensures.value ∙ get_tree name_cmp_total c.self.inside.places.entries c.args.name.now ∙ ap (λ m. get m c.args.name.now) c.self.view_is)
    ∙ sym (get-docs_in c.args.self.now c.args.name.now)
