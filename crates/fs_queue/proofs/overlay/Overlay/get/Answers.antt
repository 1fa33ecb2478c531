use Rattle.std.proofs.Common.{ap, ◌∙◌}
use Rattle.std.specs.FinMap.{get}
use Rattle.fs_path.specs.NameOrder.{name_cmp_total}
use Rattle.fs_value.proofs.Tree.{get_tree}
use Rattle.fs_queue.proofs.overlay.Overlay.get.Goals as goal

pub returns : goal.returns
returns c = c.get.ensures.value ∙ get_tree name_cmp_total c.self.inside.left.entries c.args.name.now ∙ ap (λ m. get m c.args.name.now) c.self.view_is
