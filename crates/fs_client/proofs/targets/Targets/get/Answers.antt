use Rattle.std.proofs.Common.{ap, ◌∙◌}
use Rattle.std.specs.FinMap.{get}
use Rattle.std.proofs.lemmas.Cmp.{nat_cmp_total}
use Rattle.fs_value.proofs.Tree.{get_tree}
use Rattle.fs_local.specs.State.{Targets}
use Rattle.fs_client.proofs.targets.Targets.get.Goals as goal

pub returns : goal.returns
returns c = c.get.ensures.value ∙ get_tree nat_cmp_total c.self.inside.listened.entries c.args.id ∙ ap (λ (t : Targets). get t.listened c.args.id) c.self.view_is
