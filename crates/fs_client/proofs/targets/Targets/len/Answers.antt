use Rattle.std.proofs.Common.{ap, ◌∙◌}
use Rattle.std.specs.FinMap.{len}
use Rattle.std.proofs.lemmas.Cmp.{nat_cmp_total}
use Rattle.fs_value.proofs.Tree.{len_tree}
use Rattle.fs_local.specs.State.{Targets}
use Rattle.fs_client.proofs.targets.Targets.len.Goals as goal

pub returns : goal.returns
returns c = c.len.ensures.len ∙ len_tree nat_cmp_total c.self.inside.listened.entries c.len.ensures.ordered ∙ ap (λ (t : Targets). len t.listened) c.self.view_is
