use Rattle.std.proofs.Common.{ap, ◌∙◌}
use Rattle.std.specs.FinMap.{len}
use Rattle.fs_path.specs.NameOrder.{name_cmp_total}
use Rattle.fs_value.proofs.Tree.{len_tree}
use Rattle.fs_value.proofs.document_map.DocumentMap.len.Goals as goal

pub returns : goal.returns
returns c = c.len.ensures.len ∙ len_tree name_cmp_total c.self.inside.documents.entries c.len.ensures.ordered ∙ ap len c.self.view_is
