use Rattle.std.proofs.Common.{ap, sym, ◌∙◌, subst}
use Rattle.std.specs.FinMap.{get, remove}
use Rattle.std.specs.BTreeMap.{is_at}
use Rattle.fs_path.specs.NameOrder.{name_cmp, name_cmp_total, name_same}
use Rattle.fs_value.specs.Named.{StandAtNames}
use Rattle.fs_value.proofs.Named.{named_removed}
use Rattle.fs_value.proofs.Tree.{get_tree, remove_tree}
use Rattle.fs_value.proofs.document_map.DocumentMap.remove.Goals as goal

pub invariant_of-self : goal.invariant_of-self
invariant_of-self c = subst StandAtNames (sym c.remove.ensures.entries) (named_removed (is_at (name_cmp c.args.name.now)) c.self.inside.documents.entries c.self.invariant)

pub returns-clause-value : goal.returns-clause-value
returns-clause-value c = c.remove.ensures.value ∙ get_tree name_cmp_total c.self.inside.documents.entries c.args.name.now ∙ ap (λ m. get m c.args.name.now) c.self.view_is

pub returns-clause-removed : goal.returns-clause-removed
returns-clause-removed c =
    remove_tree name_cmp_total name_same c.self.inside.documents.entries c.remove.new.self.entries c.args.name.now c.remove.ensures.updates.0
    ∙ ap (λ m. remove m c.args.name.now) c.self.view_is
