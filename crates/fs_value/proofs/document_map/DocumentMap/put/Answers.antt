use Rattle.std.proofs.Common.{ap, sym, ◌∙◌, subst}
use Rattle.std.specs.FinMap.{insert, from_entries}
use Rattle.fs_path.specs.NameOrder.{name_cmp, name_cmp_total, name_same}
use Rattle.fs_value.specs.Named.{StandAtNames}
use Rattle.fs_value.proofs.Named.{named_inserted}
use Rattle.fs_value.proofs.Tree.{insert_tree}
use Rattle.fs_value.proofs.document_map.DocumentMap.put.Goals as goal

pub invariant_of-self-2 : goal.invariant_of-self-2
invariant_of-self-2 c =
    subst StandAtNames (sym c.in_ok-insert.ensures.entries) (named_inserted c.self.inside.documents.entries c.in_ok-name.name c.args.document (sym c.in_ok-name.ensures) c.self.invariant)

pub returns-clause-ok : goal.returns-clause-ok
returns-clause-ok c =
    insert_tree name_cmp_total name_same c.self.inside.documents.entries c.insert.new.self.entries c.in_ok-name.name c.args.document c.in_ok-insert.ensures.updates.0
    ∙ ap (λ n. insert (from_entries {R = name_cmp} c.self.inside.documents.entries) n c.args.document) c.in_ok-name.ensures
    ∙ ap (λ m. insert m c.args.document.name c.args.document) c.self.view_is
