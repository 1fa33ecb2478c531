use Rattle.std.proofs.Common.{sym, ap, ◌∙◌, subst}
use Rattle.std.specs.Prelude.{IsTrue}
use Rattle.std.specs.FinMap.{get, remove}
use Rattle.fs_path.specs.NameOrder.{name_cmp_total, name_same}
use Rattle.fs_value.proofs.Tree.{remove_tree}
use Rattle.fs_target.specs.Places.{docs_in, is_until}
use Rattle.fs_target.proofs.GivenBack.{docs-removed, others_stay}
use Rattle.fs_target.proofs.Standing.{Placed}
use Rattle.fs_target.proofs.places.Places.give_back.Goals as goal

pub returns-then-is_free-clause-docs : goal.returns-then-is_free-clause-docs
returns-then-is_free-clause-docs c =
    let name = c.args.name.now in
    ap docs_in (remove_tree name_cmp_total name_same c.self.inside.places.entries c.remove.new.self.entries name c.remove.ensures.updates.0 ∙ ap (λ m. remove m name) c.self.view_is)
    ∙ docs-removed c.args.self.now name (c.is_free.ensures.empty c.if-is_free.true)

pub returns-then-is_free-clause-kept : goal.returns-then-is_free-clause-kept
returns-then-is_free-clause-kept c = λ other t late had.
    let name = c.args.name.now in
    subst (λ (m : Placed). IsTrue (is_until t (get m other)))
    (sym (remove_tree name_cmp_total name_same c.self.inside.places.entries c.remove.new.self.entries name c.remove.ensures.updates.0 ∙ ap (λ m. remove m name) c.self.view_is))
    (others_stay c.args.self.now name t other (c.is_free.ensures.over c.if-is_free.true t late) had)
