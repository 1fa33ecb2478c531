use Rattle.std.proofs.Common.{Some, None, sym, ap, ◌∙◌}
use Rattle.std.specs.FinMap.{from_entries, insert}
use Rattle.fs_path.specs.NameOrder.{name_cmp, name_cmp_total, name_same}
use Rattle.fs_value.proofs.Tree.{insert_tree}
use Rattle.fs_target.specs.Places.{docs_in}
use Rattle.fs_target.specs.declared.place.Place.{Place}
use Rattle.fs_target.proofs.Standing.{docs-insert, named_put}
use Rattle.fs_target.proofs.places.Places.insert.Goals as goal

pub invariant_of-self-2 : goal.invariant_of-self-2
invariant_of-self-2 c =
    let p : Place = record { document = Some c.args.document; until = None } in
    named_put c.self.inside.places.entries c.insert.new.self.entries c.in_ok-name.name p c.in_ok-insert.ensures.updates.0 (sym c.in_ok-name.ensures) c.self.invariant

pub returns : goal.returns
returns c =
    let es = c.self.inside.places.entries in
    let p : Place = record { document = Some c.args.document; until = None } in
    ap docs_in (insert_tree name_cmp_total name_same es c.insert.new.self.entries c.in_ok-name.name p c.in_ok-insert.ensures.updates.0)
    ∙ docs-insert (from_entries {R = name_cmp} es) c.in_ok-name.name p
    ∙ ap (λ n. insert (docs_in (from_entries {R = name_cmp} es)) n c.args.document) c.in_ok-name.ensures
    ∙ ap (λ m. insert (docs_in m) c.args.document.name c.args.document) c.self.view_is
