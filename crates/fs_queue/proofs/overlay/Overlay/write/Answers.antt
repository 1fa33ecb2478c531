use Rattle.std.proofs.Common.{None, sym, ap, ◌∙◌, subst}
use Rattle.std.specs.FinMap.{from_entries, get, insert}
use Rattle.fs_path.specs.NameOrder.{name_cmp, name_cmp_total, name_same}
use Rattle.fs_write.specs.Batch.{Bears}
use Rattle.fs_write.specs.Local.{written_locally}
use Rattle.fs_value.proofs.Tree.{get_tree, insert_tree}
use Rattle.fs_queue.specs.Overlay.{AreBorne, laid}
use Rattle.fs_queue.proofs.Laying.{borne_next}
use Rattle.fs_queue.proofs.Named.{locally_bears}
use Rattle.fs_queue.proofs.overlay.Overlay.write.Goals as goal

pub invariant_of-self-2 : goal.invariant_of-self-2
invariant_of-self-2 g c =
    let entries = c.self.inside.left.entries in
    let name = c.name-name.result.now in
    let found = c.get.ensures.value ∙ get_tree name_cmp_total entries name in
    let there = c.in_ok-there.ensures.named (subst (λ o. Bears (laid o None) name) (sym found) (c.self.invariant name)) in
    let left = locally_bears c.in_ok-there.there c.args.write.now c.args.moment (subst (Bears c.in_ok-there.there) c.name-name.ensures there) in
    let bears = subst (λ o. Bears o c.in_ok-copy.field-0) (sym c.in_ok-left.ensures) (subst (Bears (written_locally c.in_ok-there.there c.args.write.now c.args.moment)) (sym (c.in_ok-copy.ensures ∙ c.name-name.ensures)) left) in
    subst AreBorne (sym (insert_tree name_cmp_total name_same entries c.insert.new.self.entries c.in_ok-copy.field-0 c.in_ok-left.left c.in_ok-insert.ensures.updates.0))
    (borne_next (from_entries {R = name_cmp} entries) c.in_ok-copy.field-0 c.in_ok-left.left c.self.invariant bears)

pub returns : goal.returns
returns g c =
    let entries = c.self.inside.left.entries in
    let docs = g.S.Shelf.docs c.args.shelf.now in
    let name = c.name-name.result.now in
    let found = c.get.ensures.value ∙ get_tree name_cmp_total entries name ∙ ap (λ m. get m name) c.self.view_is in
    let there = c.in_ok-there.ensures.value ∙ ap (λ o. laid o (get docs name)) found in
    let left = c.in_ok-left.ensures ∙ ap (λ o. written_locally o c.args.write.now c.args.moment) there in
    insert_tree name_cmp_total name_same entries c.insert.new.self.entries c.in_ok-copy.field-0 c.in_ok-left.left c.in_ok-insert.ensures.updates.0
    ∙ (λ i. insert (c.self.view_is i) (c.in_ok-copy.ensures i) (left i))
    ∙ ap (λ n. insert c.args.self.now n (written_locally (laid (get c.args.self.now n) (get docs n)) c.args.write.now c.args.moment)) c.name-name.ensures
