use Rattle.std.proofs.Common.{◌≡◌, rules, cond, List, Option, Some, None, sym, ap, ◌∙◌, subst}
use Rattle.std.specs.Prelude.{IsTrue, is_some}
use Rattle.std.specs.BTreeMap.{is_at}
use Rattle.std.specs.FinMap.{from_entries, get}
use Rattle.std.specs.Map.{lookup}
use Rattle.fs_path.specs.NameOrder.{name_cmp, name_cmp_total, name_same}
use Rattle.fs_path.specs.declared.name.DocName.{DocName}
use Rattle.fs_value.proofs.Tree.{get_tree, insert_tree}
use Rattle.fs_write.specs.Batch.{Bears, with_document}
use Rattle.fs_target.specs.Places.{docs_in, is_until, lasts}
use Rattle.fs_target.specs.declared.place.Place.{Place}
use Rattle.fs_target.proofs.Standing.{Placed, docs-insert, kept_inserted, named_put, not_put}
use Rattle.fs_target.proofs.places.Places.put.Goals as goal

pub returns-in_default-clause-docs : goal.returns-in_default-clause-docs
returns-in_default-clause-docs c =
    let es = c.self.inside.places.entries in
    let name = c.args.name.now in
    let stays : c.get_mut.follows.lender-at-none.entries ≡ es = search rules in
    let none : get (from_entries {R = name_cmp} es) name ≡ None = sym (get_tree name_cmp_total es name) ∙ sym c.in_default.ensures.value in
    ap (λ fs. docs_in (from_entries {R = name_cmp} fs)) stays
    ∙ not_put (from_entries es) name c.args.document none (λ some. subst (λ (m : Placed). IsTrue (is_some (get m name))) (sym c.self.view_is) (c.requires.place some))
    ∙ ap (λ m. with_document (docs_in m) name c.args.document) c.self.view_is

abbrev IsPut : List (DocName × Place) → List (DocName × Place) → DocName → Place → Type 0
IsPut es fs name p = (q : DocName) → lookup (is_at (name_cmp q)) fs ≡ cond (is_at (name_cmp name) q) (Some p) (lookup (is_at (name_cmp q)) es)

pub invariant_of-self-2 : goal.invariant_of-self-2
invariant_of-self-2 c =
    let es = c.self.inside.places.entries in
    let name = c.args.name.now in
    let fs = (c.get_mut.follows.lender c.set.new.place).entries in
    let put : IsPut es fs name c.set.new.place = search rules in
    named_put es fs name c.set.new.place put (subst (λ (p : Place). Bears p.document name) (sym c.set.ensures) c.requires.named) c.self.invariant

pub returns-clause-docs : goal.returns-clause-docs
returns-clause-docs c =
    let es = c.self.inside.places.entries in
    let name = c.args.name.now in
    let fs = (c.get_mut.follows.lender c.set.new.place).entries in
    let put : IsPut es fs name c.set.new.place = search rules in
    ap docs_in (insert_tree name_cmp_total name_same es fs name c.set.new.place put)
    ∙ docs-insert (from_entries es) name c.set.new.place
    ∙ ap (λ (p : Place). with_document (docs_in (from_entries {R = name_cmp} es)) name p.document) c.set.ensures
    ∙ ap (λ m. with_document (docs_in m) name c.args.document) c.self.view_is

pub returns-clause-kept : goal.returns-clause-kept
returns-clause-kept c = λ other t some.
    let es = c.self.inside.places.entries in
    let name = c.args.name.now in
    let fs = (c.get_mut.follows.lender c.set.new.place).entries in
    let put : IsPut es fs name c.set.new.place = search rules in
    subst (λ (m : Placed). IsTrue (is_until t (get m other))) (sym (insert_tree name_cmp_total name_same es fs name c.set.new.place put))
    (kept_inserted (from_entries es) name c.set.new.place other t
    (λ had. subst (λ (p : Place). IsTrue (lasts t p.until)) (sym c.set.ensures)
    (subst (λ (o : Option Place). IsTrue (is_until t o)) (sym (get_tree name_cmp_total es name) ∙ sym c.in-Some.ensures.value) had))
    (subst (λ (m : Placed). IsTrue (is_until t (get m other))) (sym c.self.view_is) some))
