use Rattle.std.proofs.Common.{◌≡◌, rules, cond, List, Option, Some, None, true, false, sym, ap, ◌∙◌, subst}
use Rattle.std.specs.Prelude.{IsTrue, is_some}
use Rattle.std.specs.BTreeMap.{is_at}
use Rattle.std.specs.FinMap.{from_entries, get}
use Rattle.std.specs.Map.{lookup}
use Rattle.fs_path.specs.NameOrder.{name_cmp, name_cmp_total, name_same}
use Rattle.fs_path.specs.declared.name.DocName.{DocName}
use Rattle.fs_value.proofs.Tree.{get_tree, insert_tree}
use Rattle.fs_target.specs.Places.{docs_in, is_until, stood}
use Rattle.fs_target.specs.declared.place.Place.{Place}
use Rattle.fs_target.proofs.Standing.{Placed, docs-same, kept_inserted, named_same, there_inserted}
use Rattle.fs_target.proofs.places.Places.stay.Goals as goal

abbrev IsPut : List (DocName × Place) → List (DocName × Place) → DocName → Place → Type 0
IsPut es fs name p = (q : DocName) → lookup (is_at (name_cmp q)) fs ≡ cond (is_at (name_cmp name) q) (Some p) (lookup (is_at (name_cmp q)) es)

pub returns-in_default : goal.returns-in_default
returns-in_default c = absurd (
    let none : get (from_entries {R = name_cmp} c.self.inside.places.entries) c.args.name.now ≡ None =
    sym (get_tree name_cmp_total c.self.inside.places.entries c.args.name.now) ∙ sym c.in_default.ensures.value in
    let some : true ≡ false = sym c.requires ∙ ap (λ (m : Placed). is_some (get m c.args.name.now)) (sym c.self.view_is) ∙ ap is_some none in
    cc)

pub invariant_of-self-2 : goal.invariant_of-self-2
invariant_of-self-2 c =
    let es = c.self.inside.places.entries in
    let name = c.args.name.now in
    let p = c.stay.new.self in
    let fs = (c.get_mut.follows.lender p).entries in
    let put : IsPut es fs name p = search rules in
    named_same es fs name p c.in-Some.place.now put (sym c.in-Some.ensures.value) c.stay.ensures.document c.self.invariant

pub returns-clause-same : goal.returns-clause-same
returns-clause-same c =
    let es = c.self.inside.places.entries in
    let name = c.args.name.now in
    let p = c.stay.new.self in
    let fs = (c.get_mut.follows.lender p).entries in
    let put : IsPut es fs name p = search rules in
    ap docs_in (insert_tree name_cmp_total name_same es fs name p put)
    ∙ docs-same (from_entries es) name p (c.stay.ensures.document ∙ ap stood (c.in-Some.ensures.value ∙ get_tree name_cmp_total es name))
    ∙ ap docs_in c.self.view_is

pub returns-clause-stays : goal.returns-clause-stays
returns-clause-stays c =
    let es = c.self.inside.places.entries in
    let name = c.args.name.now in
    let p = c.stay.new.self in
    let fs = (c.get_mut.follows.lender p).entries in
    let put : IsPut es fs name p = search rules in
    subst (λ (m : Placed). IsTrue (is_until c.args.time (get m name))) (sym (insert_tree name_cmp_total name_same es fs name p put))
    (there_inserted (from_entries es) name p c.args.time c.stay.ensures.stays)

pub returns-clause-kept : goal.returns-clause-kept
returns-clause-kept c = λ other t some.
    let es = c.self.inside.places.entries in
    let name = c.args.name.now in
    let p = c.stay.new.self in
    let fs = (c.get_mut.follows.lender p).entries in
    let put : IsPut es fs name p = search rules in
    subst (λ (m : Placed). IsTrue (is_until t (get m other))) (sym (insert_tree name_cmp_total name_same es fs name p put))
    (kept_inserted (from_entries es) name p other t
    (λ had. c.stay.ensures.kept t (subst (λ (o : Option Place). IsTrue (is_until t o)) (sym (get_tree name_cmp_total es name) ∙ sym c.in-Some.ensures.value) had))
    (subst (λ (m : Placed). IsTrue (is_until t (get m other))) (sym c.self.view_is) some))
