use Rattle.std.proofs.Common.{ℤ, Some, None, sym, ap, ◌∙◌, subst}
use Rattle.std.specs.Prelude.{IsTrue, is_some}
use Rattle.std.specs.FinMap.{from_entries, get, insert}
use Rattle.fs_path.specs.NameOrder.{name_cmp, name_cmp_total, name_same}
use Rattle.fs_value.proofs.Tree.{get_tree, insert_tree}
use Rattle.fs_target.specs.Places.{docs_in, is_until, stood}
use Rattle.fs_target.specs.declared.place.Place.{Place}
use Rattle.fs_target.proofs.Standing.{Placed, docs-same, kept_inserted, lasts_itself, named_put, none_there, none_until, there_inserted}
use Rattle.fs_target.proofs.places.Places.make.Goals as goal

abbrev made : ℤ → Place
made time = record { document = None; until = Some time }

pub stay-requires : goal.stay-requires
stay-requires c =
    ap is_some (sym (get_tree name_cmp_total c.self.inside.places.entries c.args.name.now ∙ ap (λ m. get m c.args.name.now) c.self.view_is))
    ∙ sym c.contains_key.ensures
    ∙ c.if-contains_key.true

pub invariant_of-self-2 : goal.invariant_of-self-2
invariant_of-self-2 c = named_put c.self.inside.places.entries c.insert.new.self.entries c.in_ok-copy.field-0 (made c.args.time) c.in_ok-insert.ensures.updates.0 tt c.self.invariant

pub returns-clause-same : goal.returns-clause-same
returns-clause-same c =
    let es = c.self.inside.places.entries in
    let none = none_there es c.args.name.now (sym c.contains_key.ensures ∙ c.if-contains_key.false) in
    ap docs_in (insert_tree name_cmp_total name_same es c.insert.new.self.entries c.in_ok-copy.field-0 (made c.args.time) c.in_ok-insert.ensures.updates.0)
    ∙ ap (λ n. docs_in (insert (from_entries {R = name_cmp} es) n (made c.args.time))) c.in_ok-copy.ensures
    ∙ docs-same (from_entries es) c.args.name.now (made c.args.time) (sym (ap stood none))
    ∙ ap docs_in c.self.view_is

pub returns-clause-ok : goal.returns-clause-ok
returns-clause-ok c =
    let es = c.self.inside.places.entries in
    subst (λ (m : Placed). IsTrue (is_until c.args.time (get m c.args.name.now)))
    (sym (insert_tree name_cmp_total name_same es c.insert.new.self.entries c.in_ok-copy.field-0 (made c.args.time) c.in_ok-insert.ensures.updates.0
    ∙ ap (λ n. insert (from_entries {R = name_cmp} es) n (made c.args.time)) c.in_ok-copy.ensures))
    (there_inserted (from_entries es) c.args.name.now (made c.args.time) c.args.time (lasts_itself c.args.time))

pub returns-clause-kept : goal.returns-clause-kept
returns-clause-kept c = λ other t some.
    let es = c.self.inside.places.entries in
    let none = none_there es c.args.name.now (sym c.contains_key.ensures ∙ c.if-contains_key.false) in
    subst (λ (m : Placed). IsTrue (is_until t (get m other)))
    (sym (insert_tree name_cmp_total name_same es c.insert.new.self.entries c.in_ok-copy.field-0 (made c.args.time) c.in_ok-insert.ensures.updates.0))
    (kept_inserted (from_entries es) c.in_ok-copy.field-0 (made c.args.time) other t
    (λ had. none_until t (get (from_entries {R = name_cmp} es) c.in_ok-copy.field-0) (made c.args.time)
    (ap (get (from_entries {R = name_cmp} es)) c.in_ok-copy.ensures ∙ none) had)
    (subst (λ (m : Placed). IsTrue (is_until t (get m other))) (sym c.self.view_is) some))
