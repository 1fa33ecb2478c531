use Rattle.std.proofs.Common.{◌<◌, ap, sym, ◌∙◌, subst, length, arith}
use Rattle.std.specs.Prelude.{refl, ℕ, List, Some, IsSome, map, option_map}
use Rattle.std.specs.BTreeMap.{BTreeMap}
use Rattle.std.specs.FinMap.{find}
use Rattle.fs_path.specs.TextOrder.{text_cmp}
use Rattle.fs_value.specs.FieldPaths.{get_fields, set_fields}
use Rattle.fs_edit.specs.FieldChange.{value_made, value_changed}
use Rattle.fs_edit.specs.OpenView.{open_view, entry_view}
use Rattle.fs_edit.specs.declared.open_fields.Open.{Open}
use Rattle.fs_edit.proofs.Entries.{found}
use Rattle.std.proofs.lemmas.Result.{on_ok_weaker}
use Rattle.fs_value.proofs.PathSteps.{rest}
use Rattle.fs_edit.proofs.Steps.{change_there, change_missing}
use Rattle.fs_edit.proofs.set.+change.Goals as goal

pub change_at-returns-in_ok-changed_inside-in-Some : goal.change_at-returns-in_ok-changed_inside-in-Some
change_at-returns-in_ok-changed_inside-in-Some t c =
    let names = c.args.names.now in
    let more : 0 < length names = omega arith in
    let now = c.replace.new.dest in
    let wrote = c.get_mut.follows.holds now in
    let there = c.in-Some.ensures.value in
    let set = ap open_view c.replace.ensures.after ∙ c.in_ok-changed_inside-in-Some.ensures ∙ ap (λ o. value_changed (rest names) c.args.change (Some (open_view o))) c.replace-before.ensures.value in
    change_there names c.key-item.result c.args.change c.fields.inside.entries.entries (c.get_mut.follows.lender now).entries c.in-Some.place.now now more c.key-item.is
    c.get_mut.ensures.ordered wrote.4 (sym there) (wrote.3 (subst IsSome there refl)).0 set
    ∙ ap (λ fs. set_fields names (value_made c.args.change (get_fields names fs)) fs) c.fields.view_is

pub change_at-returns-in-None : goal.change_at-returns-in-None
change_at-returns-in-None t c =
    let names = c.args.names.now in
    let more : 0 < length names = omega arith in
    let key = c.key-item.result in
    let none = ap (find text_cmp key) (sym c.fields.view_is) ∙ found c.fields.inside.entries.entries key ∙ ap (option_map open_view) (sym c.in-None.ensures.value) in
    let same = ap (λ (m : BTreeMap (List ℕ) Open). map entry_view m.entries) c.get_mut.follows.holds-at-none ∙ c.fields.view_is in
    on_ok_weaker c.change_absent.result
    (change_missing names key c.args.change c.args.fields.now _ _ more c.key-item.is none same)
    c.change_absent.ensures
