use Rattle.std.proofs.Common.{◌<◌, ap, sym, ◌∙◌, subst, length, arith}
use Rattle.std.specs.Prelude.{refl, ℕ, List, IsSome, map, option_map}
use Rattle.std.specs.BTreeMap.{BTreeMap}
use Rattle.std.specs.FinMap.{find}
use Rattle.fs_path.specs.TextOrder.{text_cmp}
use Rattle.fs_value.specs.FieldPaths.{unset_fields}
use Rattle.fs_edit.specs.OpenView.{open_view, entry_view}
use Rattle.fs_edit.specs.declared.open_fields.Open.{Open}
use Rattle.fs_edit.proofs.Entries.{found}
use Rattle.std.proofs.lemmas.Result.{on_ok_weaker}
use Rattle.fs_value.proofs.PathSteps.{unset_missing}
use Rattle.fs_edit.proofs.Steps.{unset_there}
use Rattle.fs_edit.proofs.unset.+unset.Goals as goal
use Rattle.fs_edit.proofs.unset.+unset.Goals.{unset_at-in-Some, unset_at-in-None}

pub unset_at-returns-after-get_mut : goal.unset_at-returns-after-get_mut
unset_at-returns-after-get_mut t c =
    let names = c.args.names.now in
    let more : 1 < length names = omega arith in
    let key = c.key-item-2.result in
    elim c.match-get_mut.branch [
      | unset_at-in-Some w ↦
          let now = w.unset_inside.new.place in
          let wrote = c.get_mut.follows.holds now in
          let there = w.in-Some.ensures.value in
          rw (w.result-is, w.fields-inside-is)
          (on_ok_weaker w.unset_inside.result
          (λ unset. unset_there names key c.fields.inside.entries.entries (c.get_mut.follows.lender now).entries w.in-Some.place.now now more c.key-item-2.is
          c.get_mut.ensures.ordered wrote.4 (sym there) (wrote.3 (subst IsSome there refl)).0 unset
          ∙ ap (unset_fields names) c.fields.view_is)
          w.unset_inside.ensures)
      | unset_at-in-None w ↦
          let none = ap (find text_cmp key) (sym c.fields.view_is) ∙ found c.fields.inside.entries.entries key ∙ ap (option_map open_view) (sym w.in-None.ensures.value) in
          rw (w.result-is, w.fields-inside-is)
          (ap (λ (m : BTreeMap (List ℕ) Open). map entry_view m.entries) c.get_mut.follows.holds-at-none ∙ c.fields.view_is
          ∙ unset_missing key names c.args.fields.now more c.key-item-2.is none)
    ]
