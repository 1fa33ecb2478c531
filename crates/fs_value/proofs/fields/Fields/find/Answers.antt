use Rattle.std.proofs.Common.{◌≡◌, ℕ, ◌<◌, List, Some, length, map, get_or, ap, sym, ◌∙◌, subst}
use Rattle.std.proofs.lemmas.List.{get_or-map, length-map}
use Rattle.std.specs.FinMap.{find}
use Rattle.fs_path.specs.TextOrder.{text_cmp}
use Rattle.fs_value.specs.FieldPlace.{IsFoundAt}
use Rattle.fs_value.specs.View.{view, field_view}
use Rattle.fs_value.specs.declared.fields.Field.{Field}
use Rattle.fs_value.proofs.fields.Fields.find.Goals as goal

-- the field at a key's place has the value that is found
found_there : (key : List ℕ) (fs : List Field) (i : ℕ) (r : Field) → IsFoundAt key (map field_view fs) i → r ≡ get_or fs i r → Some (view r.value) ≡ find text_cmp key (map field_view fs)
found_there key fs i r at is =
    let within : i < length fs = subst (λ (n : ℕ). i < n) (length-map fs field_view) at.within in
    ap (λ f. Some (view f.value)) is ∙ ap (λ p. Some p.1) (sym (get_or-map field_view fs i r (field_view r) within)) ∙ sym (at.found (field_view r))

pub returns-in-Ok : goal.returns-in-Ok
returns-in-Ok c =
    subst (λ fs. Some (view c.index.result.now.value) ≡ find text_cmp c.args.key.now fs) c.self.view_is
    (found_there c.args.key.now c.self.inside.items.items c.in-Ok.i c.index.result.now (subst (λ fs. IsFoundAt c.args.key.now fs c.in-Ok.i) (sym c.self.view_is) c.in-Ok.ensures) c.index.ensures)
