use Rattle.std.proofs.Common.{◌<◌, ap, sym, ◌∙◌, length, arith}
use Rattle.std.specs.Prelude.{option_map, option_and_then}
use Rattle.std.specs.FinMap.{find}
use Rattle.fs_path.specs.TextOrder.{text_cmp}
use Rattle.fs_edit.specs.Below.{value_below}
use Rattle.fs_edit.specs.Numbers.{integer_in}
use Rattle.fs_edit.specs.OpenView.{open_view}
use Rattle.fs_edit.proofs.Entries.{found}
use Rattle.fs_value.proofs.PathSteps.{rest}
use Rattle.fs_edit.proofs.Steps.{get_more, get_map, get_array}
use Rattle.fs_edit.proofs.integer.+integer_in.Goals as goal

pub returns-in_err-value-in-len1-up : goal.returns-in_err-value-in-len1-up
returns-in_err-value-in-len1-up t c =
    let names = c.args.names.now in
    let more : 0 < length names = omega arith in
    let key = c.key-item.result in
    let none = ap (find text_cmp key) (sym c.fields.view_is) ∙ found c.fields.inside.entries.entries key ∙ ap (option_map open_view) (sym c.in_err-value-in-len1-up.ensures.value) in
    c.from_residual.ensures
    ∙ sym (ap integer_in (get_more names key c.args.fields.now more c.key-item.is ∙ ap (option_and_then (value_below (rest names))) none))

pub returns-in-Whole : goal.returns-in-Whole
returns-in-Whole t c =
    let names = c.args.names.now in
    let more : 0 < length names = omega arith in
    let key = c.key-item.result in
    let some = ap (find text_cmp key) (sym c.fields.view_is) ∙ found c.fields.inside.entries.entries key ∙ ap (option_map open_view) (sym c.in_ok-value-in-len1-up.ensures.value) in
    c.integer_within.ensures
    ∙ ap (λ o. integer_in (value_below (rest names) (open_view o))) (sym c.in-Whole.is)
    ∙ sym (ap integer_in (get_more names key c.args.fields.now more c.key-item.is ∙ ap (option_and_then (value_below (rest names))) some))

pub returns-in-Map : goal.returns-in-Map
returns-in-Map t c =
    let names = c.args.names.now in
    let more : 0 < length names = omega arith in
    let key = c.key-item.result in
    let some = ap (find text_cmp key) (sym c.fields.view_is) ∙ found c.fields.inside.entries.entries key ∙ ap (option_map open_view) (sym c.in_ok-value-in-len1-up.ensures.value) in
    c.integer_in.ensures
    ∙ get_map (rest names) c.in-Map.inner
    ∙ ap (λ o. integer_in (value_below (rest names) (open_view o))) (sym c.in-Map.is)
    ∙ sym (ap integer_in (get_more names key c.args.fields.now more c.key-item.is ∙ ap (option_and_then (value_below (rest names))) some))

pub returns-in-Array : goal.returns-in-Array
returns-in-Array t c =
    let names = c.args.names.now in
    let more : 0 < length names = omega arith in
    let key = c.key-item.result in
    let some = ap (find text_cmp key) (sym c.fields.view_is) ∙ found c.fields.inside.entries.entries key ∙ ap (option_map open_view) (sym c.in_ok-value-in-len1-up.ensures.value) in
    get_array (rest names) c.in-Array.field-0
    ∙ ap (λ o. integer_in (value_below (rest names) (open_view o))) (sym c.in-Array.is)
    ∙ sym (ap integer_in (get_more names key c.args.fields.now more c.key-item.is ∙ ap (option_and_then (value_below (rest names))) some))
