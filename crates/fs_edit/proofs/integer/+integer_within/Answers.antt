use Rattle.std.proofs.Common.{◌<◌, ap, sym, ◌∙◌, length, arith}
use Rattle.std.specs.Prelude.{Some, None, option_map}
use Rattle.fs_value.specs.View.{view}
use Rattle.fs_edit.specs.Numbers.{integer_in}
use Rattle.fs_value.proofs.PathSteps.{first_name}
use Rattle.fs_edit.proofs.Steps.{within_map, within_other}
use Rattle.fs_edit.proofs.integer.+integer_within.Goals as goal

pub returns-in_err-find-in-Map : goal.returns-in_err-find-in-Map
returns-in_err-find-in-Map t c =
    let names = c.args.names.now in
    let more : 0 < length names = omega arith in
    let key = c.as_str.result.now in
    let first = first_name names key c.key-item.result c.as_str.ensures.value c.key-item.is in
    let none = sym c.find.ensures ∙ ap (option_map (λ v. view v.now)) c.in_err-find-in-Map.was in
    c.from_residual.ensures
    ∙ sym (ap integer_in (within_map names key (view c.args.value.now) c.in-Map.fields None more first (ap view c.in-Map.is) none))

pub returns-in_ok-find-in-Map : goal.returns-in_ok-find-in-Map
returns-in_ok-find-in-Map t c =
    let names = c.args.names.now in
    let more : 0 < length names = omega arith in
    let key = c.as_str.result.now in
    let first = first_name names key c.key-item.result c.as_str.ensures.value c.key-item.is in
    let there = c.in_ok-find-in-Map.field-0.now in
    let some = sym c.find.ensures ∙ ap (option_map (λ v. view v.now)) c.in_ok-find-in-Map.was in
    c.integer_within.ensures
    ∙ sym (ap integer_in (within_map names key (view c.args.value.now) c.in-Map.fields (Some (view there)) more first (ap view c.in-Map.is) some))

pub returns-in_default : goal.returns-in_default
returns-in_default t c =
    let names = c.args.names.now in
    let more : 0 < length names = omega arith in
    sym (ap integer_in (within_other names c.args.value.now more c.in_default.not-Map))
