use Rattle.std.proofs.Common.{◌<◌, ◌∙◌, sym, ap, length, arith}
use Rattle.std.specs.Prelude.{option_map}
use Rattle.fs_value.specs.View.{view}
use Rattle.fs_value.proofs.PathSteps.{first_name, get_missing, get_below, get_no_map, get_map, rest}
use Rattle.fs_value.proofs.path.+get_at.Goals as goal

pub returns-in_err-there-in-len1-up : goal.returns-in_err-there-in-len1-up
returns-in_err-there-in-len1-up t c =
    let key = c.as_str-in-len1-up.result.now in
    let names = c.args.names.now in
    let more : 1 < length names = omega arith in
    let first = first_name names key c.key-item-2.result c.as_str-in-len1-up.ensures.value c.key-item-2.is in
    ap (option_map (λ v. view v.now)) c.from_residual.ensures
    ∙ sym (get_missing names key c.args.fields.now more first (sym c.find-in-len1-up.ensures ∙ ap (option_map (λ v. view v.now)) c.in_err-there-in-len1-up.was))

pub returns-in-Map : goal.returns-in-Map
returns-in-Map t c =
    let key = c.as_str-in-len1-up.result.now in
    let names = c.args.names.now in
    let more : 1 < length names = omega arith in
    let first = first_name names key c.key-item-2.result c.as_str-in-len1-up.ensures.value c.key-item-2.is in
    c.get_at.ensures
    ∙ get_map (rest names) (view c.in_ok-there-in-len1-up.there.now) c.in-Map.inner (ap view c.in-Map.is)
    ∙ sym (get_below names key (view c.in_ok-there-in-len1-up.there.now) c.args.fields.now more first (sym c.find-in-len1-up.ensures ∙ ap (option_map (λ v. view v.now)) c.in_ok-there-in-len1-up.was))

pub returns-in_default : goal.returns-in_default
returns-in_default t c =
    let key = c.as_str-in-len1-up.result.now in
    let names = c.args.names.now in
    let more : 1 < length names = omega arith in
    let first = first_name names key c.key-item-2.result c.as_str-in-len1-up.ensures.value c.key-item-2.is in
    sym (get_no_map names key c.in_ok-there-in-len1-up.there.now c.args.fields.now more first (sym c.find-in-len1-up.ensures ∙ ap (option_map (λ v. view v.now)) c.in_ok-there-in-len1-up.was) c.in_default.not-Map)
