use Rattle.std.proofs.Common.{◌≡◌, true, ◌∙◌, rules}
use Rattle.fsemu.specs.Words.{is_number}
use Rattle.fsemu.proofs.Numbers.{parsed}
use Rattle.fsemu.proofs.values.number_in.Goals as goal

pub returns : goal.returns
returns c =
    let number : is_number c.args.text.now ≡ true = search rules in
    c.ok.ensures.value ∙ parsed c.args.text.now c.parse.result c.parse.ensures.value.0 number
