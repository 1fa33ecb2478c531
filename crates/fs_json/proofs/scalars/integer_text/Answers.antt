use Rattle.std.proofs.Common.{◌≡◌, true, ◌∙◌, rules}
use Rattle.fs_json.specs.Integer.{is_numeral}
use Rattle.fs_json.proofs.Integers.{parsed}
use Rattle.fs_json.proofs.scalars.integer_text.Goals as goal

pub returns : goal.returns
returns c =
    let numeral : is_numeral c.args.text.now ≡ true = search rules in
    c.ok.ensures.value ∙ parsed c.args.text.now c.parse.result c.parse.ensures.value.0 numeral
