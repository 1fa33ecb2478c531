use Rattle.std.proofs.Common.{◌≢◌, get_or, ◌∙◌, arith}
use Rattle.std.proofs.lemmas.Bool.Decides.{not_from_Decides}
use Rattle.std.proofs.lemmas.Str.Pattern.{starts_char}
use Rattle.fs_rpc.proofs.Decimals.{parsed}
use Rattle.fs_rpc.proofs.decimal.number_in_text.Goals as goal

pub returns : goal.returns
returns c =
    let text = c.args.text.now in
    let no_plus : get_or text 0 0 ≢ 43 =
    not_from_Decides c.starts_with.result (starts_char 43 text c.starts_with.result c.starts_with.ensures.cases (omega arith) (omega arith)) c.if-starts_with.false in
    c.ok.ensures.value ∙ parsed text c.parse.result c.parse.ensures.value.0 (omega arith) no_plus
