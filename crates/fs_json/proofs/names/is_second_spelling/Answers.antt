use Rattle.std.proofs.Common.{◌≡◌, false, length, nat_lt, sym, ◌∙◌, arith}
use Rattle.std.proofs.lemmas.Bool.Decides.{nat_tests}
use Rattle.fs_json.proofs.Found.{no_second_short}
use Rattle.fs_json.proofs.names.is_second_spelling.Goals as goal

pub returns-else-key-name : goal.returns-else-key-name
returns-else-key-name c =
    let short : nat_lt (length c.args.name.now) (length c.args.key.now) ≡ false = grind (arith, nat_tests, c.if-key-name.false) in
    short ∙ sym (no_second_short c.args.name.now c.args.key.now c.if-key-name.false)
