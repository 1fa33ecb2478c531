use Rattle.std.proofs.Common.{◌≡◌, Ok, rules}
use Rattle.std.proofs.lemmas.Result.{IfOk-at_ok}
use Rattle.std.specs.List.{AllByRecursion}
use Rattle.fs_path.specs.Way.{place_of}
use Rattle.fs_writejson.specs.Rules.{judged_at}
use Rattle.fs_writejson.specs.Valid.{IsWriteOf}
use Rattle.fs_writejson.proofs.RulesValid.{judged_valid}
use Rattle.fs_writejson.proofs.rules.judge.Goals as goal

pub returns-clause-valid : goal.returns-clause-valid
returns-clause-valid c = λ root are.
    let place = place_of c.args.way.now in
    let judged : judged_at c.args.drafts place ≡ Ok c.of.result = search rules in
    IfOk-at_ok (AllByRecursion (IsWriteOf root)) judged (judged_valid root c.args.drafts place are)
