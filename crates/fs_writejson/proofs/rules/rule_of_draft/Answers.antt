use Rattle.std.proofs.Common.{◌≡◌, None, Some, rules}
use Rattle.fs_write.specs.Rules.{rule_of_write}
use Rattle.fs_writejson.proofs.Least.{low_rule}
use Rattle.fs_writejson.proofs.rules.rule_of_draft.Goals as goal

pub returns-in-Some-2 : goal.returns-in-Some-2
returns-in-Some-2 c =
    let draft = c.args.draft.now in
    let none : draft.idle_mask ≡ None = search rules in
    let is : rule_of_write draft.write ≡ Some c.in-Some-2.rule = search rules in
    low_rule draft c.in-Some-2.rule none is c.if-rule-lt4.true
