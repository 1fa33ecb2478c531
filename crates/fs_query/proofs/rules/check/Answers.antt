use Rattle.std.proofs.Common.{sym}
use Rattle.fs_query.proofs.RuleParts.{early_rule}
use Rattle.fs_query.proofs.rules.check.Goals as goal

pub returns-in-Some : goal.returns-in-Some
returns-in-Some c = sym (early_rule c.args.q.now c.in-Some.rule (sym c.in-Some.ensures))
