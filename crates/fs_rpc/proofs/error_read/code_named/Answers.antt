use Rattle.std.proofs.Common.{sym, ◌∙◌}
use Rattle.fs_rpc.proofs.Named.{named_both_ways}
use Rattle.fs_rpc.proofs.error_read.code_named.Goals as goal

pub returns-clause-both_ways : goal.returns-clause-both_ways
returns-clause-both_ways c = λ code.
    let both = named_both_ways c.args.status.now code in
    let is = c.find_code.ensures in
    (λ found. both.0 (sym is ∙ found), λ same. is ∙ both.1 same)
