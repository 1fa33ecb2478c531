use Rattle.std.proofs.Common.{sym, rules, arith}
use Rattle.std.proofs.lemmas.Option.{IfSome_then}
use Rattle.fs_time.proofs.Digits.{number_at-none, number_at-more, power_more, power_below}
use Rattle.fs_time.proofs.reading.+number_at.Goals as goal

pub returns-then-count-eq0-clause-value : goal.returns-then-count-eq0-clause-value
returns-then-count-eq0-clause-value t c = sym (number_at-none c.args.count c.args.text.now c.if-count-eq0.true)

pub returns-in_err-number-clause-value : goal.returns-in_err-number-clause-value
returns-in_err-number-clause-value t c = rw (number_at-more c.args.count c.args.text.now c.if-count-eq0.false) (search rules)

pub digit_more-requires : goal.digit_more-requires
digit_more-requires t c = power_below c.args.count c.in_ok-number.number c.if-count-eq0.false c.requires c.in_ok-number.ensures.bound

pub returns-clause-value : goal.returns-clause-value
returns-clause-value t c = rw (number_at-more c.args.count c.args.text.now c.if-count-eq0.false) (search rules)

pub returns-clause-bound : goal.returns-clause-bound
returns-clause-bound t c =
    let most = power_more c.args.count c.in_ok-number.number c.if-count-eq0.false c.in_ok-number.ensures.bound in
    IfSome_then c.digit_more.result c.digit_more.ensures.bound (λ read below. omega arith)
