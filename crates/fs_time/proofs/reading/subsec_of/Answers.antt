use Rattle.std.proofs.Common.{arith}
use Rattle.fs_time.proofs.Civil.{fraction_below}
use Rattle.fs_time.proofs.reading.subsec_of.Goals as goal

pub overflow_mul-result : goal.overflow_mul-result
overflow_mul-result c =
    let below = fraction_below c.args.parts.places c.args.parts.fraction c.requires.1 c.requires.0.1.1.1.1.1.1.0 in
    rw c.pow.ensures (omega arith)

pub returns-clause-bound : goal.returns-clause-bound
returns-clause-bound c = rw c.pow.ensures (fraction_below c.args.parts.places c.args.parts.fraction c.requires.1 c.requires.0.1.1.1.1.1.1.0)
