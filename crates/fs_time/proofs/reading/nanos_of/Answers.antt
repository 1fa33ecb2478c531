use Rattle.std.proofs.Common.{arith}
use Rattle.std.proofs.lemmas.Int.{ints}
use Rattle.fs_time.proofs.Civil.{less_offset}
use Rattle.fs_time.proofs.reading.nanos_of.Goals as goal

pub returns-clause-value : goal.returns-clause-value
returns-clause-value c = less_offset _ _ _ _ c.in_ok-clock.clock c.in_ok-minutes.minutes _ c.in_ok-clock.ensures.value c.in_ok-minutes.ensures (omega (arith, ints, c.in_ok-clock.ensures.range))
