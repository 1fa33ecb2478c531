use Rattle.std.proofs.Common.{append-nil, refl}
use Rattle.fs_time.proofs.Digits.{no_digits}
use Rattle.fs_time.proofs.printing.push_decimals.Goals as goal

pub returns-then-parts-eq0 : goal.returns-then-parts-eq0
returns-then-parts-eq0 c = rw c.if-parts-eq0.true (rw (no_digits 0 c.args.parts.fraction refl, append-nil) refl)
