use Rattle.std.proofs.Common.{arith, append-nil}
use Rattle.std.proofs.lemmas.Grind.{common_steps}
use Rattle.fs_time.proofs.Digits.{no_digits, last_digit}
use Rattle.fs_time.proofs.printing.+push_digits.Goals as goal

pub returns-then-places-eq0 : goal.returns-then-places-eq0
returns-then-places-eq0 t c = let none = no_digits c.args.places c.args.number c.if-places-eq0.true in rw (none, append-nil)

pub returns : goal.returns
returns t c = let more = last_digit c.args.places c.args.number c.if-places-eq0.false in rw more (grind (arith, common_steps))
