use Rattle.std.proofs.Common.{arith, refl}
use Rattle.std.proofs.lemmas.Grind.{common_steps}
use Rattle.fs_time.proofs.Digits.{no_digits}
use Rattle.fs_time.proofs.printing.utc_text.Goals as goal

pub returns : goal.returns
returns c = rw c.requires (rw (no_digits 0 0 refl) (grind (arith, common_steps)))
