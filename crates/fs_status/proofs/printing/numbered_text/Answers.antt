use Rattle.std.proofs.Common.{rules}
use Rattle.fs_status.proofs.printing.numbered_text.Goals as goal

pub returns-in-Some : goal.returns-in-Some
returns-in-Some c = rw c.in-Some.is (search rules)
