use Rattle.std.proofs.Common.{rules}
use Rattle.fs_status.proofs.printing.update_time_text.Goals as goal

pub returns-in_ok-time-in-Some : goal.returns-in_ok-time-in-Some
returns-in_ok-time-in-Some c = rw c.in-Some.is (search rules)
