use Rattle.std.proofs.Common.{append_assoc, append-nil}
use Rattle.fs_time.proofs.printing.push_date_time.Goals as goal

pub returns : goal.returns
returns c =
    rw (
      c.in_ok-push_after-5.ensures,
      c.in_ok-push_after-4.ensures,
      c.in_ok-push_after-3.ensures,
      c.in_ok-push_after-2.ensures,
      c.in_ok-push_after.ensures,
      c.in_ok-push_digits.ensures,
    ) (simp (append_assoc, append-nil))
