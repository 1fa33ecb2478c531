-- The refusal of a commit for the fault of one of its writes, which is named by its number in the commit, counted from 0.
use Rattle.std.specs.Prelude.{ℕ, Option, Some, None, Result, Ok, Err}
use Rattle.fs_status.specs.Refusal.{refusal_of}
use Rattle.fs_status.specs.declared.reason.Reason.{Reason}
use Rattle.fs_status.specs.declared.reason.Reason.TheVariants.{Missing, Exists, OtherTime, DeepAfter, LargeAfter}
use Rattle.fs_status.specs.declared.refusal.Refusal.{Refusal}
use Rattle.fs_write.specs.OneWrite.{Fault, missing, exists, other_time, deep, large}

abbrev pub reason_of : ℕ → Fault → Reason
reason_of write missing = Missing write
reason_of write exists = Exists write
reason_of write (other_time time) = OtherTime write time
reason_of write deep = DeepAfter write
reason_of write (large bytes) = LargeAfter write bytes

-- the refusal for what a write came to, if it is a fault
abbrev pub refused : {A : Type 0} → ℕ → Result A Fault → Option Refusal
refused write (Ok done) = None
refused write (Err fault) = Some (refusal_of (reason_of write fault))
