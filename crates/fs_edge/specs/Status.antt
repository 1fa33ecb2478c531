-- Exit statuses.
use Rattle.std.specs.Prelude.{ℕ}
use Rattle.fs_edge.specs.declared.status.Status.{Status}
use Rattle.fs_edge.specs.declared.status.Status.TheVariants as status

abbrev pub exit_code_of : Status → ℕ
exit_code_of status.Ok = 0
exit_code_of status.Usage = 2
exit_code_of status.Memory = 3
exit_code_of status.ReadFault = 4
exit_code_of status.WriteFault = 5
exit_code_of status.InputLimit = 6
exit_code_of status.DoorFault = 7
