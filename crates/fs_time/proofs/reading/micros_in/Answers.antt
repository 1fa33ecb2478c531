use Rattle.std.proofs.Common.{sym}
use Rattle.fs_time.specs.Inner.{stamp_by}
use Rattle.fs_time.proofs.Stamp.{stamp_in-sound}
use Rattle.fs_time.proofs.reading.micros_in.Goals as goal

pub nanos_of-requires : goal.nanos_of-requires
nanos_of-requires c = let (fit, few, stamped) = stamp_in-sound c.args.text.now (stamp_by c.in_ok-parts_in.field-0) (sym c.in_ok-parts_in.ensures.value) in (fit, few)
