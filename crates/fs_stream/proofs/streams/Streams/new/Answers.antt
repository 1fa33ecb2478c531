use Rattle.std.proofs.Common.{◌≡◌}
use Rattle.fs_stream.proofs.Standing.{stands_none}
use Rattle.fs_stream.specs.Streams.{none_opened}
use Rattle.fs_stream.proofs.streams.Streams.new.Goals as goal

pub invariant_of-result : goal.invariant_of-result
invariant_of-result c =
    stands_none _ c.args.limit
    (let is : record { opened = c.new.result.items; owners = c.new-2.result; limit = c.args.limit } ≡ none_opened c.args.limit = cc in is)
