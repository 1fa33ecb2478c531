use Rattle.std.proofs.Common.{length}
use Rattle.fs_json.proofs.members.+refuse_unbuilt.Given as goal

abbrev pub decreases-refuse_unbuilt : goal.decreases-refuse_unbuilt
decreases-refuse_unbuilt l = length l.names.now
