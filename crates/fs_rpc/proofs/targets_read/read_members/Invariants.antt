use Rattle.std.proofs.Common.{◌≡◌}
use Rattle.fs_path.specs.Way.{place_of}
use Rattle.serde_json.specs.View.{members_view}
use Rattle.fs_rpc.specs.ReadTargets.{texts_at}
use Rattle.fs_rpc.proofs.targets_read.read_members.Given as goal

-- the members so far are texts
abbrev pub invariant-loop-key : goal.invariant-loop-key
invariant-loop-key l = texts_at (members_view l.members.entries) (place_of l.way) ≡ texts_at (members_view l.key-iterator) (place_of l.way)
