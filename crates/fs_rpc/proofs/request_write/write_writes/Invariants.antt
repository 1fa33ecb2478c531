use Rattle.std.proofs.Common.{◌≡◌, map, take}
use Rattle.std.specs.List.{AllByRecursion}
use Rattle.serde_json.specs.View.{view as json}
use Rattle.fs_writejson.specs.Written.{write_json}
use Rattle.fs_rpc.specs.RequestSteps.{IsWriteHeld}
use Rattle.fs_rpc.proofs.request_write.write_writes.Given as goal

-- the writes so far are written
abbrev pub invariant-loop-write : goal.invariant-loop-write
invariant-loop-write l = record {
  written : map json l.items.items ≡ map write_json (take l.write-index l.writes);
  held : AllByRecursion IsWriteHeld (take l.write-index l.writes);
}
