use Rattle.std.proofs.Common.{◌≡◌, map, take}
use Rattle.serde_json.specs.View.{view as json}
use Rattle.fs_rpc.specs.RequestJson.{name_json}
use Rattle.fs_rpc.proofs.request_write.write_names.Given as goal

-- the names so far are written
abbrev pub invariant-loop-name : goal.invariant-loop-name
invariant-loop-name l = map json l.items.items ≡ map name_json (take l.name-index l.names)
