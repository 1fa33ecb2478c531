use Rattle.std.proofs.lemmas.Bool.{iff_false}
use Rattle.fs_replay.proofs.Json.{json_found, json_missing}
use Rattle.serde_json.specs.View.{view as json}
use Rattle.fs_replay.proofs.line.json_of.Goals as goal

pub returns-in-Ok : goal.returns-in-Ok
returns-in-Ok c = json_found c.args.line.now (json c.in-Ok.v) c.in-Ok.ensures.ok.0 c.in-Ok.ensures.ok.1

pub returns-else-is_memory : goal.returns-else-is_memory
returns-else-is_memory c = json_missing c.args.line.now (c.in-Err.ensures.err (iff_false c.is_memory.ensures c.if-is_memory.false))
