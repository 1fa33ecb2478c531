use Rattle.std.proofs.Common.{sym}
use Rattle.serde_json.specs.View.{view as json}
use Rattle.fs_replay.proofs.Plain.{form_asked}
use Rattle.fs_replay.proofs.line.line_in.Goals as goal

pub returns-in-Ok : goal.returns-in-Ok
returns-in-Ok c = sym (form_asked c.args.root.now (json c.args.v.now) c.in-Ok.asked c.in-Ok.ensures.gives)
