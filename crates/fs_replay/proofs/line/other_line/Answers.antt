use Rattle.serde_json.specs.View.{view as json}
use Rattle.fs_replay.specs.Line.{form_at}
use Rattle.fs_replay.proofs.Reading.{read_refused}
use Rattle.fs_replay.proofs.line.other_line.Goals as goal

pub returns-in-Err : goal.returns-in-Err
returns-in-Err c = read_refused c.in-Err.bad (form_at c.args.root.now (json c.args.v.now)) c.refused.result c.in-Err.ensures c.refused.ensures
