use Rattle.std.proofs.Common.{sym, ◌∙◌}
use Rattle.serde_json.specs.View.{view as json}
use Rattle.fs_replay.specs.Line.{form_at}
use Rattle.fs_replay.proofs.Plain.{plain_refused}
use Rattle.fs_replay.proofs.Reading.{read_refused}
use Rattle.fs_replay.proofs.line.unread.Goals as goal

pub returns : goal.returns
returns c =
    let none = plain_refused c.args.root.now (json c.args.v.now) c.args.bad (sym c.has_form.ensures ∙ c.if-has_form.false) c.requires in
    read_refused c.args.bad (form_at c.args.root.now (json c.args.v.now)) c.refused-2.result none c.refused-2.ensures
