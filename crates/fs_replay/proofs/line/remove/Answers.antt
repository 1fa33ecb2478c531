use Rattle.std.proofs.Common.{ap, ◌∙◌}
use Rattle.serde_json.specs.View.{members_view}
use Rattle.fs_replay.proofs.Removed.{removed}
use Rattle.fs_replay.proofs.line.remove.Goals as goal

pub returns : goal.returns
returns c = ap members_view c.remove.ensures.entries ∙ removed c.args.name.now c.args.members.now.entries
