use Rattle.std.proofs.Common.{ap, ◌∙◌}
use Rattle.std.specs.FinMap.{put}
use Rattle.fs_path.specs.TextOrder.{text_cmp}
use Rattle.fs_edit.specs.OpenView.{open_view}
use Rattle.fs_edit.proofs.Entries.{changed}
use Rattle.fs_edit.proofs.open_fields.OpenFields.put.Goals as goal

pub returns : goal.returns
returns c =
    changed c.self.inside.entries.entries c.insert.new.self.entries c.args.key c.args.held c.insert.ensures.was_ordered c.insert.ensures.ordered c.in_ok-before.ensures.updates.0
    ∙ ap (put text_cmp c.args.key (open_view c.args.held)) c.self.view_is
