use Rattle.std.proofs.Common.{ap, ◌∙◌}
use Rattle.fs_value.specs.FieldPaths.{without}
use Rattle.fs_edit.proofs.Entries.{removed}
use Rattle.fs_edit.proofs.open_fields.OpenFields.remove.Goals as goal

pub returns : goal.returns
returns c =
    removed c.self.inside.entries.entries c.remove.new.self.entries c.args.key.now c.len-count.ensures.ordered c.remove.ensures.ordered c.remove.ensures.updates.0
    ∙ ap (without c.args.key.now) c.self.view_is
