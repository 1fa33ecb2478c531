use Rattle.std.proofs.Common.{ap, ◌∙◌}
use Rattle.fs_edit.specs.ArrayChanges.{after_all, elements_after}
use Rattle.fs_edit.proofs.Together.{after_all-push}
use Rattle.fs_edit.proofs.open_array.OpenArray.change.Goals as goal

pub returns : goal.returns
returns c =
    ap (λ changes. after_all changes c.self.inside.there) c.in_ok-push.ensures.items
    ∙ after_all-push c.self.inside.changes.items c.args.change c.self.inside.there
    ∙ ap (elements_after c.args.change) c.self.view_is
