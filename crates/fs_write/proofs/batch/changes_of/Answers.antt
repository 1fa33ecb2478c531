use Rattle.std.proofs.Common.{ap, ◌∙◌}
use Rattle.fs_write.proofs.StageChanges.{changes_in, no_more, staged_changes}
use Rattle.fs_write.proofs.batch.changes_of.Goals as goal

pub returns : goal.returns
returns c =
    let begun = c.into_iter-name-iterator.ensures.into_iter_gives in
    staged_changes c.args.stage.entries c.loop-name.changes begun.5
    (no_more c.loop-name.changes c.loop-name.name-iterator (changes_in c.into_iter-name-iterator.result) c.loop-name.invariant c.in-None.ensures.steps.0 ∙ ap changes_in begun.0)
