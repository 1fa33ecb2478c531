use Rattle.std.proofs.Common.{Some, ap, ◌∙◌}
use Rattle.fs_write.proofs.Stages.{get-docs}
use Rattle.fs_write.proofs.batch.stage_first.Goals as goal
use Rattle.fs_write.proofs.batch.stage_first.Goals.{in-Some+in_ok-copy-in-Some, in-None}

pub returns-clause-before : goal.returns-clause-before
returns-clause-before c =
    let there = get-docs c.args.docs.now c.args.name.now c.requires in
    elim c.match-find.branch [
      | in-Some+in_ok-copy-in-Some w ↦ w.before-is ∙ ap Some w.in_ok-copy-in-Some.ensures ∙ w.in-Some.ensures ∙ there
      | in-None w ↦ w.before-is ∙ w.in-None.ensures ∙ there
    ]

pub returns-clause-now : goal.returns-clause-now
returns-clause-now c = c.in_ok-now.ensures ∙ returns-clause-before c
