use Rattle.fs_write.specs.Batch.{docs_of}
use Rattle.fs_write.specs.declared.batch.Staged.{Staged}
use Rattle.fs_write.proofs.Stages.{next_stage}
use Rattle.fs_write.proofs.batch.write_next.Goals as goal

pub returns-clause-ok : goal.returns-clause-ok
returns-clause-ok c after stage =
    let written : Staged = record { before = c.in_ok-staged.staged.before; now = c.in_ok-now.now } in
    next_stage (docs_of c.args.docs.now) after c.args.stage.now.entries c.take.new.stage.entries c.put.new.stage.entries c.args.write.now c.args.time c.in_ok-now.answer
    c.name-name.result.now c.in_ok-staged.staged.now written
    stage c.name-name.ensures c.in_ok-staged.ensures.value c.in_ok-staged.ensures.taken c.in_ok-now.ensures.ok c.in_ok-put.ensures
