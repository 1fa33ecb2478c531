use Rattle.std.proofs.Common.{◌+◌, length, drop, Ok, refl, ap, ◌∙◌, arith}
use Rattle.std.proofs.lemmas.List.{length-append}
use Rattle.std.proofs.lemmas.Result.{err_from_is_err_and}
use Rattle.fs_write.specs.Batch.{docs_of, all_writes}
use Rattle.fs_write.specs.declared.write_result.WriteResult.{WriteResult}
use Rattle.fs_write.proofs.Names.{changes_named}
use Rattle.fs_write.proofs.StageChanges.{batch_changes}
use Rattle.fs_write.proofs.Stages.{so_far_none, so_far_more, so_far_refused, next_of, none_left}
use Rattle.fs_write.proofs.batch.apply_all.Goals as goal

pub loop-write-init : goal.loop-write-init
loop-write-init c = record {
  number = ap length c.new-results.ensures;
  so_far = so_far_none (docs_of c.args.docs.now) c.new-stage.result.entries c.new-results.result c.args.writes.now c.args.time c.new-stage.ensures.empty c.new-results.ensures;
}

pub returns-in_err-answer-clause-err : goal.returns-in_err-answer-clause-err
returns-in_err-answer-clause-err c =
    let p = err_from_is_err_and c.from_residual.result c.from_residual.ensures.1 in
    rw (p.1, p.2) (λ apart.
    so_far_refused (docs_of c.args.docs.now) c.loop-write.stage.entries c.loop-write.results c.args.writes.now (drop c.loop-write.write-index c.args.writes.now)
    (drop (c.loop-write.write-index + 1) c.args.writes.now) c.args.time c.write-item.result
    (next_of c.args.writes.now c.args.writes.now c.loop-write.write-index c.write-item.result refl c.loop-write-test.true c.write-item.is)
    c.loop-write.invariant.so_far _ c.in_err-answer.field-0.0 c.len-number.ensures (c.in_err-answer.ensures.err apart))

pub loop-write-preserved : goal.loop-write-preserved
loop-write-preserved c = record {
  number = omega (arith, ap length c.in_ok-push.ensures.ok, length-append {A = WriteResult}, c.loop-write.invariant.number);
  so_far =
      so_far_more (docs_of c.args.docs.now) c.loop-write.stage.entries c.loop-write.results c.args.writes.now (drop c.loop-write.write-index c.args.writes.now)
      (drop (c.loop-write.write-index + 1) c.args.writes.now) c.args.time c.write-item.result
      (next_of c.args.writes.now c.args.writes.now c.loop-write.write-index c.write-item.result refl c.loop-write-test.true c.write-item.is)
      c.loop-write.invariant.so_far c.write_next.new.stage.entries c.in_ok-answer.answer c.push.new.self c.in_ok-answer.ensures.ok c.in_ok-push.ensures.ok;
}

pub returns-clause-ok : goal.returns-clause-ok
returns-clause-ok c =
    let had = c.loop-write.invariant.so_far in
    record {
      after = had.after;
      done = had.so_far ∙ ap (λ ws. all_writes (Ok (had.after, c.loop-write.results)) ws c.args.time) (none_left c.args.writes.now c.args.writes.now c.loop-write.write-index refl c.loop-write-test.false);
      changed = batch_changes (docs_of c.args.docs.now) had.after c.loop-write.stage.entries c.in_ok-changes_of.field-0 had.staged c.in_ok-changes_of.ensures;
    }

pub returns-clause-named : goal.returns-clause-named
returns-clause-named c =
    changes_named c.args.docs.now c.args.writes.now c.args.time c.in_ok-changes_of.field-0 c.loop-write.results c.requires.rising (returns-clause-ok c)
