use Rattle.std.proofs.Common.{List, [], ◌∷◌, ◌++◌, Ok, refl, ap, sym, ◌∙◌}
use Rattle.std.proofs.lemmas.Result.{err_from_is_err_and}
use Rattle.std.specs.FinMap.{get}
use Rattle.fs_write.specs.Batch.{docs_of, with_document, after_write, change_of}
use Rattle.fs_write.specs.OneWrite.{one_write}
use Rattle.fs_write.specs.Refused.{refused}
use Rattle.fs_write.specs.Staging.{with_change}
use Rattle.fs_write.specs.WrittenName.{written_name}
use Rattle.fs_path.specs.declared.name.DocName.{DocName}
use Rattle.fs_write.specs.declared.batch.Staged.{Staged}
use Rattle.fs_write.specs.declared.change.Change.{Change}
use Rattle.fs_write.specs.declared.write_result.WriteResult.{WriteResult}
use Rattle.fs_write.proofs.Names.{changes_named}
use Rattle.fs_write.proofs.StageChanges.{one_change, batch_changes}
use Rattle.fs_write.proofs.Stages.{one_staged, refused_write}
use Rattle.fs_write.proofs.batch.apply_one.Goals as goal

pub returns-in_err-now-clause-err : goal.returns-in_err-now-clause-err
returns-in_err-now-clause-err c =
    let p = err_from_is_err_and c.from_residual-in_err-now.result c.from_residual-in_err-now.ensures.1 in
    let docs = docs_of c.args.docs.now in
    let there = c.in_ok-staged.ensures.now ∙ ap (get docs) c.name-name.ensures in
    rw (p.1, p.2) (λ apart.
    refused_write docs [] (written_name c.args.write.now) (one_write (get docs (written_name c.args.write.now)) c.args.write.now c.args.time) 0 c.in_err-now.field-0.0 refl
    (ap (λ o. refused 0 (one_write o c.args.write.now c.args.time)) (sym there) ∙ c.in_err-now.ensures.err apart))

pub returns-clause-ok : goal.returns-clause-ok
returns-clause-ok c =
    let docs = docs_of c.args.docs.now in
    let name = written_name c.args.write.now in
    let there = c.in_ok-staged.ensures.now ∙ ap (get docs) c.name-name.ensures in
    let written : Staged = record { before = c.in_ok-staged.staged.before; now = c.in_ok-now.now } in
    let change : DocName → List Change = λ n. with_change (change_of n written.before written.now) [] in
    let pushed = c.in_ok-push.ensures.ok ∙ ap (λ (rs : List WriteResult). rs ++ c.in_ok-now.answer ∷ []) c.new-results.ensures in
    let added =
    c.in_ok-add_change.ensures
    ∙ ap (λ (cs : List Change). cs ++ change c.in_ok-copy.field-0) c.new-changes.ensures
    ∙ ap change (c.in_ok-copy.ensures ∙ c.name-name.ensures) in
    record {
      after = with_document docs name c.in_ok-now.now;
      done = ap (λ o. after_write docs [] name (one_write o c.args.write.now c.args.time)) (sym there) ∙ ap (after_write docs [] name) c.in_ok-now.ensures.ok ∙ ap (λ rs. Ok (with_document docs name c.in_ok-now.now, rs)) (sym pushed);
      changed =
          batch_changes docs (with_document docs name c.in_ok-now.now) ((name, written) ∷ []) c.add_change.new.changes
          (one_staged docs name written (c.in_ok-staged.ensures.before ∙ ap (get docs) c.name-name.ensures)) (one_change name written c.add_change.new.changes added);
    }

pub returns-clause-named : goal.returns-clause-named
returns-clause-named c =
    changes_named c.args.docs.now (c.args.write.now ∷ []) c.args.time c.add_change.new.changes c.push.new.self c.requires (returns-clause-ok c)
