use Rattle.std.proofs.Common.{Ok, ap, sym, ◌∙◌}
use Rattle.std.proofs.lemmas.Result.{err_from_is_err_and}
use Rattle.fs_path.specs.Findings.{findings, document_refusals}
use Rattle.fs_path.specs.Head.{head_name}
use Rattle.fs_path.specs.Refusal.{unless_refused}
use Rattle.fs_path.proofs.Refusals.{accepts_too, refuses_too}
use Rattle.fs_path.proofs.parse.read_name.Goals as goal

pub returns-in_err-check_document-clause-err : goal.returns-in_err-check_document-clause-err
returns-in_err-check_document-clause-err c =
    let p = err_from_is_err_and c.from_residual.result c.from_residual.ensures.1 in
    let tests = document_refusals (findings (head_name c.args.head).ids) c.args.bytes in
    let said = sym (c.in_err-check_document.ensures ∙ ap (λ f. unless_refused (tt {0}) (document_refusals f c.args.bytes)) c.survey_of.ensures) in
    rw (p.1, p.2) (λ _. refuses_too (tt {0}) (head_name c.args.head) _ tests said)

pub returns-clause-ok : goal.returns-clause-ok
returns-clause-ok c =
    let tests = document_refusals (findings (head_name c.args.head).ids) c.args.bytes in
    let said = sym (c.in_ok-check_document.ensures ∙ ap (λ f. unless_refused (tt {0}) (document_refusals f c.args.bytes)) c.survey_of.ensures) in
    accepts_too (tt {0}) (tt {0}) (head_name c.args.head) tests said ∙ ap Ok (sym c.in_ok-of_head.ensures)
