use Rattle.std.proofs.lemmas.Result.{IfOk-weaker}
use Rattle.fs_path.proofs.Documents.{reference_only, document_only}
use Rattle.fs_path.proofs.print.print_document.Goals as goal

pub returns-clause-again : goal.returns-clause-again
returns-clause-again c n = IfOk-weaker c.name_text.result _ _ (λ t e. reference_only t c.args.name.now n e) c.name_text.ensures

pub returns-clause-in_root : goal.returns-clause-in_root
returns-clause-in_root c root n = IfOk-weaker c.name_text.result _ _ (λ t e. document_only root t c.args.name.now n e) c.name_text.ensures
