use Rattle.std.proofs.lemmas.Result.{IfOk-weaker}
use Rattle.fs_path.proofs.Documents.{document_found, document_only, bad_document}
use Rattle.fs_path.proofs.parse.parse_document.Goals as goal

pub returns-clause-found : goal.returns-clause-found
returns-clause-found c = IfOk-weaker c.read_own.result _ _ (λ n h. document_found c.args.root.now c.args.text.now n h) c.read_own.ensures.ok

pub returns-clause-only : goal.returns-clause-only
returns-clause-only c = document_only c.args.root.now c.args.text.now

pub returns-clause-prefix : goal.returns-clause-prefix
returns-clause-prefix c = bad_document c.args.root.now c.args.text.now
