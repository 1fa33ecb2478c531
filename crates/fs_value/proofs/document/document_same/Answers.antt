use Rattle.fs_value.proofs.Alike.{document_told}
use Rattle.fs_value.proofs.document.document_same.Goals as goal

pub returns-clause-meaning : goal.returns-clause-meaning
returns-clause-meaning c = document_told c.args.a.now c.args.b.now c.is_same.result c.is_same.ensures
