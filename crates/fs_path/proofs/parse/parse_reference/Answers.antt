use Rattle.std.proofs.lemmas.Result.{IfOk-weaker}
use Rattle.fs_path.proofs.Documents.{reference_found, reference_only, bad_reference}
use Rattle.fs_path.proofs.parse.parse_reference.Goals as goal

pub returns-clause-found : goal.returns-clause-found
returns-clause-found c = IfOk-weaker c.read_reference.result _ _ (λ n h. reference_found c.args.text.now n h) c.read_reference.ensures.ok

pub returns-clause-only : goal.returns-clause-only
returns-clause-only c = reference_only c.args.text.now

pub returns-clause-prefix : goal.returns-clause-prefix
returns-clause-prefix c = bad_reference c.args.text.now
