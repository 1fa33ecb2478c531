use Rattle.std.proofs.lemmas.Result.{IfOk-weaker}
use Rattle.fs_path.proofs.Documents.{parent_found, parent_only, bad_parent}
use Rattle.fs_path.proofs.parse.parse_parent.Goals as goal

pub returns-clause-found : goal.returns-clause-found
returns-clause-found c = IfOk-weaker c.read_parent.result _ _ (λ ids h. parent_found c.args.root.now c.args.text.now ids h) c.read_parent.ensures.ok

pub returns-clause-only : goal.returns-clause-only
returns-clause-only c = parent_only c.args.root.now c.args.text.now

pub returns-clause-prefix : goal.returns-clause-prefix
returns-clause-prefix c = bad_parent c.args.root.now c.args.text.now
