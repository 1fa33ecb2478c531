use Rattle.std.proofs.Common.{sym, ap, ◌∙◌}
use Rattle.fs_write.specs.OneWrite.{document_left}
use Rattle.fs_write.proofs.Fields.{left_same}
use Rattle.fs_write.proofs.one_write.document_left.Goals as goal

pub returns-then-is_same : goal.returns-then-is_same
returns-then-is_same c =
    sym (ap (λ there. document_left there c.args.name.now c.args.fields c.args.time) c.in-Some.is ∙ left_same c.in-Some.before c.args.name.now c.args.fields c.args.time (sym c.is_same.ensures ∙ c.if-is_same.true))
