use Rattle.std.proofs.Common.{sym, ◌∙◌}
use Rattle.fs_write.specs.OneWrite.{carried_out, fields_left, unmet}
use Rattle.fs_write.proofs.Unmet.{refused_met, refused_unmet}
use Rattle.fs_write.proofs.one_write.carry_out.Goals as goal

pub returns-in-Some-clause-err : goal.returns-in-Some-clause-err
returns-in-Some-clause-err c = λ other.
    refused_unmet c.args.number (unmet c.args.write.now.condition c.args.there)
    (carried_out (fields_left c.args.write.now.act c.args.there) c.args.there c.args.write.now c.args.time) c.in-Some.reason c.of.result
    (sym c.unmet.ensures ∙ c.in-Some.is) c.of.ensures

pub returns-clause-err : goal.returns-clause-err
returns-clause-err c =
    refused_met c.args.number (unmet c.args.write.now.condition c.args.there)
    (carried_out (fields_left c.args.write.now.act c.args.there) c.args.there c.args.write.now c.args.time) c.acted.result
    (sym c.unmet.ensures ∙ c.in_default.is) c.acted.ensures.err
