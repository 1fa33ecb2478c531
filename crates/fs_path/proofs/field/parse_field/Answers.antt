use Rattle.std.proofs.Common.{◌∙◌}
use Rattle.fs_path.proofs.Fields.{read_found, read_refused, some_names}
use Rattle.fs_path.proofs.FieldReads.{field_is, field_only}
use Rattle.fs_path.proofs.field.parse_field.Goals as goal

pub invariant_of-result : goal.invariant_of-result
invariant_of-result c = record { some = some_names c.in-Ok.parts c.args.text.now (read_found c.args.text.now c.in-Ok.parts c.in-Ok.ensures.ok) }

pub returns-in-Ok-clause-ok : goal.returns-in-Ok-clause-ok
returns-in-Ok-clause-ok c = field_is c.args.text.now ∙ c.in-Ok.ensures.ok

pub returns-in-Err-clause-err : goal.returns-in-Err-clause-err
returns-in-Err-clause-err c = λ real. field_is c.args.text.now ∙ c.in-Err.ensures.err real

pub returns-in-Ok-clause-found : goal.returns-in-Ok-clause-found
returns-in-Ok-clause-found c = read_found c.args.text.now c.in-Ok.parts c.in-Ok.ensures.ok

pub returns-in-Ok-clause-only : goal.returns-in-Ok-clause-only
returns-in-Ok-clause-only c = field_only c.args.text.now

pub returns-in-Err-clause-only : goal.returns-in-Err-clause-only
returns-in-Err-clause-only c = field_only c.args.text.now

pub returns-in-Err-clause-front : goal.returns-in-Err-clause-front
returns-in-Err-clause-front c = λ real. read_refused c.args.text.now c.in-Err.e (c.in-Err.ensures.err real)
