use Rattle.std.proofs.Common.{◌≡◌, Ok, Err, ap, ◌∙◌}
use Rattle.std.proofs.lemmas.Result.{IfOk-weaker, IfErr-weaker}
use Rattle.fs_path.specs.Refusal.{IsMemory}
use Rattle.fs_json.specs.Paths.{field_path_of, named}
use Rattle.fs_json.proofs.FieldPaths.{path_of-is}
use Rattle.fs_json.proofs.paths.field_path_in.Goals as goal

pub returns-clause-ok : goal.returns-clause-ok
returns-clause-ok c =
    let text = c.args.text.now in
    IfOk-weaker c.parse_field.result _ (λ p. field_path_of text ≡ Ok p) (λ p is. ap named is ∙ path_of-is p) c.parse_field.ensures.ok

pub returns-clause-err : goal.returns-clause-err
returns-clause-err c =
    let text = c.args.text.now in
    IfErr-weaker c.parse_field.result _ (λ e. ¬ IsMemory e → field_path_of text ≡ Err e) (λ e is wants. ap named (is wants)) c.parse_field.ensures.err
