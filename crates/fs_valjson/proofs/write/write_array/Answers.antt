use Rattle.std.proofs.Common.{◌≡◌, false, ap, ◌∙◌}
use Rattle.std.proofs.lemmas.Result.{IfOk-weaker}
use Rattle.serde_json.specs.View.{view as json}
use Rattle.serde_json.specs.Written.{has_float}
use Rattle.fs_valjson.specs.Writing.{array_json}
use Rattle.fs_valjson.proofs.Again.{array_reads_back}
use Rattle.fs_valjson.proofs.Floats.{array_float}
use Rattle.fs_valjson.proofs.write.write_array.Goals as goal

pub returns-clause-no_float : goal.returns-clause-no_float
returns-clause-no_float c =
    let ds = c.args.values.now in
    IfOk-weaker c.write_content.result (λ j. json j ≡ array_json ds) (λ j. has_float (json j) ≡ false) (λ j is. ap has_float is ∙ array_float ds) c.write_content.ensures.value

pub returns-clause-reads_back : goal.returns-clause-reads_back
returns-clause-reads_back c = array_reads_back c.write_content.result _ c.write_content.ensures.value c.write_content.ensures.held
