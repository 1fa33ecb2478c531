use Rattle.std.proofs.Common.{◌≡◌, false, ap, ◌∙◌}
use Rattle.std.proofs.lemmas.Result.{IfOk-weaker}
use Rattle.serde_json.specs.View.{view as json}
use Rattle.serde_json.specs.Written.{has_float}
use Rattle.fs_value.specs.View.{view}
use Rattle.fs_valjson.specs.Writing.{value_json}
use Rattle.fs_valjson.proofs.Again.{reads_back}
use Rattle.fs_valjson.proofs.Floats.{value_float}
use Rattle.fs_valjson.proofs.write.write_value.Goals as goal

pub returns-clause-no_float : goal.returns-clause-no_float
returns-clause-no_float c =
    let d = view c.args.v.now in
    IfOk-weaker c.write.result (λ j. json j ≡ value_json d) (λ j. has_float (json j) ≡ false) (λ j is. ap has_float is ∙ value_float d) c.write.ensures.value

pub returns-clause-reads_back : goal.returns-clause-reads_back
returns-clause-reads_back c = reads_back c.write.result _ c.write.ensures.value c.write.ensures.held
