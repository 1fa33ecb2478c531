use Rattle.std.proofs.lemmas.Result.{IfOk-at_ok}
use Rattle.serde_json.specs.View.{view as json}
use Rattle.fs_rpc.specs.ValidRequest.{IsRequestOf}
use Rattle.fs_rpc.proofs.RequestValid.{request_valid}
use Rattle.fs_rpc.proofs.envelope.read_envelope.Goals as goal

pub returns-clause-valid : goal.returns-clause-valid
returns-clause-valid c =
    IfOk-at_ok (IsRequestOf c.args.root.now) c.in_ok-request.ensures (request_valid c.args.root.now c.in_ok-method.method.now (json c.in_ok-method.content.now))
