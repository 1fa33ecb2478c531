use Rattle.std.proofs.Common.{IfOk, sym, subst}
use Rattle.serde_json.specs.View.{view as json}
use Rattle.fs_rpc.specs.ValidRequest.{IsRequestOf}
use Rattle.fs_rpc.proofs.RequestValid.{request_valid}
use Rattle.fs_rpc.proofs.envelope.read_session_request.Goals as goal

pub returns-clause-valid : goal.returns-clause-valid
returns-clause-valid c =
    let root = c.args.root.now in
    subst (λ r. IfOk r (IsRequestOf root)) (sym c.in_ok-request.ensures) (request_valid root c.in_ok-method.method.now (json c.in_ok-method.content.now))
