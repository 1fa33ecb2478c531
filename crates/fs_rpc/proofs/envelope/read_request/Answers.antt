use Rattle.std.proofs.Common.{◌≤◌, arith}
use Rattle.serde_json.specs.Data.{depth}
use Rattle.serde_json.specs.Read.{max_depth}
use Rattle.serde_json.specs.View.{view as json}
use Rattle.fs_json.proofs.Readings.{of_reading}
use Rattle.fs_rpc.specs.Envelope.{envelope_at}
use Rattle.fs_rpc.specs.RequestJson.{envelope_json}
use Rattle.fs_rpc.proofs.RequestDepth.{envelope_within}
use Rattle.fs_rpc.proofs.envelope.read_request.Goals as goal

pub returns-clause-nests : goal.returns-clause-nests
returns-clause-nests c =
    let root = c.args.root.now in
    let d = json c.in_ok-v.v in
    of_reading (λ e. e) (λ e. depth (envelope_json e) ≤ max_depth) c.read_envelope.result (envelope_at root d) c.read_envelope.ensures.gives (envelope_within root d 121 c.in_ok-v.ensures.nests (omega arith))
