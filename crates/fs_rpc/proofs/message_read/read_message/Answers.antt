use Rattle.std.proofs.Common.{◌≤◌, arith}
use Rattle.serde_json.specs.Data.{depth}
use Rattle.serde_json.specs.Read.{max_depth}
use Rattle.serde_json.specs.View.{view as json}
use Rattle.fs_json.proofs.Readings.{of_reading}
use Rattle.fs_rpc.specs.MessageJson.{message_json}
use Rattle.fs_rpc.specs.ReadMessage.{message_at}
use Rattle.fs_rpc.specs.ValidMessage.{IsMessageOf}
use Rattle.fs_rpc.proofs.MessageDepth.{message_within}
use Rattle.fs_rpc.proofs.MessageValid.{message_valid}
use Rattle.fs_rpc.proofs.message_read.read_message.Goals as goal

pub returns-clause-valid : goal.returns-clause-valid
returns-clause-valid c =
    let root = c.args.root.now in
    let d = json c.in_ok-v.v in
    of_reading (λ m. m) (IsMessageOf root) c.read_members.result (message_at root d) c.read_members.ensures (message_valid root d)

pub returns-clause-nests : goal.returns-clause-nests
returns-clause-nests c =
    let root = c.args.root.now in
    let d = json c.in_ok-v.v in
    of_reading (λ m. m) (λ m. depth (message_json m) ≤ max_depth) c.read_members.result (message_at root d) c.read_members.ensures (message_within root d 123 c.in_ok-v.ensures.nests (omega arith))
