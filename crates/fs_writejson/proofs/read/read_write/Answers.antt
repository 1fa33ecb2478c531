use Rattle.std.proofs.lemmas.Result.{IfOk-at_ok}
use Rattle.serde_json.specs.View.{view as json}
use Rattle.fs_path.specs.Way.{place_of}
use Rattle.fs_json.proofs.Readings.{of_reading}
use Rattle.fs_writejson.specs.Rules.{permitted_at}
use Rattle.fs_writejson.specs.Valid.{IsDraftOf, IsWriteOf}
use Rattle.fs_writejson.proofs.RulesValid.{permitted_valid}
use Rattle.fs_writejson.proofs.WriteValid.{draft_valid}
use Rattle.fs_writejson.proofs.read.read_write.Goals as goal

pub returns-clause-valid : goal.returns-clause-valid
returns-clause-valid c =
    let root = c.args.root.now in
    let place = place_of c.args.way.now in
    let draft = c.in_ok-draft.draft in
    let is : IsDraftOf root draft = IfOk-at_ok (IsDraftOf root) c.in_ok-draft.ensures (draft_valid root (json c.args.v.now) place) in
    of_reading (λ w. w) (IsWriteOf root) c.permitted.result (permitted_at draft place) c.permitted.ensures (permitted_valid root draft place is)
