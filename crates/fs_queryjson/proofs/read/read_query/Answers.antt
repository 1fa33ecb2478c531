use Rattle.std.proofs.lemmas.Result.{IfOk-at_ok, IfOk-weaker}
use Rattle.serde_json.specs.View.{view as json}
use Rattle.fs_path.specs.Way.{place_of}
use Rattle.fs_json.proofs.Readings.{of_reading}
use Rattle.fs_queryjson.specs.Query.{permitted_at}
use Rattle.fs_queryjson.specs.Valid.{IsReadBelow, IsValid, IsWalked}
use Rattle.fs_queryjson.proofs.QueryValid.{permitted_valid, walked_valid}
use Rattle.fs_queryjson.proofs.read.read_query.Goals as goal

pub returns-clause-valid : goal.returns-clause-valid
returns-clause-valid c =
    let parent = c.args.parent.now in
    let place = place_of c.args.way.now in
    let query = c.in_ok-query.query in
    let is : IsWalked parent query = IfOk-at_ok (IsWalked parent) c.in_ok-query.ensures (walked_valid parent (json c.args.v.now) place) in
    let below = of_reading (λ q. q) (IsReadBelow parent) c.judge_query.result (permitted_at query place) c.judge_query.ensures (permitted_valid parent query place is) in
    IfOk-weaker c.judge_query.result (IsReadBelow parent) IsValid (λ q read. read.valid) below
