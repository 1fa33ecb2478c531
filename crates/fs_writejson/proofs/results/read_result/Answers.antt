use Rattle.serde_json.specs.View.{view as json}
use Rattle.fs_path.specs.Way.{place_of}
use Rattle.fs_json.proofs.Readings.{of_reading}
use Rattle.fs_writejson.specs.Results.{write_result_at}
use Rattle.fs_writejson.specs.Valid.{ResultHasNames}
use Rattle.fs_writejson.proofs.WriteResults.{write_result_valid}
use Rattle.fs_writejson.proofs.results.read_result.Goals as goal

pub returns-clause-valid : goal.returns-clause-valid
returns-clause-valid c =
    let place = place_of c.args.way.now in
    of_reading (λ r. r) ResultHasNames c.read_members.result (write_result_at (json c.args.v.now) place) c.read_members.ensures (write_result_valid (json c.args.v.now) place)
