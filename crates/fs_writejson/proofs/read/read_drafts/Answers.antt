use Rattle.std.proofs.Common.{List, rules}
use Rattle.std.specs.List.{AllByRecursion}
use Rattle.serde_json.specs.View.{view as json}
use Rattle.fs_path.specs.Way.{place_of}
use Rattle.fs_json.specs.Answer.{Gives}
use Rattle.fs_json.proofs.Readings.{of_reading}
use Rattle.fs_writejson.specs.Draft.{drafts_at}
use Rattle.fs_writejson.specs.Valid.{IsDraftOf}
use Rattle.fs_writejson.proofs.WriteValid.{drafts_valid}
use Rattle.fs_writejson.specs.declared.draft.Draft.{Draft}
use Rattle.fs_writejson.proofs.read.read_drafts.Goals as goal

pub returns-clause-valid : goal.returns-clause-valid
returns-clause-valid c =
    let root = c.args.root.now in
    let place = place_of c.args.way.now in
    let read : Gives {Y = List Draft} (λ ds. ds) c.read_each.result (drafts_at root (json c.args.v.now) place) = search rules in
    of_reading {Y = List Draft} (λ ds. ds) (AllByRecursion (IsDraftOf root)) c.read_each.result (drafts_at root (json c.args.v.now) place) read (drafts_valid root (json c.args.v.now) place)
