use Rattle.std.proofs.Common.{Err, sym, subst, ◌∙◌}
use Rattle.fs_path.specs.Way.{place_of}
use Rattle.serde_json.specs.View.{view as json}
use Rattle.fs_json.specs.Answer.{Gives}
use Rattle.fs_query.specs.Asked.{Asked}
use Rattle.fs_queryjson.proofs.Walks.{passed_on, walked_same}
use Rattle.fs_queryjson.proofs.read.walk_query.Goals as goal

pub returns-in-Ok : goal.returns-in-Ok
returns-in-Ok c = sym (walked_same c.whole-query.result c.args.parent.now (json c.args.v.now) (place_of c.args.way.now)) ∙ c.in-Ok.ensures

pub returns-in-Err : goal.returns-in-Err
returns-in-Err c =
    subst (λ r. Gives {X = Asked} (λ q. q) (Err c.in-Err.bad) r) (walked_same c.whole-query.result c.args.parent.now (json c.args.v.now) (place_of c.args.way.now)) (passed_on {X = Unit {0}} {Y = Asked} (λ u. c.walk_into.new.query) (λ q. q) c.in-Err.bad _ c.in-Err.ensures)
