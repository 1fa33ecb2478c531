use Rattle.std.proofs.Common.{◌≡◌, ℕ, List, Option, Ok, Err, sym, ap, ◌∙◌}
use Rattle.serde_json.specs.View.{view as json}
use Rattle.fs_path.specs.Way.{place_of}
use Rattle.fs_path.specs.declared.name.Root.{Root}
use Rattle.fs_json.specs.Answer.{made}
use Rattle.fs_request.specs.declared.request.Request.{Request}
use Rattle.fs_request.specs.declared.request.Request.TheVariants.{AddTarget}
use Rattle.fs_rpc.specs.RequestSteps.{added_at, beside_target_at}
use Rattle.fs_rpc.proofs.Structured.{passed_on}
use Rattle.fs_rpc.proofs.TargetSteps.{added_of_parts}
use Rattle.fs_rpc.proofs.targets_read.add_target.Goals as goal

pub returns-in-Ok : goal.returns-in-Ok
returns-in-Ok c =
    let root = c.args.root.now in
    let id = c.args.id in
    let t = c.args.target in
    let make : Root × Option (List ℕ) → Request = λ b. AddTarget b.0 id t b.1 in
    sym (added_of_parts root id t (json c.args.v.now) (place_of c.args.way.now)) ∙ ap (made make) c.in-Ok.ensures

pub returns-in-Err : goal.returns-in-Err
returns-in-Err c =
    let root = c.args.root.now in
    let id = c.args.id in
    let t = c.args.target in
    let d = json c.args.v.now in
    let place = place_of c.args.way.now in
    let make : Root × Option (List ℕ) → Request = λ b. AddTarget b.0 id t b.1 in
    passed_on {X = Root × Option (List ℕ)} {V = Request} (λ b. b) (λ r. r) c.in-Err.bad (beside_target_at root d place) (added_at root id t d place) c.in-Err.ensures
    (λ b h. sym (added_of_parts root id t d place) ∙ ap (made make) h)
