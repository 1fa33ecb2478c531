use Rattle.std.proofs.Common.{◌≡◌, true, is_some, rules, subst}
use Rattle.std.specs.FinMap.{get}
use Rattle.fs_local.proofs.Standing.{stands_after}
use Rattle.fs_local.specs.Runs.{unlistens}
use Rattle.fs_local.specs.Stands.{Stands}
use Rattle.fs_client.proofs.client.Client.unlisten.Goals as goal

pub invariant_of-self-2 : goal.invariant_of-self-2
invariant_of-self-2 c =
    let there : is_some (get c.self.inside.targets.listened c.args.id) ≡ true = search rules in
    let request = c.in_ok-remove_request.ensures in
    let asked = c.in_ok-ask.ensures.ok in
    subst Stands (cc (request, asked)) (stands_after (unlistens c.args.id) _ there c.self.invariant)
