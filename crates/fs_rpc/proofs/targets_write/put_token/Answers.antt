use Rattle.std.proofs.Common.{◌≡◌, OnOk, codes, sym, subst}
use Rattle.serde_json.specs.Data.{put}
use Rattle.serde_json.specs.View.{members_view}
use Rattle.fs_rpc.specs.RequestSteps.{with_token_put}
use Rattle.fs_rpc.proofs.targets_write.put_token.Goals as goal

pub returns-in_ok-written-in-Some-clause-value : goal.returns-in_ok-written-in-Some-clause-value
returns-in_ok-written-in-Some-clause-value c =
    let before = members_view c.args.members.now.entries in
    let after = members_view c.put.new.map.entries in
    subst (λ t. OnOk c.put.result (after ≡ with_token_put t before)) (sym c.in-Some.is)
    (subst (λ d. OnOk c.put.result (after ≡ put (codes "resumeToken") d before)) c.in_ok-written-in-Some.ensures.value c.put.ensures.ok)
