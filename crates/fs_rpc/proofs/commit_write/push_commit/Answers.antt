use Rattle.fs_json.proofs.Writings.{on_ok_always}
use Rattle.fs_valjson.proofs.Printed.{time_held}
use Rattle.fs_rpc.proofs.commit_write.push_commit.Goals as goal

pub returns-clause-dated : goal.returns-clause-dated
returns-clause-dated c = on_ok_always c.push_timed.result (time_held c.args.time _ c.in_ok-text.ensures.text c.in_ok-text.ensures.again)
