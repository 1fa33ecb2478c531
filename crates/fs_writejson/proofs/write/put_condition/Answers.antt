use Rattle.fs_json.proofs.Writings.{on_ok_always}
use Rattle.fs_writejson.proofs.write.put_condition.Goals as goal

pub returns-in_ok-write_time-in-UpdateTime-clause-held : goal.returns-in_ok-write_time-in-UpdateTime-clause-held
returns-in_ok-write_time-in-UpdateTime-clause-held c =
    rw c.in-UpdateTime.is (on_ok_always c.put_one-in-UpdateTime.result c.in_ok-write_time-in-UpdateTime.ensures.held)
