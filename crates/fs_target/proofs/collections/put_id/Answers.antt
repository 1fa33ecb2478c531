use Rattle.fs_target.proofs.Collected.{kept_put, there_put}
use Rattle.fs_target.proofs.collections.put_id.Goals as goal

pub returns-clause-kept : goal.returns-clause-kept
returns-clause-kept c = kept_put c.args.ids.now c.insert.new.self c.in_ok-from_str.field-0 c.in_ok-insert.ensures.updates

pub returns-clause-put : goal.returns-clause-put
returns-clause-put c = there_put c.args.ids.now c.insert.new.self c.in_ok-from_str.field-0 c.in_ok-insert.ensures.updates c.args.id.now c.in_ok-from_str.ensures.ok
