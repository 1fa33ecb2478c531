use Rattle.std.proofs.Common.{map}
use Rattle.std.proofs.Math.Seq.{map-set_same}
use Rattle.std.proofs.lemmas.Result.{on_ok_weaker}
use Rattle.fs_target.specs.Seen.{seen}
use Rattle.fs_target.proofs.Entries.{found_absent, others_all, same_there, within_there}
use Rattle.fs_target.proofs.Feeding.{none_own, one_own}
use Rattle.fs_target.proofs.feed.prepare_event.Goals as goal

pub prepare-requires-clause-target : goal.prepare-requires-clause-target
prepare-requires-clause-target c = same_there c.args.event.now.target c.args.entries.now c.in-Ok.i c.index-entries-i.result c.in-Ok.ensures

pub returns-in-Ok-clause-same : goal.returns-in-Ok-clause-same
returns-in-Ok-clause-same c = map-set_same seen c.args.entries.now c.in-Ok.i c.prepare.new.entry c.index-entries-i.result c.prepare.ensures.same

pub returns-in-Ok-clause-ok : goal.returns-in-Ok-clause-ok
returns-in-Ok-clause-ok c =
    let f = c.args.event.now in
    let entries = c.args.entries.now in
    let i = c.in-Ok.i in
    let d = c.index-entries-i.result in
    on_ok_weaker c.prepare.result
    (λ ok es ready. one_own c.args.shard es f entries i d c.prepare.new.entry c.requires.rise (within_there f.target entries i c.in-Ok.ensures)
    (same_there f.target entries i d c.in-Ok.ensures) (ok es) ready)
    c.prepare.ensures.ok

pub returns-in-Err-clause-ok : goal.returns-in-Err-clause-ok
returns-in-Err-clause-ok c = λ es ready.
    let f = c.args.event.now in
    let entries = c.args.entries.now in
    none_own c.args.shard es f entries (others_all f.target entries (found_absent f.target (map seen entries) c.in-Err.field-0 c.in-Err.ensures)) ready
