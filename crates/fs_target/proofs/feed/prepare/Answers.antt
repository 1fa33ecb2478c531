use Rattle.std.proofs.lemmas.Result.{on_ok_weaker}
use Rattle.fs_target.proofs.Feeding.{own_prepared}
use Rattle.fs_target.proofs.feed.prepare.Goals as goal

pub returns-in-Some-clause-ok : goal.returns-in-Some-clause-ok
returns-in-Some-clause-ok c =
    let done = c.prepare_loaded.ensures in
    on_ok_weaker c.prepare_loaded.result
    (λ more es ready. own_prepared c.args.shard es c.args.event.now c.args.entry.now c.in-Some.loaded c.prepare_loaded.new.loaded c.in-Some.is c.requires.target done.loaded more ready)
    done.ok
