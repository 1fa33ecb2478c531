use Rattle.std.proofs.Common.{None, refl, ap, ◌∙◌}
use Rattle.fs_listen.specs.Cuts.{least, least_before}
use Rattle.fs_target.specs.Held.{positions_in}
use Rattle.fs_sessions.specs.Heard.{heard_of}
use Rattle.fs_sessions.specs.declared.listeners.Ear.{Ear}
use Rattle.fs_sessions.proofs.LeastTold.{least_next, least_of_ears}
use Rattle.fs_sessions.proofs.Joined.{joined_more, least_alone, least_thrice}
use Rattle.fs_sessions.proofs.listeners.Listeners.least_in.Goals as goal

pub loop-ear-preserved : goal.loop-ear-preserved
loop-ear-preserved c =
    let l = c.loop-ear in
    let shard = c.args.shard in
    let all = c.as_slice-ear-items.result.now in
    joined_more least_before None least_thrice least_alone (least_of_ears shard) (λ (e : Ear). least (positions_in shard (heard_of e).held)) (least_next shard) refl
    (least_of_ears shard all) l.least c.lesser-least.result all l.ear-index c.ear-item.result c.loop-ear-test.true l.invariant c.ear-item.is
    (c.lesser-least.ensures ∙ ap (least_before l.least) c.least_in.ensures)
