use Rattle.std.proofs.Common.{◌<◌, length, ◌∙◌, arith}
use Rattle.std.specs.Prelude.{int_lt}
use Rattle.fs_target.specs.Places.{docs_in}
use Rattle.fs_target.specs.declared.event.TimedEvent.{TimedEvent}
use Rattle.fs_target.proofs.Going.{filter_set, gone_next, place_first, places_next}
use Rattle.fs_target.proofs.InOrder.{order_set}
use Rattle.fs_target.proofs.staged.leave_all.Goals as goal

pub leave_by-requires : goal.leave_by-requires
leave_by-requires c =
    let l = c.loop-i in
    place_first c.args.time l.staged l.i c.index-staged-i.result (omega arith) l.places l.invariant.places

pub loop-i-preserved : goal.loop-i-preserved
loop-i-preserved c =
    let l = c.loop-i in
    let d = c.index-staged-i.result in
    let y = c.leave_by.new.event in
    let within : l.i < length l.staged = omega arith in
    let done = c.leave_by.ensures in
    record {
      gone = gone_next c.args.time l.staged l.i d within (docs_in l.places) (docs_in c.leave_by.new.places) y done.docs ∙ l.invariant.gone;
      places = places_next c.args.time l.staged l.i d within l.places c.leave_by.new.places y done.kept l.invariant.places;
      kept = λ name t some. done.kept name t (l.invariant.kept name t some);
      behind = filter_set (λ (e : TimedEvent). int_lt c.args.time e.time) l.staged l.i y d within done.behind ∙ l.invariant.behind;
      order = λ first. order_set l.staged l.i y d within done.time done.name (l.invariant.order first);
    }
