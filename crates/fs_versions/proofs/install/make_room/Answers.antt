use Rattle.std.proofs.Common.{◌≤◌, take, ◌∙◌, subst, arith}
use Rattle.std.specs.List.{All}
use Rattle.std.proofs.lemmas.List.{take_all}
use Rattle.std.proofs.lemmas.List.Elements.{All-more, All-weaker}
use Rattle.fs_write.specs.declared.change.Change.{Change}
use Rattle.fs_versions.specs.Sound.{room_in}
use Rattle.fs_versions.proofs.install.make_room.Goals as goal

pub loop-change-preserved : goal.loop-change-preserved
loop-change-preserved c =
    let l = c.loop-change in
    let changes = c.args.changes.now in
    let more = c.args.more in
    let old = l.chains.entries in
    let new = c.reserve.new.chains.entries in
    let done = c.in_ok-reserve.ensures in
    let kept = All-weaker (λ (d : Change). more ≤ room_in d.name old) (λ (d : Change). more ≤ room_in d.name new)
    (λ d has. let k = done.kept d.name in omega arith) (take l.change-index changes) l.invariant.room in
    record {
      same = λ q. done.same q ∙ l.invariant.same q;
      kept = λ q. let a = done.kept q in let b = l.invariant.kept q in omega arith;
      room = All-more (λ (d : Change). more ≤ room_in d.name new) changes l.change-index c.change-item.result (omega arith) kept
          (subst (λ (d : Change). more ≤ room_in d.name new) c.change-item.is done.ok);
    }

pub returns-clause-ok : goal.returns-clause-ok
returns-clause-ok c =
    let l = c.loop-change in
    subst (All (λ (d : Change). c.args.more ≤ room_in d.name l.chains.entries)) (take_all l.change-index c.args.changes.now (omega arith)) l.invariant.room
