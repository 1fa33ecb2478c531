use Rattle.std.proofs.Common.{length, subst, arith}
use Rattle.std.specs.List.{All}
use Rattle.std.proofs.lemmas.List.{take_all}
use Rattle.fs_write.specs.declared.timed_change.TimedChange.{TimedChange}
use Rattle.fs_versions.specs.Room.{HasRoom}
use Rattle.fs_store.proofs.Rooms.{room_for_all}
use Rattle.fs_store.proofs.absorb.make_room.Goals as goal

pub returns-clause-ok : goal.returns-clause-ok
returns-clause-ok c =
    let l = c.loop-commit in
    let commits = c.args.commits.now in
    let room = l.versions.room in
    room_for_all room commits
    (subst (All (λ (d : TimedChange). HasRoom room (length commits) d.changes)) (take_all l.commit-index commits (omega arith)) l.invariant.room)
