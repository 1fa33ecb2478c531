use Rattle.std.proofs.Common.{◌+◌, ℕ, length, sym, ap, ◌∙◌, subst, arith}
use Rattle.std.specs.Vec.Iter.{into_iter_items}
use Rattle.fs_versions.specs.Chains.{Chains}
use Rattle.fs_store.specs.Logs.{HavePlaces, with_all_noted}
use Rattle.fs_store.specs.Noted.{names_of, noted_names}
use Rattle.fs_store.proofs.Absorbing.{AreLeft, left_next, room_first}
use Rattle.fs_store.proofs.Noting.{StillToNote, by_then, noted_next, places_now}
use Rattle.fs_store.proofs.absorb.install_all.Goals as goal

pub install-spent-requires-clause-room : goal.install-spent-requires-clause-room
install-spent-requires-clause-room c =
    let l = c.loop-commit in
    let left = subst (AreLeft c.args.versions.now.chains l.versions.chains l.versions.room (into_iter_items c.into_iter-commit-iterator.result)) c.in-Some.ensures.steps.0 l.invariant.left in
    room_first _ _ _ _ _ _ left

pub note_all-requires-clause-later : goal.note_all-requires-clause-later
note_all-requires-clause-later c =
    let l = c.loop-commit in
    let shards = c.args.logs.now.shards in
    let first = c.args.logs.now.logs in
    let all = into_iter_items c.into_iter-commit-iterator.result in
    let rest = into_iter_items c.next.new.self in
    let left = subst (AreLeft c.args.versions.now.chains l.versions.chains l.versions.room all) c.in-Some.ensures.steps.0 l.invariant.left in
    let still = subst (StillToNote shards first l.logs.logs l.logs.rooms l.versions.chains.last all) c.in-Some.ensures.steps.0 l.invariant.still in
    by_then shards first l.logs.logs l.logs.rooms l.versions.chains.last all c.in-Some.commit rest still left.can.1 c.install-spent.result c.install-spent.ensures.names

pub note_all-requires-clause-room : goal.note_all-requires-clause-room
note_all-requires-clause-room c =
    let l = c.loop-commit in
    let shards = c.args.logs.now.shards in
    let first = c.args.logs.now.logs in
    let all = into_iter_items c.into_iter-commit-iterator.result in
    let rest = into_iter_items c.next.new.self in
    let left = subst (AreLeft c.args.versions.now.chains l.versions.chains l.versions.room all) c.in-Some.ensures.steps.0 l.invariant.left in
    let still = subst (StillToNote shards first l.logs.logs l.logs.rooms l.versions.chains.last all) c.in-Some.ensures.steps.0 l.invariant.still in
    subst (λ s. HavePlaces s l.logs.rooms (length c.install-spent.result)) (sym l.invariant.shards)
    (places_now shards first l.logs.logs l.logs.rooms l.versions.chains.last all c.in-Some.commit rest still left.can.1 c.install-spent.result c.install-spent.ensures.names)

pub loop-commit-preserved : goal.loop-commit-preserved
loop-commit-preserved c =
    let l = c.loop-commit in
    let steps = c.in-Some.ensures.steps in
    let shards = c.args.logs.now.shards in
    let first = c.args.logs.now.logs in
    let all = into_iter_items c.into_iter-commit-iterator.result in
    let rest = into_iter_items c.next.new.self in
    let commit = c.in-Some.commit in
    let spent = c.install-spent.result in
    let left = subst (AreLeft c.args.versions.now.chains l.versions.chains l.versions.room all) steps.0 l.invariant.left in
    let still = subst (StillToNote shards first l.logs.logs l.logs.rooms l.versions.chains.last all) steps.0 l.invariant.still in
    let above = left.can.1 in
    let noted = c.note_all.ensures.logs ∙ ap (λ s. with_all_noted s l.logs.logs (noted_names commit.time commit.id (names_of spent))) l.invariant.shards in
    let takes : (n : ℕ) → HavePlaces shards l.logs.rooms (length spent + n) → HavePlaces shards c.note_all.new.self.rooms n = λ n have.
    subst (λ s. HavePlaces s c.note_all.new.self.rooms n) (c.note_all.ensures.shards ∙ l.invariant.shards) (c.note_all.ensures.rooms n (subst (λ s. HavePlaces s l.logs.rooms (length spent + n)) (sym l.invariant.shards) have)) in
    record {
      left = left_next _ _ _ _ commit rest left c.install-spent.new.self.chains c.install-spent.new.self.room c.install-spent.ensures.value c.install-spent.ensures.room c.install-spent.ensures.shows;
      still = subst (λ t. StillToNote shards first c.note_all.new.self.logs c.note_all.new.self.rooms t all rest) (sym (ap (λ (v : Chains). v.last) c.install-spent.ensures.value))
          (noted_next shards first l.logs.logs l.logs.rooms l.versions.chains.last all commit rest still above spent c.install-spent.ensures.names c.note_all.new.self.logs c.note_all.new.self.rooms noted c.note_all.ensures.by takes);
      shards = c.note_all.ensures.shards ∙ l.invariant.shards;
      count = omega (arith, ap length steps.0, steps.1, l.invariant.count);
    }
