use Rattle.std.proofs.Common.{◌≡◌, ◌+◌, ◌<◌, List, ◌∷◌, length, sym, ap, ◌∙◌, subst, arith}
use Rattle.std.specs.Vec.Iter.{into_iter_items}
use Rattle.fs_path.specs.Scope.{shard_of, AreShards}
use Rattle.fs_path.specs.declared.name.DocName.{DocName}
use Rattle.fs_write.specs.declared.change.Change.{Change}
use Rattle.fs_store.specs.Logs.{HavePlaces, Sharded, with_all_noted, with_noted}
use Rattle.fs_store.specs.Noted.{names_of, noted_names}
use Rattle.fs_store.specs.declared.noted.Noted.{Noted}
use Rattle.fs_store.proofs.Places.{place_there, room_less, some_left}
use Rattle.fs_store.proofs.logs.Logs.note_all.Goals as goal

pub note-requires-clause-room : goal.note-requires-clause-room
note-requires-clause-room c =
    let l = c.loop-change in
    let shards = c.args.self.now.shards in
    let rooms = c.args.self.now.rooms in
    let steps = c.in-Some.ensures.steps in
    let count = ap length (c.into_iter-change-iterator.ensures.into_iter_gives.0 ∙ c.into_vec-change-items.ensures) in
    let all : length c.args.changes ≡ length (into_iter_items c.into_iter-change-iterator.result) + 0 = omega (arith, count) in
    let left = l.invariant.places 0 (subst (HavePlaces shards rooms) all c.requires.room) in
    let are : AreShards shards = subst AreShards (ap (λ (s : Sharded). s.shards) c.self.view_is) c.self.invariant in
    let some = some_left shards l.self.shards l.self.rooms c.name_of-name.result (length (into_iter_items l.change-iterator) + 0) are l.invariant.shards left (omega (arith, ap length steps.0)) in
    some

pub loop-change-preserved : goal.loop-change-preserved
loop-change-preserved c =
    let l = c.loop-change in
    let shards = c.args.self.now.shards in
    let rooms = c.args.self.now.rooms in
    let steps = c.in-Some.ensures.steps in
    let count = ap length (c.into_iter-change-iterator.ensures.into_iter_gives.0 ∙ c.into_vec-change-items.ensures) in
    let all : length c.args.changes ≡ length (into_iter_items c.into_iter-change-iterator.result) + 0 = omega (arith, count) in
    let left = l.invariant.places 0 (subst (HavePlaces shards rooms) all c.requires.room) in
    let are : AreShards shards = subst AreShards (ap (λ (s : Sharded). s.shards) c.self.view_is) c.self.invariant in
    let some = some_left shards l.self.shards l.self.rooms c.name_of-name.result (length (into_iter_items l.change-iterator) + 0) are l.invariant.shards left (omega (arith, ap length steps.0)) in
    let t = c.args.time in
    let id = c.args.id in
    let change = c.in-Some.change in
    let rest = into_iter_items c.next.new.self in
    let place = shard_of l.self.shards c.name_of-name.result in
    let n : DocName → Noted = λ name. record { time = t; id = id; name = name } in
    record {
      shards = c.note.ensures.shards ∙ l.invariant.shards;
      by = c.note.ensures.by;
      noted = ap (λ logs. with_all_noted shards logs (noted_names t id (names_of rest)))
          (c.note.ensures.logs ∙ ap (λ s. with_noted s l.self.logs (n c.name_of-name.result)) l.invariant.shards ∙ ap (λ name. with_noted shards l.self.logs (n name)) c.name_of-name.ensures)
          ∙ ap (λ (xs : List Change). with_all_noted shards l.self.logs (noted_names t id (names_of xs))) (sym steps.0)
          ∙ l.invariant.noted;
      places = λ m have.
          let p = subst (λ (xs : List Change). HavePlaces shards l.self.rooms (length xs + m)) steps.0 (l.invariant.places m have) in
          let one : length (change ∷ rest) + m ≡ length rest + m + 1 = omega arith in
          subst (λ rooms. HavePlaces shards rooms (length rest + m)) (sym c.note.ensures.rooms)
          (room_less shards l.self.rooms place (length rest + m) (place_there l.self.rooms place some) (subst (HavePlaces shards l.self.rooms) one p));
      count = omega (arith, ap length steps.0, steps.1, l.invariant.count);
    }

pub returns-clause-rooms : goal.returns-clause-rooms
returns-clause-rooms c = λ n have k within.
    let l = c.loop-change in
    let shards = c.args.self.now.shards in
    let rooms = c.args.self.now.rooms in
    let count = ap length (c.into_iter-change-iterator.ensures.into_iter_gives.0 ∙ c.into_vec-change-items.ensures) in
    let all : length c.args.changes + n ≡ length (into_iter_items c.into_iter-change-iterator.result) + n = omega (arith, count) in
    let left = l.invariant.places n (subst (HavePlaces shards rooms) all have) k (subst (λ s. k < s) l.invariant.shards within) in
    omega (arith, left, c.in-None.ensures.steps, l.invariant.count)
