use Rattle.std.proofs.Common.{◌≡◌, ◌+◌, Bor, List, [], ◌∷◌, length, map, refl, sym, ap, ◌∙◌, subst, arith, take, get_or}
use Rattle.std.specs.List.{All, sum_by}
use Rattle.std.proofs.lemmas.List.{take_all}
use Rattle.std.proofs.lemmas.List.Elements.{All-map, All-more}
use Rattle.std.proofs.lemmas.List.Sums.{sum_by-cons}
use Rattle.std.proofs.lemmas.Simd.{map-map}
use Rattle.fs_machine.specs.declared.unreleased.Unreleased.{Unreleased}
use Rattle.fs_store.specs.Room.{HasPlaces, change_count}
use Rattle.fs_versions.specs.Room.{HasRoom, KeepsRoom, Room}
use Rattle.fs_write.specs.declared.change.Change.{Change}
use Rattle.fs_write.specs.declared.timed_change.TimedChange.{TimedChange}
use Rattle.fs_past.specs.declared.accepted.Accepted.{Accepted}
use Rattle.fs_past.specs.Kept.{changes_of}
use Rattle.fs_past.proofs.release.make_room.Goals as goal

abbrev Ready : Type 0
Ready = Bor Unreleased × Bor Accepted

abbrev change : Ready → TimedChange
change r = r.1.now.change

-- how many changes commits have is what is counted of them one by one
counted : (rs : List Ready) → change_count (map change rs) ≡ sum_by (λ (r : Ready). length (change r).changes) rs
counted [] = refl
counted (r ∷ rs) = ap (λ n. length (change r).changes + n) (counted rs) ∙ sym (sum_by-cons (λ (s : Ready). length (change s).changes) r rs)

pub returns-clause-room : goal.returns-clause-room
returns-clause-room c =
    let fits = λ (d : TimedChange). HasRoom c.loop-commit.store.room 1 d.changes in
    let lent : Ready → Unreleased × Accepted = λ r. (r.0.now, r.1.now) in
    let ready = c.in_ok-ready.ready.items in
    let whole = take_all c.loop-commit.commit-index c.as_slice-commit-items.result.now c.loop-commit-test.false ∙ c.as_slice-commit-items.ensures.value in
    let are : map change ready ≡ changes_of c.args.board.now.commits =
    sym (map-map (λ (r : Unreleased × Accepted). r.1.change) lent ready) ∙ ap (map (λ (r : Unreleased × Accepted). r.1.change)) c.in_ok-ready.ensures
    in
    subst (λ (room : Room). All (λ (d : TimedChange). HasRoom room 1 d.changes) (changes_of c.args.board.now.commits)) (sym c.make_places.ensures.room)
    (subst (All fits) are (All-map fits change ready (subst (All (λ r. fits (change r))) whole c.loop-commit.invariant.room)))

pub returns-clause-noted : goal.returns-clause-noted
returns-clause-noted c =
    let lent : Ready → Unreleased × Accepted = λ r. (r.0.now, r.1.now) in
    let ready = c.in_ok-ready.ready.items in
    let are : map change ready ≡ changes_of c.args.board.now.commits =
    sym (map-map (λ (r : Unreleased × Accepted). r.1.change) lent ready) ∙ ap (map (λ (r : Unreleased × Accepted). r.1.change)) c.in_ok-ready.ensures
    in
    subst (HasPlaces c.make_places.new.self)
    (c.in-Some.ensures ∙ ap (sum_by (λ (r : Ready). length (change r).changes)) c.as_slice.ensures.value ∙ sym (counted ready) ∙ ap change_count are)
    c.in_ok-make_places.ensures.ok

-- there is no less room than before
still_room : (old new : Room) (cs : List Change) → KeepsRoom old new → HasRoom old 1 cs → HasRoom new 1 cs
still_room old new cs kept has = λ k d within. let more = kept (get_or cs k d).name in let here = has k d within in omega (arith, more, here)

pub loop-commit-preserved : goal.loop-commit-preserved
loop-commit-preserved c =
    let l = c.loop-commit in
    let room = c.make_room_for.new.self.room in
    let items = c.as_slice-commit-items.result.now in
    let fits : Ready → Type 0 = λ r. HasRoom room 1 (change r).changes in
    record {
      same = c.make_room_for.ensures.same ∙ l.invariant.same;
      room =
          All-more fits items l.commit-index c.commit-item.result c.loop-commit-test.true
          (λ k d within. still_room l.store.room room (change (get_or (take l.commit-index items) k d)).changes c.make_room_for.ensures.kept (l.invariant.room k d within))
          (subst fits c.commit-item.is c.in_ok-make_room_for.ensures.ok);
    }
