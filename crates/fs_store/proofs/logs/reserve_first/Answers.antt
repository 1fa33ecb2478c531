use Rattle.std.proofs.Common.{◌+◌, ◌<◌, List, length, map, sym, ◌∙◌, subst, arith}
use Rattle.std.specs.Prelude.{ℕ}
use Rattle.std.proofs.Math.Seq.{map-set_same}
use Rattle.std.proofs.lemmas.List.{length-map, map-set}
use Rattle.fs_store.specs.Logs.{HavePlaces}
use Rattle.fs_store.specs.declared.log.Log.{Log}
use Rattle.fs_store.specs.declared.noted.Noted.{Noted}
use Rattle.fs_store.proofs.Places.{room_more}
use Rattle.fs_store.proofs.logs.reserve_first.Goals as goal

entries_of : Log → List Noted
entries_of l = l.entries

room_of : Log → ℕ
room_of l = l.room

pub returns-in_err-reserve-clause-same : goal.returns-in_err-reserve-clause-same
unfolding entries_of
returns-in_err-reserve-clause-same c =
    map-set_same entries_of c.loop-i.logs c.loop-i.i c.reserve.new.self c.index-logs-i.result c.reserve.ensures.same ∙ c.loop-i.invariant.same

pub loop-i-preserved : goal.loop-i-preserved
unfolding entries_of room_of
loop-i-preserved c =
    let l = c.loop-i in
    let here : l.i < length l.logs = omega arith in
    let within : l.i < length (map room_of l.logs) = omega (arith, length-map l.logs room_of) in
    record {
      same = map-set_same entries_of l.logs l.i c.reserve.new.self c.index-logs-i.result c.reserve.ensures.same ∙ l.invariant.same;
      room = subst (λ rooms. HavePlaces (l.i + 1) rooms c.args.more) (sym (map-set room_of l.logs l.i c.reserve.new.self))
          (room_more (map room_of l.logs) l.i c.args.more (room_of c.reserve.new.self) within l.invariant.room c.in_ok-reserve.ensures.ok);
    }
