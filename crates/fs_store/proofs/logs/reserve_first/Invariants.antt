use Rattle.std.proofs.Common.{◌≡◌, map}
use Rattle.fs_store.specs.Logs.{HavePlaces}
use Rattle.fs_store.proofs.logs.reserve_first.Given as goal

-- those so far have room
abbrev pub invariant-loop-i : goal.invariant-loop-i
invariant-loop-i l =
    record {
      same : map (λ x. x.entries) l.logs ≡ map (λ x. x.entries) l.initial.logs;
      room : HavePlaces l.i (map (λ x. x.room) l.logs) l.fn.more;
    }
