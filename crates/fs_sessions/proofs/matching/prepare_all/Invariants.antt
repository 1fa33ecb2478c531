use Rattle.std.proofs.Common.{◌≡◌, map, take}
use Rattle.std.specs.List.{AllByRecursion}
use Rattle.fs_sessions.specs.Heard.{heard_of}
use Rattle.fs_sessions.specs.Matching.{IsEarReady}
use Rattle.fs_sessions.proofs.matching.prepare_all.Given as goal

-- those so far are ready
abbrev pub invariant-loop-i : goal.invariant-loop-i
invariant-loop-i l = record {
  same : map heard_of l.ears ≡ map heard_of l.fn.ears;
  ready : AllByRecursion (IsEarReady l.shard l.events) (take l.i l.ears);
}
