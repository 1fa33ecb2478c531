use Rattle.std.proofs.Common.{◌≡◌, map, take}
use Rattle.std.specs.List.{AllByRecursion}
use Rattle.fs_target.specs.Prepared.{IsNext}
use Rattle.fs_target.specs.Seen.{seen}
use Rattle.fs_target.proofs.raise.make_all_next.Given as goal

-- those of the entries so far are ready
abbrev pub invariant-loop-i : goal.invariant-loop-i
invariant-loop-i l =
    record {
      same : map seen l.entries ≡ map seen l.initial.entries;
      ready : AllByRecursion (IsNext l.time) (take l.i l.entries);
    }
