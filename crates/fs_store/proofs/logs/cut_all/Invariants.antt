use Rattle.std.proofs.Common.{◌≡◌, ◌++◌, drop, map, take}
use Rattle.fs_store.specs.Logged.{noted_after}
use Rattle.fs_store.proofs.logs.cut_all.Given as goal

-- those so far are cut
abbrev pub invariant-loop-i : goal.invariant-loop-i
invariant-loop-i l =
    map (λ x. x.entries) l.logs ≡ map (noted_after l.floor) (take l.i (map (λ x. x.entries) l.initial.logs)) ++ drop l.i (map (λ x. x.entries) l.initial.logs)
