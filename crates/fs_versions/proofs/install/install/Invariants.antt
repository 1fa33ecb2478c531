use Rattle.std.proofs.Common.{◌≡◌, drop, map}
use Rattle.fs_versions.proofs.TreeLaws.{IsLeft}
use Rattle.fs_versions.proofs.install.install.Given as goal

-- those that are still to go in, and the names of all
abbrev pub invariant-loop-i : goal.invariant-loop-i
invariant-loop-i l =
    record {
      left : IsLeft l.initial.chains.entries l.chains.entries l.initial.changes (drop l.i l.changes) l.time;
      names : map (λ c. c.name) l.changes ≡ map (λ c. c.name) l.initial.changes;
    }
