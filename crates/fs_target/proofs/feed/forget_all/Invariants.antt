use Rattle.std.proofs.Common.{◌≡◌, ℕ, [], map, take}
use Rattle.std.specs.List.{AllByRecursion}
use Rattle.fs_target.specs.Prepared.{IsPrepared}
use Rattle.fs_target.specs.Seen.{seen}
use Rattle.fs_target.proofs.feed.forget_all.Given as goal

-- nothing is ready of those so far
abbrev pub invariant-loop-i : goal.invariant-loop-i
invariant-loop-i l = record {
  same : map seen l.entries ≡ map seen l.initial.entries;
  none : (shard : ℕ) → AllByRecursion (IsPrepared shard []) (take l.i l.entries);
}
