use Rattle.std.proofs.Common.{◌≡◌, map, take}
use Rattle.std.specs.List.{AllByRecursion}
use Rattle.fs_target.specs.Prepared.{IsPrepared}
use Rattle.fs_target.specs.Seen.{seen}
use Rattle.fs_target.proofs.feed.prepare_all.Given as goal

-- of the events so far those are ready that are to be
abbrev pub invariant-loop-event : goal.invariant-loop-event
invariant-loop-event l = record {
  same : map seen l.entries ≡ map seen l.fn.entries;
  ready : AllByRecursion (IsPrepared l.shard (take l.event-index l.events)) l.entries;
}
