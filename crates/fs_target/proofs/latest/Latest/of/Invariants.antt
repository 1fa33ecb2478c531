use Rattle.std.proofs.Common.{◌≡◌, map, take}
use Rattle.std.specs.FinMap.{from_entries}
use Rattle.fs_path.specs.NameOrder.{name_cmp}
use Rattle.fs_target.specs.Latest.{latest_of}
use Rattle.fs_target.specs.Staged.{up_to}
use Rattle.fs_target.proofs.latest.Latest.of.Given as goal

-- those so far
abbrev pub invariant-loop-event : goal.invariant-loop-event
invariant-loop-event l = from_entries {R = name_cmp} (map (λ e. (e.0, e.1.now)) l.events.entries) ≡ latest_of (up_to l.time (take l.event-index l.staged))
