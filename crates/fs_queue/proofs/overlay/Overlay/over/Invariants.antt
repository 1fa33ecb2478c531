use Rattle.std.proofs.Common.{◌≤◌, length, drop}
use Rattle.fs_queue.proofs.Merging.{Merges}
use Rattle.fs_queue.proofs.Parting.{lent}
use Rattle.fs_queue.proofs.overlay.Overlay.over.Given as goal

-- the documents so far, and those that are left
abbrev pub invariant-loop-name : goal.invariant-loop-name
invariant-loop-name l = record {
  within : l.from ≤ length l.docs;
  merges : Merges (lent l.docs) l.initial.name-iterator l.name-iterator (lent l.shown.items) (lent (drop l.from l.docs));
}
