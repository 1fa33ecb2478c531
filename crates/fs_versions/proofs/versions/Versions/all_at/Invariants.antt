use Rattle.std.proofs.Common.{◌≡◌, ◌++◌}
use Rattle.fs_versions.specs.Listed.{all_shown}
use Rattle.fs_versions.specs.Sound.{lists_of}
use Rattle.fs_versions.proofs.versions.Versions.all_at.Given as goal

-- the documents so far, and then those of the chains that are left, are the whole
abbrev pub invariant-loop-chain : goal.invariant-loop-chain
invariant-loop-chain l = l.documents ++ all_shown l.time (lists_of l.chain-iterator) ≡ all_shown l.time (lists_of l.initial.chain-iterator)
