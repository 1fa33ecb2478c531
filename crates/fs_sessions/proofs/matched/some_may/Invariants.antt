use Rattle.std.proofs.Common.{drop}
use Rattle.fs_sessions.specs.Heard.{heard_of}
use Rattle.fs_sessions.specs.Matched.{AreNoMatter}
use Rattle.fs_sessions.proofs.matched.some_may.Given as goal

-- those that are left decide
abbrev pub invariant-loop-commit : goal.invariant-loop-commit
invariant-loop-commit l = AreNoMatter (heard_of l.ear).held (drop l.commit-index l.commits) → AreNoMatter (heard_of l.ear).held l.commits
