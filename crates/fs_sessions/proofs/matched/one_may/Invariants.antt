use Rattle.std.proofs.Common.{drop}
use Rattle.std.specs.List.{AllByRecursion}
use Rattle.fs_sessions.specs.Heard.{heard_of}
use Rattle.fs_sessions.specs.Matched.{IsNoMatter}
use Rattle.fs_sessions.proofs.matched.one_may.Given as goal

-- those that are left decide
abbrev pub invariant-loop-change : goal.invariant-loop-change
invariant-loop-change l = AllByRecursion (IsNoMatter (heard_of l.ear).held) (drop l.change-index l.changes) → AllByRecursion (IsNoMatter (heard_of l.ear).held) l.changes
