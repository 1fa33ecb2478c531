use Rattle.std.proofs.Common.{◌≡◌, drop}
use Rattle.fs_path.specs.Way.{place_of}
use Rattle.fs_writejson.specs.Rules.{rules_at}
use Rattle.fs_writejson.proofs.rules.refuse_broken.Given as goal

-- the drafts so far break no rule, so the rest decides
abbrev pub invariant-loop-i : goal.invariant-loop-i
invariant-loop-i l = rules_at l.drafts 0 (place_of l.way) ≡ rules_at (drop l.i l.drafts) l.i (place_of l.way)
