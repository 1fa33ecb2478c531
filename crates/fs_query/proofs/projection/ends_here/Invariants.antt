use Rattle.std.proofs.Common.{◌≡◌, map, drop}
use Rattle.fs_query.specs.Project.{ends_here}
use Rattle.fs_query.proofs.projection.ends_here.Given as goal

-- none of the paths so far ends here, so the rest decides
abbrev pub invariant-loop-path : goal.invariant-loop-path
invariant-loop-path l = ends_here (map (λ p. p.now) l.paths) ≡ ends_here (map (λ p. p.now) (drop l.path-index l.paths))
