use Rattle.std.proofs.Common.{◌≡◌, map, take}
use Rattle.fs_query.proofs.projection.parts_of.Given as goal

-- the names on the paths so far
abbrev pub invariant-loop-path : goal.invariant-loop-path
invariant-loop-path l = map (λ p. p.now) l.parts.items ≡ map (λ p. p.parts) (take l.path-index l.paths)
