use Rattle.std.proofs.Common.{◌≡◌, map, take}
use Rattle.fs_query.specs.Project.{rests}
use Rattle.fs_query.proofs.projection.rests_in_front.Given as goal

-- those of the paths so far
abbrev pub invariant-loop-path : goal.invariant-loop-path
invariant-loop-path l = map (λ p. p.now) l.all.items ≡ rests l.key (map (λ p. p.now) (take l.path-index l.paths))
