use Rattle.std.proofs.Common.{◌≡◌, ◌++◌, map}
use Rattle.fs_target.proofs.GoneOver.{shown}
use Rattle.fs_target.proofs.places.Places.documents.Given as goal

-- the documents so far, and then those that are left
abbrev pub invariant-loop-name : goal.invariant-loop-name
invariant-loop-name l = map (λ d. d.now) l.lent.items ++ shown l.latest l.name-iterator ≡ shown l.latest l.initial.name-iterator
