use Rattle.std.proofs.Common.{◌≡◌, map, take}
use Rattle.std.specs.FinMap.{get}
use Rattle.fs_history.specs.History.{at}
use Rattle.fs_path.specs.declared.name.DocName.{DocName}
use Rattle.fs_machine.specs.Read.{told_of}
use Rattle.fs_server.proofs.read.all_at.Given as goal

-- the names so far are answered
abbrev pub invariant-loop-name : goal.invariant-loop-name
invariant-loop-name l = l.answers ≡ map (λ (name : DocName). told_of l.time l.mask name (get (at l.past.history l.time) name)) (take l.name-index l.names)
