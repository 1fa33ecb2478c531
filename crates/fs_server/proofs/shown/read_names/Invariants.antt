use Rattle.std.proofs.Common.{◌≡◌, map, take}
use Rattle.std.specs.FinMap.{get}
use Rattle.fs_history.specs.History.{at}
use Rattle.fs_history.specs.declared.read.Read.TheVariants as read
use Rattle.fs_path.specs.declared.name.DocName.{DocName}
use Rattle.fs_server.proofs.shown.read_names.Given as goal

-- the names so far are read
abbrev pub invariant-loop-name : goal.invariant-loop-name
invariant-loop-name l = l.reads ≡ map (λ (name : DocName). read.Name name (get (at l.past.history l.time) name)) (take l.name-index l.names)
