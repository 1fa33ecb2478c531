use Rattle.std.proofs.Common.{◌≡◌, ◌++◌, map}
use Rattle.fs_local.specs.Connect.{add_entry}
use Rattle.fs_client.proofs.targets.Targets.push_requests.Given as goal

-- the requests so far, and then those for what is left, are the whole
abbrev pub invariant-loop-id : goal.invariant-loop-id
invariant-loop-id l = l.out.items ++ map (add_entry l.root l.self.token) l.id-iterator ≡ l.initial.out.items ++ map (add_entry l.root l.self.token) l.initial.id-iterator
