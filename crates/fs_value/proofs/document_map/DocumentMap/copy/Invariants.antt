use Rattle.std.proofs.Common.{◌≡◌, ◌++◌}
use Rattle.fs_value.proofs.document_map.DocumentMap.copy.Given as goal

-- the copies, and then what is left, are the whole
abbrev pub invariant-loop-name : goal.invariant-loop-name
invariant-loop-name l = l.documents.entries ++ l.name-iterator ≡ l.initial.name-iterator
