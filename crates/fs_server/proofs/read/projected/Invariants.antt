use Rattle.std.proofs.Common.{◌≡◌, Some, map, take}
use Rattle.fs_machine.specs.Read.{masked}
use Rattle.fs_server.proofs.read.projected.Given as goal

-- the documents so far
abbrev pub invariant-loop-document : goal.invariant-loop-document
invariant-loop-document l = l.documents ≡ map (masked (Some l.paths)) (take l.document-index l.found)
