use Rattle.std.proofs.Common.{◌≡◌, take}
use Rattle.fs_query.specs.Found.{documents_of}
use Rattle.fs_query.proofs.answers.copied.Given as goal

-- the documents so far are copied
abbrev pub invariant-loop-one : goal.invariant-loop-one
invariant-loop-one l = l.items.items ≡ documents_of (take l.one-index l.found)
