use Rattle.std.proofs.Common.{◌≡◌, take}
use Rattle.fs_value.proofs.document.Documents.copy.Given as goal

-- the documents so far are copied
abbrev pub invariant-loop-document : goal.invariant-loop-document
invariant-loop-document l = l.items.items ≡ take l.document-index l.document-items
