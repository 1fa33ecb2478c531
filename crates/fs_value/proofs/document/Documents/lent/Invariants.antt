use Rattle.std.proofs.Common.{◌≡◌, map, take}
use Rattle.fs_value.proofs.document.Documents.lent.Given as goal

-- the documents so far are lent
abbrev pub invariant-loop-document : goal.invariant-loop-document
invariant-loop-document l = map (λ d. d.now) l.lent.items ≡ take l.document-index l.document-items
