use Rattle.std.proofs.Common.{◌≡◌, map, take}
use Rattle.fs_value.proofs.document.Documents.copied.Given as goal

-- the copies so far
abbrev pub invariant-loop-document : goal.invariant-loop-document
invariant-loop-document l = l.items.items ≡ map (λ d. d.now) (take l.document-index l.docs)
