use Rattle.std.proofs.Common.{◌≡◌, ◌++◌, map}
use Rattle.fs_value.proofs.document_map.DocumentMap.documents.Given as goal

-- the documents so far, and then those that are left, are the whole
abbrev pub invariant-loop-document : goal.invariant-loop-document
invariant-loop-document l = l.items.items ++ map (λ e. e.1) l.document-iterator ≡ map (λ e. e.1) l.initial.document-iterator
