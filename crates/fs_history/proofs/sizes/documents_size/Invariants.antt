use Rattle.std.proofs.Common.{◌≡◌, ◌-◌, ◌^◌, min, sum_by, take}
use Rattle.fs_value.specs.Size.{document_size}
use Rattle.fs_history.proofs.sizes.documents_size.Given as goal

-- those so far are counted
abbrev pub invariant-loop-document : goal.invariant-loop-document
invariant-loop-document l = l.all ≡ min (sum_by document_size (take l.document-index l.document-items)) (2 ^ 128 - 1)
