use Rattle.std.proofs.Common.{◌≡◌, map, take}
use Rattle.std.specs.FinMap.{get}
use Rattle.std.specs.List.{filter}
use Rattle.std.specs.Option.{is_some}
use Rattle.fs_value.specs.declared.document.Document.{Document}
use Rattle.fs_client.proofs.shown.pending.Given as goal

-- of the names so far those at which something is left
abbrev pub invariant-loop-document : goal.invariant-loop-document
invariant-loop-document l = l.names ≡ filter (λ name. is_some (get l.left name)) (map (λ (d : Document). d.name) (take l.document-index l.document-items))
