use Rattle.std.proofs.Common.{◌≡◌, map, take}
use Rattle.std.specs.List.{filter}
use Rattle.fs_query.specs.Fits.{fits}
use Rattle.fs_store.proofs.listened.fitting.Given as goal

-- of the documents so far those that fit
abbrev pub invariant-loop-document : goal.invariant-loop-document
invariant-loop-document l = l.fitting ≡ filter (fits l.query) (map (λ d. d.now) (take l.document-index l.documents))
