use Rattle.std.proofs.Common.{◌≡◌, map, drop}
use Rattle.fs_value.specs.View.{view}
use Rattle.fs_query.specs.Fits.{one_is_among}
use Rattle.fs_query.proofs.fits.one_is_among.Given as goal

-- none of the elements so far is, so the rest decides
abbrev pub invariant-loop-element : goal.invariant-loop-element
invariant-loop-element l =
    one_is_among (map view l.elements) (map view l.values) ≡ one_is_among (map view (drop l.element-index l.elements)) (map view l.values)
