use Rattle.std.proofs.Common.{◌≡◌, map, drop}
use Rattle.fs_value.specs.View.{view}
use Rattle.fs_value.specs.Elements.{array_contains}
use Rattle.fs_query.specs.Seen.{seen}
use Rattle.fs_query.proofs.field.is_among.Given as goal

-- it isn't among the values so far, so the rest decides
abbrev pub invariant-loop-value : goal.invariant-loop-value
invariant-loop-value l = array_contains (map view l.values) (seen l.v) ≡ array_contains (map view (drop l.value-index l.values)) (seen l.v)
