use Rattle.std.proofs.Common.{◌≡◌, map, take}
use Rattle.fs_query.specs.Census.{census_in}
use Rattle.fs_query.specs.Condition.{conditions_of}
use Rattle.fs_query.specs.FilterParts.{parts_of}
use Rattle.fs_query.specs.View.{view}
use Rattle.fs_query.proofs.census.+census.Given as goal

-- that of the filters so far
abbrev pub invariant-census_of_all-loop-filter : goal.invariant-census_of_all-loop-filter
invariant-census_of_all-loop-filter l = l.all ≡ census_in (parts_of (conditions_of (map view (take l.filter-index l.filter-items))))
