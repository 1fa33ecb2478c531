use Rattle.std.proofs.Common.{◌≡◌, map, drop}
use Rattle.fs_query.specs.Condition.{conditions_of}
use Rattle.fs_query.specs.Inequalities.{have_inequality_fields}
use Rattle.fs_query.specs.View.{view}
use Rattle.fs_query.proofs.fits.+inequalities.Given as goal

-- the fields of the filters so far are there, so the rest decides
abbrev pub invariant-have_inequality_fields-loop-filter : goal.invariant-have_inequality_fields-loop-filter
invariant-have_inequality_fields-loop-filter l =
    have_inequality_fields (conditions_of (map view l.filter-items)) l.d ≡ have_inequality_fields (conditions_of (map view (drop l.filter-index l.filter-items))) l.d
