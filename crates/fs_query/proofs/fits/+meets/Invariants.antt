use Rattle.std.proofs.Common.{◌≡◌, map, drop}
use Rattle.fs_query.specs.Condition.{conditions_of}
use Rattle.fs_query.specs.Fits.{meets_all, meets_any}
use Rattle.fs_query.specs.View.{view}
use Rattle.fs_query.proofs.fits.+meets.Given as goal

-- the filters so far are met, so the rest decides
abbrev pub invariant-meets_all-loop-filter : goal.invariant-meets_all-loop-filter
invariant-meets_all-loop-filter l =
    meets_all (conditions_of (map view l.filter-items)) l.d ≡ meets_all (conditions_of (map view (drop l.filter-index l.filter-items))) l.d

-- none of the filters so far is met, so the rest decides
abbrev pub invariant-meets_any-loop-filter : goal.invariant-meets_any-loop-filter
invariant-meets_any-loop-filter l =
    meets_any (conditions_of (map view l.filter-items)) l.d ≡ meets_any (conditions_of (map view (drop l.filter-index l.filter-items))) l.d
