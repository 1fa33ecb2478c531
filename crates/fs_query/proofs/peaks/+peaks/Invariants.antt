use Rattle.std.proofs.Common.{◌≡◌, map, take, drop}
use Rattle.fs_query.specs.Condition.{conditions_of}
use Rattle.fs_query.specs.Normal.{equalities, conjunctions_of_all, conjunctions_of_any}
use Rattle.fs_query.specs.Peaks.{peaks_in}
use Rattle.fs_query.specs.View.{view}
use Rattle.fs_query.proofs.peaks.+peaks.Given as goal

-- those of the filters from here on
abbrev pub invariant-peaks_of_all-loop-i : goal.invariant-peaks_of_all-loop-i
invariant-peaks_of_all-loop-i l = l.all ≡ peaks_in (conjunctions_of_all equalities (conditions_of (drop l.i l.filters)))

-- those of the filters so far
abbrev pub invariant-peaks_of_any-loop-filter : goal.invariant-peaks_of_any-loop-filter
invariant-peaks_of_any-loop-filter l = l.all ≡ peaks_in (conjunctions_of_any equalities (conditions_of (map view (take l.filter-index l.filter-items))))
