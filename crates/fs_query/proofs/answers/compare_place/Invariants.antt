use Rattle.std.proofs.Common.{◌≡◌, drop, length, map}
use Rattle.fs_value.specs.View.{view}
use Rattle.fs_query.specs.Answer.{place_cmp}
use Rattle.fs_query.proofs.answers.compare_place.Given as goal

-- the fields so far are as the values, so the rest decides
abbrev pub invariant-loop-order : goal.invariant-loop-order
invariant-loop-order l =
    place_cmp l.orders (map view l.values) l.d ≡ place_cmp (drop (length l.yielded) l.orders) (map view (drop (length l.yielded) l.values)) l.d
