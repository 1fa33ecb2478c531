use Rattle.std.proofs.Common.{◌≡◌, drop, length, map}
use Rattle.std.specs.List.{list_any, zip}
use Rattle.fs_value.specs.View.{view}
use Rattle.fs_query.specs.Rules.{is_bad_place}
use Rattle.fs_query.proofs.cursor_rule.given_misses_name.Given as goal

-- no place so far is bad, so the rest decides
abbrev pub invariant-loop-order : goal.invariant-loop-order
invariant-loop-order l =
    list_any is_bad_place (zip l.given (map view l.values)) ≡ list_any is_bad_place (zip (drop (length l.yielded) l.given) (map view (drop (length l.yielded) l.values)))
