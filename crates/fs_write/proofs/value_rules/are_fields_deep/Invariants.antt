use Rattle.std.proofs.Common.{◌≡◌, map, drop}
use Rattle.std.specs.Prelude.{nat_lt}
use Rattle.fs_value.specs.Data.{members_of, members_depth}
use Rattle.fs_value.specs.Limits.{deepest_value}
use Rattle.fs_value.specs.View.{field_view}
use Rattle.fs_write.proofs.value_rules.are_fields_deep.Given as goal

-- the fields so far are flat enough, so the rest decides
abbrev pub invariant-loop-field : goal.invariant-loop-field
invariant-loop-field l =
    nat_lt deepest_value (members_depth (members_of (map field_view l.field-items))) ≡ nat_lt deepest_value (members_depth (members_of (map field_view (drop l.field-index l.field-items))))
