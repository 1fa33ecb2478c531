use Rattle.std.proofs.Common.{◌≡◌, map, take}
use Rattle.fs_value.specs.Data.{members_of}
use Rattle.fs_value.specs.View.{field_view}
use Rattle.fs_query.specs.Project.{kept}
use Rattle.fs_query.proofs.projection.+kept.Given as goal

-- what is kept of the fields so far
abbrev pub invariant-kept_in_order-loop-field : goal.invariant-kept_in_order-loop-field
invariant-kept_in_order-loop-field l =
    map field_view l.all.items ≡ kept (map (λ p. p.now) l.paths) (members_of (map field_view (take l.field-index l.field-items)))
