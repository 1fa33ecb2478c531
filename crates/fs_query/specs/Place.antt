-- Only private clauses cite this: the last of a cursor's values, in the place of the name.
use Rattle.std.specs.Prelude.{Bool, false, not, ◌-◌, List, length, slice_get}
use Rattle.std.specs.Option.{option_map_or}
use Rattle.fs_value.specs.Data.{Data}
use Rattle.fs_query.specs.FilterRules.{is_reference}

abbrev pub last_is_bad : List Data → Bool
last_is_bad vs = option_map_or (λ v. not (is_reference v)) (slice_get vs (length vs - 1)) false
