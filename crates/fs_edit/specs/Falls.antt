-- Only the model of `OpenFields` cites this: each map opened in fields weighs less than they do.
use Rattle.std.specs.Prelude.{ℕ, ◌≤◌, List, [], ◌∷◌, map}
use Rattle.std.proofs.Common.{arith}
use denote.Param.Weighed.{most}
use Rattle.std.specs.Map.{values_of}
use Rattle.fs_value.specs.Data.{weight, members_weight, members_of}
use Rattle.fs_edit.specs.OpenView.{open_view, entry_view}
use Rattle.fs_edit.specs.declared.open_fields.Open.{Open}
use Rattle.fs_edit.specs.declared.open_fields.Open.TheVariants.{Whole, Map, Array}
use Rattle.fs_edit.specs.declared.open_fields.OpenFields.TheDeep.{deep-Open}

value_falls : (o : Open) → deep-Open o ≤ weight (open_view o)
value_falls (Whole v) = omega arith
value_falls (Map fs) = omega arith
value_falls (Array ds) = omega arith

pub entries_fall : (es : List (List ℕ × Open)) → most deep-Open (values_of es) ≤ members_weight (members_of (map entry_view es))
entries_fall [] = omega arith
entries_fall (e ∷ es) = omega (arith, value_falls e.1, entries_fall es)
