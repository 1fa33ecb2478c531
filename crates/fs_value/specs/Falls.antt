-- Only the models of `Values` and `Fields` cite this: each value in an array or a map weighs less than its list.
use Rattle.std.specs.Prelude.{◌≤◌, List, [], ◌∷◌, map}
use Rattle.std.proofs.Common.{arith}
use denote.Param.Weighed.{most}
use Rattle.fs_value.specs.Data.{weight, items_weight, members_weight, items_of, members_of}
use Rattle.fs_value.specs.View.{view, field_view}
use Rattle.fs_value.specs.declared.value.Value.TheVariants.{Null, Boolean, Integer, Timestamp, String, Bytes, Reference, Array, Map}
use Rattle.fs_value.specs.declared.value.Value.{Value}
use Rattle.fs_value.specs.declared.fields.Field.{Field}
use Rattle.fs_value.specs.declared.fields.Fields.TheDeep.{deep-Value, deep-Field}

value_falls : (v : Value) → deep-Value v ≤ weight (view v)
value_falls Null = omega arith
value_falls (Boolean b) = omega arith
value_falls (Integer n) = omega arith
value_falls (Timestamp t) = omega arith
value_falls (String s) = omega arith
value_falls (Bytes s) = omega arith
value_falls (Reference n) = omega arith
value_falls (Array vs) = omega arith
value_falls (Map fs) = omega arith

pub values_fall : (vs : List Value) → most deep-Value vs ≤ items_weight (items_of (map view vs))
values_fall [] = omega arith
values_fall (v ∷ vs) = omega (arith, value_falls v, values_fall vs)

pub fields_fall : (fs : List Field) → most deep-Field fs ≤ members_weight (members_of (map field_view fs))
fields_fall [] = omega arith
fields_fall (f ∷ fs) = omega (arith, value_falls f.value, fields_fall fs)
