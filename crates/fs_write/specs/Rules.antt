-- The rules of writes that are tested once a write is read. A write breaks
--   2  where two paths of its mask are equal, or one begins the other: `a.b` beside `a`;
--   3  where it is a delete with transforms;
--   5  where the name of a field is bad, in its fields, its mask, its transforms' paths or their operands;
--   6  where a value nests deeper than `deepest_value`, that of a field or an element of an array transform;
--   7  where an array directly holds an array, as one of an array transform's elements would be held.
-- (Whether it is a write at all, and whether the operand of a number's transform is a number, is seen as it is read.)
use Rattle.std.specs.Prelude.{ℕ, Bool, true, false, ◌||◌, ◌&&◌, List, [], ◌∷◌, Option, Some, None, nat_lt, if◌then◌else◌}
use Rattle.std.specs.List.{list_any, starts_with}
use Rattle.fs_path.specs.FieldName.{is_bad_name}
use Rattle.fs_path.specs.TextOrder.{text_eq}
use Rattle.fs_path.specs.declared.field.FieldPath.{FieldPath}
use Rattle.fs_value.specs.Data.{Data, items_of, members_of, items_depth, members_depth}
use Rattle.fs_value.specs.Limits.{deepest_value}
use Rattle.fs_write.specs.ValueRules.{items_have_bad_name, members_have_bad_name, items_have_arrays, members_have_array_in_array}
use Rattle.fs_write.specs.declared.transform.Operation.{Operation}
use Rattle.fs_write.specs.declared.transform.Operation.TheVariants.{AppendMissing, RemoveAll}
use Rattle.fs_write.specs.declared.transform.Transform.{Transform}
use Rattle.fs_write.specs.declared.write.Act.{Act}
use Rattle.fs_write.specs.declared.write.Act.TheVariants.{Set, Merge, Delete}
use Rattle.fs_write.specs.declared.write.Write.{Write}

-- ---- the parts of a write

-- the fields that an update is given
abbrev pub input : Act → List (List ℕ × Data)
input (Set name fields) = fields
input (Merge name fields mask) = fields
input (Delete name) = []

-- the paths of an update's mask
abbrev pub masked : Act → List FieldPath
masked (Set name fields) = []
masked (Merge name fields mask) = mask
masked (Delete name) = []

abbrev pub is_delete : Act → Bool
is_delete (Set name fields) = false
is_delete (Merge name fields mask) = false
is_delete (Delete name) = true

-- the elements that an array transform is given
abbrev pub operand : Operation → List Data
operand (AppendMissing values) = values
operand (RemoveAll values) = values
operand _ = []

-- ---- the rules

-- two paths are equal, or one begins the other
abbrev pub overlap : FieldPath → FieldPath → Bool
overlap p q = starts_with text_eq p.parts q.parts || starts_with text_eq q.parts p.parts

-- two of these do
abbrev pub some_overlap : List FieldPath → Bool
some_overlap [] = false
some_overlap (p ∷ ps) = list_any (overlap p) ps || some_overlap ps

-- whether there are transforms
abbrev pub has_transforms : List Transform → Bool
has_transforms [] = false
has_transforms (t ∷ ts) = true

abbrev pub path_has_bad_name : FieldPath → Bool
path_has_bad_name p = list_any is_bad_name p.parts

abbrev pub transform_has_bad_name : Transform → Bool
transform_has_bad_name t = path_has_bad_name t.path || items_have_bad_name (items_of (operand t.operation))

abbrev pub write_has_bad_name : Write → Bool
write_has_bad_name w = members_have_bad_name (members_of (input w.act)) || (list_any path_has_bad_name (masked w.act) || list_any transform_has_bad_name w.transforms)

-- an element of an array transform has its own depth. How deep it stands is seen as the write is carried out
abbrev pub is_deep_transform : Transform → Bool
is_deep_transform t = nat_lt deepest_value (items_depth (items_of (operand t.operation)))

abbrev pub is_deep_write : Write → Bool
is_deep_write w = nat_lt deepest_value (members_depth (members_of (input w.act))) || list_any is_deep_transform w.transforms

-- the elements of an array transform are in an array
abbrev pub transform_has_arrays : Transform → Bool
transform_has_arrays t = items_have_arrays (items_of (operand t.operation))

abbrev pub write_has_array_in_array : Write → Bool
write_has_array_in_array w = members_have_array_in_array (members_of (input w.act)) || list_any transform_has_arrays w.transforms

-- the least rule that a write breaks
abbrev pub rule_of_write : Write → Option ℕ
rule_of_write w =
    if some_overlap (masked w.act) then Some 2
    else if is_delete w.act && has_transforms w.transforms then Some 3
    else if write_has_bad_name w then Some 5
    else if is_deep_write w then Some 6
    else if write_has_array_in_array w then Some 7
    else None
