-- What changes make of the elements of an array, one after another.
--
--     [1, 2]    remove 1; append 3, 1; remove 2      [3, 1]
use Rattle.std.specs.Prelude.{List, [], ◌∷◌}
use Rattle.fs_value.specs.Data.{Data}
use Rattle.fs_edit.specs.Arrays.{append_missing, remove_all}
use Rattle.fs_edit.specs.declared.array_change.ArrayChange.{ArrayChange}
use Rattle.fs_edit.specs.declared.array_change.ArrayChange.TheVariants.{Append, Remove}

-- the elements after a change
abbrev pub elements_after : ArrayChange → List Data → List Data
elements_after (Append ds) there = append_missing there ds
elements_after (Remove ds) there = remove_all there ds

-- and after all of them
abbrev pub after_all : List ArrayChange → List Data → List Data
after_all [] there = there
after_all (c ∷ cs) there = after_all cs (elements_after c there)
