-- What appending and taking out makes of the elements of an array. Elements are the same where they compare equal.
-- (v1 reference, "DocumentTransform.FieldTransform"; Cloud Firestore documentation, "Update elements in an array".)
--
--     [1]          append missing 1, 2, 2      [1, 2]
--     [1, 2, 1]    remove all 1                [2]
use Rattle.std.specs.Prelude.{not, List, [], ◌∷◌, ◌++◌, Option, Some, None, if◌then◌else◌}
use Rattle.std.specs.List.{filter}
use Rattle.fs_value.specs.Data.{Data}
use Rattle.fs_value.specs.Elements.{array_contains, elements}

-- the elements of the array that is there
abbrev pub elements_in : Option Data → List Data
elements_in None = []
elements_in (Some d) = elements d

-- each of the second elements is appended in its turn, unless it is there by then
abbrev pub append_missing : List Data → List Data → List Data
append_missing there [] = there
append_missing there (d ∷ ds) = append_missing (if array_contains there d then there else there ++ d ∷ []) ds

-- the first elements that aren't among the second
abbrev pub remove_all : List Data → List Data → List Data
remove_all there ds = filter (λ d. not (array_contains ds d)) there
