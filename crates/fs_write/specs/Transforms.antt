-- The transforms of a write, made in their order: each finds the fields as the one before left them, sets the value at its
-- path, and reports its result.
--
--     {n: 1}    n: increment 2, n: increment 3          {n: 6}, reported 3 and 6
--     {}        a.b: maximum 5, a: remove all           {a: []}, reported 5 and null
use Rattle.std.specs.Prelude.{ℕ, ℤ, List, [], ◌∷◌}
use Rattle.fs_value.specs.Data.{Data}
use Rattle.fs_value.specs.FieldPaths.{get_fields, set_fields}
use Rattle.fs_write.specs.Operation.{value_after, reported}
use Rattle.fs_write.specs.declared.transform.Transform.{Transform}

-- the value that a transform sets
abbrev pub value_set : Transform → ℤ → List (List ℕ × Data) → Data
value_set t time fs = value_after t.operation time (get_fields t.path.parts fs)

-- the fields after a transform
abbrev pub fields_after : Transform → ℤ → List (List ℕ × Data) → List (List ℕ × Data)
fields_after t time fs = set_fields t.path.parts (value_set t time fs) fs

-- the fields after all of them
abbrev pub transformed : List Transform → ℤ → List (List ℕ × Data) → List (List ℕ × Data)
transformed [] time fs = fs
transformed (t ∷ ts) time fs = transformed ts time (fields_after t time fs)

-- what they report
abbrev pub transform_results : List Transform → ℤ → List (List ℕ × Data) → List Data
transform_results [] time fs = []
transform_results (t ∷ ts) time fs = reported t.operation (value_set t time fs) ∷ transform_results ts time (fields_after t time fs)
