-- A field path is the one of its names, and is read back from what is written of it. Each crate that reads JSON may cite it.
use Rattle.std.proofs.Common.{◌≡◌, ℕ, ◌<◌, List, [], ◌∷◌, length, Ok, ap, ◌∙◌, arith}
use Rattle.std.proofs.Math.Bridge.{le_prop}
use Rattle.fs_path.specs.declared.field.FieldPath.{FieldPath}
use Rattle.fs_json.specs.Paths.{field_path_at, named, path_at, path_json, path_of, IsPathHeld}

of_names : (names : List (List ℕ)) (some : 0 < length names) → path_of names ≡ Ok (record { parts = names; some = some })
of_names [] some = absurd (omega arith)
of_names (name ∷ names) some = ap (λ h. Ok (record { parts = name ∷ names; some = h })) (le_prop _ _)

pub path_of-is : (p : FieldPath) → path_of p.parts ≡ Ok p
path_of-is p = of_names p.parts p.some

pub path_again : (p : FieldPath) (place : List ℕ) → IsPathHeld p → field_path_at (path_json p) place ≡ Ok p
path_again p place held = ap (λ r. path_at place (named r)) held ∙ ap (path_at place) (path_of-is p)
