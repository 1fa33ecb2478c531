-- Names of documents and field paths in JSON: strings, each read by its grammar.
use Rattle.std.specs.Prelude.{◌≡◌, ℕ, List, [], ◌∷◌, length, Option, Some, None, Result, Ok, Err, alloc_error}
use Rattle.std.proofs.Math.Nat.{zero-lt-suc}
use Rattle.fs_path.specs.Document.{document_of, reference_of}
use Rattle.fs_path.specs.Field.{field_of, field_text}
use Rattle.fs_path.specs.Refusal.{rule_of}
use Rattle.fs_path.specs.declared.error.PathError.{PathError}
use Rattle.fs_path.specs.declared.error.PathError.TheVariants.{BadQuote}
use Rattle.fs_path.specs.declared.field.FieldPath.{FieldPath}
use Rattle.fs_path.specs.declared.name.DocName.{DocName}
use Rattle.fs_path.specs.declared.name.Root.{Root}
use Rattle.fs_path.specs.declared.place.Rule.{Rule}
use Rattle.serde_json.specs.Data.{Data, string}
use Rattle.fs_json.specs.Answer.{◌>>=◌}
use Rattle.fs_json.specs.Scalars.{text_at}
use Rattle.fs_json.specs.declared.bad.Bad.{Bad}
use Rattle.fs_json.specs.declared.bad.Bad.TheVariants.{At, Memory}

-- the rule at the place, where one is broken
abbrev pub rule_at : List ℕ → Option Rule → Bad
rule_at place (Some rule) = At rule place
rule_at place None = Memory alloc_error

-- what was read of a path's text, or the rule of paths that is broken
abbrev pub path_at : {A : Type 0} → List ℕ → Result A PathError → Result A Bad
path_at place (Ok x) = Ok x
path_at place (Err e) = Err (rule_at place (rule_of e))

-- the name of a document of any project and database
abbrev pub reference_at : Data → List ℕ → Result DocName Bad
reference_at d place = text_at d place >>= λ text. path_at place (reference_of text)

-- the name of a document of this root
abbrev pub document_name_at : Root → Data → List ℕ → Result DocName Bad
document_name_at root d place = text_at d place >>= λ text. path_at place (document_of root text)

-- the path of these names, of which there is at least one
abbrev pub path_of : List (List ℕ) → Result FieldPath PathError
path_of [] = Err (BadQuote 0)
path_of (name ∷ names) = Ok (record { parts = name ∷ names; some = zero-lt-suc (length names) })

-- what was read of a field path's text, as a path
abbrev pub named : Result (List (List ℕ)) PathError → Result FieldPath PathError
named (Ok names) = path_of names
named (Err e) = Err e

abbrev pub field_path_of : List ℕ → Result FieldPath PathError
field_path_of text = named (field_of text)

-- a field path
abbrev pub field_path_at : Data → List ℕ → Result FieldPath Bad
field_path_at d place = text_at d place >>= λ text. path_at place (field_path_of text)

-- a field path as it is written
abbrev pub path_json : FieldPath → Data
path_json p = string (field_text p.parts)

-- the text of a field path is read back
abbrev pub IsPathHeld : FieldPath → Type 0
IsPathHeld p = field_of (field_text p.parts) ≡ Ok p.parts
