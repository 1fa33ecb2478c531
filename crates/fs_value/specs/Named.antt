-- Documents by their names.
use Rattle.std.specs.Prelude.{◌≡◌, List, map}
use Rattle.std.specs.List.{AllByRecursion}
use Rattle.fs_path.specs.declared.name.DocName.{DocName}
use Rattle.fs_value.specs.declared.document.Document.{Document}

-- documents in a list, each at its name
abbrev pub by_name : List Document → List (DocName × Document)
by_name ds = map (λ d. (d.name, d)) ds

-- each document stands at its own name
abbrev pub StandAtNames : List (DocName × Document) → Type 0
StandAtNames entries = AllByRecursion (λ e. e.1.name ≡ e.0) entries
