-- What opened fields are, whatever is opened in them.
use Rattle.std.specs.Prelude.{ℕ, List}
use Rattle.fs_value.specs.Data.{Data, array, object, items_of, members_of}
use Rattle.fs_value.specs.View.{view}
use Rattle.fs_edit.specs.declared.open_fields.Open.{Open}
use Rattle.fs_edit.specs.declared.open_fields.Open.TheVariants.{Whole, Map, Array}

-- a value, opened or not
abbrev pub open_view : Open → Data
open_view (Whole v) = view v
open_view (Map fs) = object (members_of fs)
open_view (Array ds) = array (items_of ds)

-- a field, by its key and its value
abbrev pub entry_view : List ℕ × Open → List ℕ × Data
entry_view e = (e.0, open_view e.1)
