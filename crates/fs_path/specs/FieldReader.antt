-- Only private clauses cite this: the reader of field paths, which goes from stage to stage.
use Rattle.std.specs.Prelude.{ℕ, ◌+◌, Bool, true, false, ◌||◌, List, [], ◌∷◌, ◌++◌, Option, Some, None, Result, Ok, Err, if◌then◌else◌, ◌==◌}
use Rattle.std.specs.Option.{option_map}
use Rattle.fs_path.specs.declared.error.PathError.{PathError}
use Rattle.fs_path.specs.declared.error.PathError.TheVariants.{BadQuote}
use Rattle.fs_path.specs.declared.stage.Stage.{Stage}
use Rattle.fs_path.specs.declared.stage.Stage.TheVariants.{Opening, Simple, Quoted, Escaped, Closed}
use Rattle.fs_path.specs.FieldName.{is_name_start, is_name_byte}

-- where a reader stands after a byte more, if a field path may go on so
abbrev pub stage_after : Stage → ℕ → Option Stage
stage_after Opening b = if b == 96 then Some Quoted else (if is_name_start b then Some Simple else None)
stage_after Simple b = if b == 46 then Some Opening else (if is_name_byte b then Some Simple else None)
stage_after Quoted b = if b == 96 then Some Closed else (if b == 92 then Some Escaped else Some Quoted)
stage_after Escaped b = if b == 96 || b == 92 then Some Quoted else None
stage_after Closed b = if b == 46 then Some Opening else None

-- a reader: where it stands, the names that are whole, and the name that it is in
pub record Reading : Type 0 where
  pub stage : Stage
  pub names : List (List ℕ)
  pub name : List ℕ

-- whether the byte that leads from one stage to the next belongs to the name; else it is a dot, a backquote or a
-- backslash that only marks it
abbrev pub takes : Stage → Stage → Bool
takes _ Simple = true
takes Opening Quoted = false
takes _ Quoted = true
takes _ _ = false

-- whether a dot led to a stage, so that a name is whole
abbrev pub is_opening : Stage → Bool
is_opening Opening = true
is_opening _ = false

abbrev pub gathered : Stage → List (List ℕ) → List ℕ → Reading
gathered Opening names name = record { stage = Opening; names = names ++ name ∷ []; name = [] }
gathered stage names name = record { stage = stage; names = names; name = name }

abbrev pub moved : Reading → ℕ → Stage → Reading
moved r b next = gathered next r.names (if takes r.stage next then r.name ++ b ∷ [] else r.name)

abbrev pub step : Reading → ℕ → Option Reading
step r b = option_map (moved r b) (stage_after r.stage b)

-- at the end of the text, which is read up to a place
abbrev pub ended : Stage → List (List ℕ) → ℕ → Result (List (List ℕ)) PathError
ended Simple names at = Ok names
ended Closed names at = Ok names
ended _ names at = Err (BadQuote at)

-- what is read if a reader goes on; else the text is no field path from a place on
abbrev pub goes_on : Option Reading → ℕ → (Reading → Result (List (List ℕ)) PathError) → Result (List (List ℕ)) PathError
goes_on None at read = Err (BadQuote at)
goes_on (Some next) at read = read next

abbrev pub field_from : Reading → ℕ → List ℕ → Result (List (List ℕ)) PathError
field_from r at [] = ended r.stage (r.names ++ r.name ∷ []) at
field_from r at (b ∷ bs) = goes_on (step r b) at (λ next. field_from next (at + 1) bs)

abbrev pub opening : Reading
opening = record { stage = Opening; names = []; name = [] }

-- the names of a field path, or how far its text may be one
abbrev pub read_of : List ℕ → Result (List (List ℕ)) PathError
read_of text = field_from opening 0 text
