-- Documents by their names, with places for those to come. (Only private clauses cite this.)
use Rattle.std.specs.Prelude.{◌≡◌, ℤ, int_le, Bool, true, false, List, [], ◌∷◌, Option, Some, None}
use Rattle.std.specs.BTreeMap.{is_at}
use Rattle.std.specs.Coded.{Coded}
use Rattle.std.specs.FinMap.{FinMap, code, entries, from_entries, get, insert}
use Rattle.std.specs.List.{AllByRecursion, filter_map}
use Rattle.std.specs.Map.{lookup}
use Rattle.std.specs.Option.{option_map}
use Rattle.fs_path.specs.NameOrder.{name_cmp}
use Rattle.fs_path.specs.contracts.name.DocName as name
use Rattle.fs_path.specs.declared.name.DocName.{DocName}
use Rattle.fs_value.specs.declared.document.Document.{Document}
use Rattle.fs_write.specs.Batch.{Bears, Docs}
use Rattle.fs_target.specs.Staged.{IsNamed}
use Rattle.fs_target.specs.contracts.place.Place as place
use Rattle.fs_target.specs.declared.event.TimedEvent.{TimedEvent}
use Rattle.fs_target.specs.declared.place.Place.{Place}

abbrev pub places_code : Coded (FinMap name_cmp Place)
places_code = code name.the_row.coded place.the_row.coded

-- what stands at a place, if there is one
abbrev pub stood : Option Place → Option Document
stood None = None
stood (Some p) = p.document

-- each document bears the name that it stands at
abbrev pub StandNamed : List (DocName × Place) → Type 0
StandNamed es = (name : DocName) → Bears (stood (lookup (is_at (name_cmp name)) es)) name

-- the documents that stand at places
abbrev pub standing : DocName × Place → Option (DocName × Document)
standing e = option_map (λ (d : Document). (e.0, d)) e.1.document

abbrev pub docs_in : FinMap name_cmp Place → Docs
docs_in places = from_entries (filter_map standing (entries places))

-- documents that are put one after another, each at its name
abbrev pub all_put : List Document → Docs → Docs
all_put [] docs = docs
all_put (d ∷ ds) docs = all_put ds (insert docs d.name d)

-- ---- events

-- whether a place that stays until one time is there at another
abbrev pub lasts : ℤ → Option ℤ → Bool
lasts time None = false
lasts time (Some until) = int_le time until

abbrev pub is_until : ℤ → Option Place → Bool
is_until time None = false
is_until time (Some p) = lasts time p.until

-- there is a place for an event that is inside, until its time
abbrev pub IsPlaced : FinMap name_cmp Place → TimedEvent → Type 0
IsPlaced places e = e.inside ≡ true → is_until e.time (get places e.name) ≡ true

abbrev pub HasPlace : FinMap name_cmp Place → TimedEvent → Type 0
HasPlace places e = IsNamed e × IsPlaced places e

-- each event that is inside has a place, and its document bears its name
abbrev pub HavePlaces : FinMap name_cmp Place → List TimedEvent → Type 0
HavePlaces places es = AllByRecursion (HasPlace places) es
