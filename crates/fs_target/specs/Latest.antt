-- The last event of each name. (Only private clauses cite this.)
use Rattle.std.specs.Prelude.{List, [], ◌∷◌, Option, Some, None}
use Rattle.std.specs.Coded.{Coded}
use Rattle.std.specs.FinMap.{FinMap, code, empty, insert}
use Rattle.fs_path.specs.NameOrder.{name_cmp}
use Rattle.fs_path.specs.contracts.name.DocName as name
use Rattle.fs_value.specs.declared.document.Document.{Document}
use Rattle.fs_target.specs.Staged.{left_by}
use Rattle.fs_target.specs.contracts.event.TimedEvent as event
use Rattle.fs_target.specs.declared.event.TimedEvent.{TimedEvent}

abbrev pub latest_code : Coded (FinMap name_cmp TimedEvent)
latest_code = code name.the_row.coded event.the_row.coded

abbrev pub with_latest : List TimedEvent → FinMap name_cmp TimedEvent → FinMap name_cmp TimedEvent
with_latest [] had = had
with_latest (e ∷ es) had = with_latest es (insert had e.name e)

abbrev pub latest_of : List TimedEvent → FinMap name_cmp TimedEvent
latest_of es = with_latest es empty

-- what stands at a name behind its last event, if there is one
abbrev pub left_behind : Option TimedEvent → Option Document → Option Document
left_behind None had = had
left_behind (Some e) had = left_by e
