-- The laws of matching. Each is shown by a public call.
use Rattle.std.specs.Prelude.{◌≡◌, ◌≢◌, ℤ, Bool, true, List, Option}
use Rattle.std.specs.FinMap.{get}
use Rattle.fs_path.specs.declared.name.DocName.{DocName}
use Rattle.fs_query.specs.Asked.{Asked}
use Rattle.fs_query.specs.Fits.{fits}
use Rattle.fs_query.specs.declared.cursor.Cursor.{Cursor}
use Rattle.fs_value.specs.declared.document.Document.{Document}
use Rattle.fs_write.specs.Batch.{Docs}
use Rattle.fs_write.specs.declared.timed_change.TimedChange.{TimedChange}
use Rattle.fs_history.specs.Brings.{Brings, until, of_names}
use Rattle.fs_history.specs.History.{at}
use Rattle.fs_history.specs.declared.batch.Batch.{Batch}
use Rattle.fs_match.specs.declared.events.Event.TheVariants as event
use Rattle.fs_match.specs.Event.{is_among, fitting, event_for, after_event}
use Rattle.fs_match.specs.Followed.{docs_fitting, changes_of, followed}

-- ---- one change

-- a document changes only where it is another afterwards
abbrev pub ChangesDiffer : Type 0
ChangesDiffer = (fits : Document → Bool) (before after : Option Document) → event_for fits before after ≡ event.Change → before ≢ after

-- cursors, offset and limit don't count
abbrev pub CutsDoNotCount : Type 0
CutsDoNotCount = (q : Asked) (start end : Option Cursor) (offset : ℤ) (limit : Option ℤ) (before after : Option Document)
    → event_for (fits (record q { start = start; end = end; offset = offset; limit = limit })) before after ≡ event_for (fits q) before after

-- with the event of a change what fitted before becomes what fits after it
abbrev pub OneChangeTells : Type 0
OneChangeTells = (fits : Document → Bool) (before after : Option Document)
    → after_event (event_for fits before after) after (fitting fits before) ≡ fitting fits after

-- ---- a history's changes

-- of the documents those that fit, name by name
abbrev pub FittingByName : Type 0
FittingByName = (fits : Document → Bool) (docs : Docs) (name : DocName) → get (docs_fitting fits docs) name ≡ fitting fits (get docs name)

-- with the events of what commits bring behind a time, what fits at a name then becomes what fits there at the later time
abbrev pub Follows : (Document → Bool) → Type 0
Follows fits = (h : List Batch) (s t : ℤ) (commits : List TimedChange) (name : DocName) → Brings (until h s) commits (until h t)
    → followed fits (changes_of name commits) (get (docs_fitting fits (at h s)) name) ≡ get (docs_fitting fits (at h t)) name

abbrev pub QueriesFollow : Type 0
QueriesFollow = (q : Asked) → Follows (fits q)

abbrev pub NamesFollow : Type 0
NamesFollow = (names : List DocName) → Follows (is_among names)

-- so documents that are at each name what its events make of those that fitted are those that fit at the later time
abbrev pub MapsFollow : Type 0
MapsFollow = (fits : Document → Bool) (h : List Batch) (s t : ℤ) (commits : List TimedChange) (docs : Docs) → Brings (until h s) commits (until h t)
    → ((name : DocName) → get docs name ≡ followed fits (changes_of name commits) (get (docs_fitting fits (at h s)) name))
    → docs ≡ docs_fitting fits (at h t)

-- the changes of other names don't count
abbrev pub OthersDoNotCount : Type 0
OthersDoNotCount = (p : DocName → Bool) (commits : List TimedChange) (name : DocName) → p name ≡ true
    → changes_of name (of_names p commits) ≡ changes_of name commits
