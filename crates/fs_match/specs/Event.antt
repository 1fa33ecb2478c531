-- What a change of a document means to a listener. The documents listened to are those that fit: a query, or a list of names.
--
--     listened to: the documents whose n is above 1
--     c/a from {n: 1} to {n: 2}      enters         c/a {n: 2} is made         enters
--     c/a from {n: 2} to {n: 3}      changes        c/a {n: 2} is deleted      leaves
--     c/a from {n: 3} to {n: 1}      leaves         c/a {n: 1} is deleted      nothing
-- (v1 reference, `DocumentChange`, `DocumentDelete`, `DocumentRemove`.)
use Rattle.std.specs.Prelude.{Bool, if◌then◌else◌, List, Option, Some, None}
use Rattle.std.specs.List.{list_any}
use Rattle.fs_path.specs.NameOrder.{name_eq}
use Rattle.fs_path.specs.declared.name.DocName.{DocName}
use Rattle.fs_value.specs.Same.{same_document}
use Rattle.fs_value.specs.declared.document.Document.{Document}
use Rattle.fs_match.specs.declared.events.Event.{Event}
use Rattle.fs_match.specs.declared.events.Event.TheVariants as event

-- a document's name is among names
abbrev pub is_among : List DocName → Document → Bool
is_among names d = list_any (λ name. name_eq name d.name) names

-- the document, where it is there and fits
abbrev pub fitting : (Document → Bool) → Option Document → Option Document
fitting fits None = None
fitting fits (Some d) = if fits d then Some d else None

-- what happens to what fits, by what fits before and after
abbrev pub event_between : Option Document → Option Document → Event
event_between None None = event.None
event_between None (Some after) = event.Enter
event_between (Some before) None = event.Leave
event_between (Some before) (Some after) = if same_document before after then event.None else event.Change

-- what a change is to a listener, by the documents before and after it
abbrev pub event_for : (Document → Bool) → Option Document → Option Document → Event
event_for fits before after = event_between (fitting fits before) (fitting fits after)

-- what fits once an event is taken, by the document after the change and what fitted before
abbrev pub after_event : Event → Option Document → Option Document → Option Document
after_event event.Enter after had = after
after_event event.Change after had = after
after_event event.Leave after had = None
after_event event.None after had = had
