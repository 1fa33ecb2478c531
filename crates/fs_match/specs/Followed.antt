-- The documents that fit, followed by events: whoever has those of one time, and takes the events of the changes behind it one after
-- another, has those of a later time.
--
--     listened to: the documents whose n is above 1      c/a            event       fits
--     at 4                                               {n: 2}                     {n: 2}
--     changed at 5                                       {n: 3}         changes     {n: 3}
--     changed at 7                                       {n: 0}         leaves      none
--     deleted at 8                                       none           nothing     none
use Rattle.std.specs.Prelude.{Bool, List, [], ◌∷◌, Option, Some, None, is_some}
use Rattle.std.specs.FinMap.{get, find, retain_keys}
use Rattle.fs_path.specs.NameOrder.{name_cmp}
use Rattle.fs_path.specs.declared.name.DocName.{DocName}
use Rattle.fs_value.specs.declared.document.Document.{Document}
use Rattle.fs_write.specs.Batch.{Docs, changes_by_name}
use Rattle.fs_write.specs.declared.change.Change.{Change}
use Rattle.fs_write.specs.declared.timed_change.TimedChange.{TimedChange}
use Rattle.fs_match.specs.Event.{fitting, event_for, after_event}

-- of the documents those that fit
abbrev pub docs_fitting : (Document → Bool) → Docs → Docs
docs_fitting fits docs = retain_keys docs (λ name. is_some (fitting fits (get docs name)))

-- ---- the changes of a name

-- a change, if there is one, in front of others
abbrev pub with_change : Option Change → List Change → List Change
with_change (Some change) changes = change ∷ changes
with_change None changes = changes

-- what commits change of a name, one after another
abbrev pub changes_of : DocName → List TimedChange → List Change
changes_of name [] = []
changes_of name (c ∷ commits) = with_change (find name_cmp name (changes_by_name c.changes)) (changes_of name commits)

-- ---- their events

-- which document, if any, fits at a name once the events of its changes are taken
abbrev pub followed : (Document → Bool) → List Change → Option Document → Option Document
followed fits [] had = had
followed fits (c ∷ changes) had = followed fits changes (after_event (event_for fits c.before c.after) c.after had)
