-- The events of a target that aren't part of its documents yet, by time and then by name.
--
--     documents    c/a {n: 1}
--     staged       5 c/a {n: 2} inside, 7 c/a {n: 0} outside, 7 c/b {n: 3} inside
--     at 5         c/a {n: 2}
--     at 7         c/b {n: 3}
use Rattle.std.specs.Prelude.{◌≡◌, IfSome, Bool, true, ℤ, int_le, int_lt, List, [], ◌∷◌, Option, Some, None, if◌then◌else◌}
use Rattle.std.specs.List.{filter}
use Rattle.std.specs.Ordering.{int_cmp, is_lt, on, then_cmp}
use Rattle.std.specs.declared.cmp.Ordering.{Ordering}
use Rattle.fs_path.specs.NameOrder.{name_cmp, name_eq}
use Rattle.fs_path.specs.declared.name.DocName.{DocName}
use Rattle.fs_value.specs.declared.document.Document.{Document}
use Rattle.fs_write.specs.Batch.{Docs, with_document}
use Rattle.fs_target.specs.declared.event.TimedEvent.{TimedEvent}

-- whether the document of an event bears its name
abbrev pub match_name : DocName → Option Document → Bool
match_name name None = true
match_name name (Some d) = name_eq d.name name

abbrev pub is_named : TimedEvent → Bool
is_named e = match_name e.name e.after

abbrev pub IsNamed : TimedEvent → Type 0
IsNamed e = IfSome e.after (λ d. d.name ≡ e.name)

-- of the documents of the target, what stands at the name of an event behind it
abbrev pub left_by : TimedEvent → Option Document
left_by e = if e.inside then e.after else None

-- the documents behind events, one after another
abbrev pub gone_over : List TimedEvent → Docs → Docs
gone_over [] docs = docs
gone_over (e ∷ es) docs = gone_over es (with_document docs e.name (left_by e))

-- the events up to a time, and those behind it
abbrev pub up_to : ℤ → List TimedEvent → List TimedEvent
up_to time es = filter (λ (e : TimedEvent). int_le e.time time) es

abbrev pub behind : ℤ → List TimedEvent → List TimedEvent
behind time es = filter (λ (e : TimedEvent). int_lt time e.time) es

-- ---- their order

abbrev pub event_cmp : TimedEvent → TimedEvent → Ordering
event_cmp = then_cmp (on (λ (e : TimedEvent). e.time) int_cmp) (on (λ (e : TimedEvent). e.name) name_cmp)

-- an event at its place, behind those that it isn't before
abbrev pub put_event : TimedEvent → List TimedEvent → List TimedEvent
put_event e [] = e ∷ []
put_event e (f ∷ fs) = if is_lt (event_cmp e f) then e ∷ f ∷ fs else f ∷ put_event e fs

abbrev pub put_events : List TimedEvent → List TimedEvent → List TimedEvent
put_events [] staged = staged
put_events (e ∷ es) staged = put_events es (put_event e staged)
