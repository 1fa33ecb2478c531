-- What is kept of a target that is loaded: the view that its reader was sent, all documents that it listens to at its own base, and the events
-- staged behind that. Its own base is the time that it was loaded at, and that of the last raise from then on.
--
--     the query of c by n, limit 1, raised at 4     sent c/a {n: 1}    documents c/a {n: 1}, c/b {n: 2}    staged 5 c/a {n: 3} inside
--     raised at 5                                   sent c/b {n: 2}    documents c/a {n: 3}, c/b {n: 2}
use Rattle.std.specs.Prelude.{ℤ, Bool, true, false, List}
use Rattle.fs_write.specs.Batch.{Docs}
use Rattle.fs_listen.specs.View.{is_whole, view}
use Rattle.fs_query.specs.declared.target.Target.{Target}
use Rattle.fs_target.specs.Staged.{behind, gone_over, up_to}
use Rattle.fs_target.specs.declared.event.TimedEvent.{TimedEvent}

pub record Kept : Type 0 where
  pub sent : Docs
  pub docs : Docs
  pub staged : List TimedEvent

-- ---- a view

-- the view over documents that all fit
abbrev pub shown_of_all : Bool → Target → Docs → Docs
shown_of_all true t docs = docs
shown_of_all false t docs = view t docs

abbrev pub shown_of : Target → Docs → Docs
shown_of t docs = shown_of_all (is_whole t) t docs

-- ---- at a time behind the base

abbrev pub docs_at : ℤ → Kept → Docs
docs_at time k = gone_over (up_to time k.staged) k.docs

abbrev pub kept_at : ℤ → Target → Kept → Kept
kept_at time t k = record { sent = shown_of t (docs_at time k); docs = docs_at time k; staged = behind time k.staged }
