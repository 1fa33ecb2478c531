-- What is kept of a target, beside what was made ready for it.
use Rattle.std.specs.Prelude.{List, Option, Some, None, refl, true, false, Bool, ℤ}
use Rattle.std.specs.Coded.{Coded, code_by, coded×, coded_list, coded_option}
use Rattle.fs_write.specs.Batch.{Docs}
use Rattle.fs_listen.specs.View.{is_whole, view}
use Rattle.fs_query.specs.declared.target.Target.{Target}
use Rattle.fs_target.specs.Held.{docs_code, kept_code}
use Rattle.fs_target.specs.Kept.{Kept, docs_at}
use Rattle.fs_target.specs.contracts.event.TimedEvent as event
use Rattle.fs_target.specs.declared.event.TimedEvent.{TimedEvent}

-- what is kept, the events that come next, and the view that the next raise sends where it isn't of all documents
pub record Ready : Type 0 where
  pub kept : Kept
  pub coming : List TimedEvent
  pub next : Option Docs

abbrev pub ready_code : Coded Ready
ready_code =
    code_by (Kept × (List TimedEvent × Option Docs)) (coded× kept_code (coded× (coded_list event.the_row.coded) (coded_option docs_code)))
    (λ r. (r.kept, (r.coming, r.next))) (λ p. record { kept = p.0; coming = p.1.0; next = p.1.1 }) (λ _. refl)

-- the view that was sent: one of its own, or all documents
abbrev pub sent_of : Option Docs → Docs → Docs
sent_of None docs = docs
sent_of (Some sent) docs = sent

-- the view that a raise at a time sends of a target, where it isn't of all documents
abbrev pub cut_at : Bool → ℤ → Target → Kept → Option Docs
cut_at true time t k = None
cut_at false time t k = Some (view t (docs_at time k))

abbrev pub next_at : ℤ → Target → Kept → Option Docs
next_at time t k = cut_at (is_whole t) time t k
