-- What a raise of kept targets tells.
use Rattle.std.specs.Prelude.{ℕ, ℤ, true, List, Option, Some, None, map}
use Rattle.std.specs.FinMap.{empty, entries, get}
use Rattle.fs_query.specs.declared.listen.ListenMessage.{ListenMessage}
use Rattle.fs_listen.specs.Listening.{Listened}
use Rattle.fs_listen.specs.Sent.{sent}
use Rattle.fs_listen.specs.Told.{Views}
use Rattle.fs_query.specs.declared.target.Target.{Target}
use Rattle.fs_target.specs.Held.{Held}
use Rattle.fs_target.specs.Kept.{Kept, docs_at, shown_of}

-- the view that was sent of a target, and that at a time
abbrev pub views_kept : ℤ → ℕ → Target → Option (Option Kept) → Views
views_kept time id t (Some (Some k)) = record { id = id; sent = k.sent; new = shown_of t (docs_at time k) }
views_kept time id t (Some None) = record { id = id; sent = empty; new = empty }
views_kept time id t None = record { id = id; sent = empty; new = empty }

abbrev pub kept_views : ℤ → Held → List Views
kept_views time h = map (λ (e : ℕ × Listened). views_kept time e.0 e.1.target (get h.kept e.0)) (entries h.listening.targets)

-- That a document of a name is gone isn't known here, where no store is looked at: views that lose a document are told that it is removed from
-- them, and who has the store tells of one that is gone that it is deleted.
abbrev pub kept_told : ℤ → Held → List ListenMessage
kept_told time h = sent (λ _. true) time h.listening (kept_views time h)
