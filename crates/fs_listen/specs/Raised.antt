-- What a raise sends over a history. The view that was sent of a target is that of the last raise; of one that is new, that of its token's
-- time, and empty without a token and after a reset. The new view is that at the time of the raise. So of a session without changes nothing
-- is told but that time.
use Rattle.std.specs.Prelude.{ℕ, ℤ, Bool, List, Option, Some, None, map, if◌then◌else◌, is_some}
use Rattle.std.specs.FinMap.{get, entries}
use Rattle.fs_path.specs.declared.name.DocName.{DocName}
use Rattle.fs_write.specs.Batch.{Docs}
use Rattle.fs_query.specs.declared.listen.ListenMessage.{ListenMessage}
use Rattle.fs_history.specs.History.{at}
use Rattle.fs_history.specs.declared.batch.Batch.{Batch}
use Rattle.fs_listen.specs.Listening.{Loaded, Listened, Listening}
use Rattle.fs_listen.specs.Sent.{sent}
use Rattle.fs_listen.specs.Told.{Views}
use Rattle.fs_listen.specs.View.{view, view_at}

-- the time whose view was sent
abbrev pub sent_time : Option ℤ → Option ℤ → Option Loaded → Option ℤ
sent_time raised token None = token
sent_time raised token (Some l) = if l.current then raised else (if l.reset then None else token)

abbrev pub sent_view : List Batch → Option ℤ → Listened → Docs
sent_view h raised l = view_at l.target h (sent_time raised l.token l.loaded)

abbrev pub views_of : List Batch → ℤ → Listening → List Views
views_of h time s =
    map (λ (e : ℕ × Listened). record { id = e.0; sent = sent_view h s.raised e.1; new = view e.1.target (at h time) }) (entries s.targets)

-- whether a document of a name stands at a time
abbrev pub stands_at : List Batch → ℤ → DocName → Bool
stands_at h time name = is_some (get (at h time) name)

abbrev pub raised : List Batch → ℤ → Listening → List ListenMessage
raised h time s = sent (stands_at h time) time s (views_of h time s)
