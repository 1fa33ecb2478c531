-- A session ends. Its messages that weren't taken yet are lost, its targets are gone, it owns no stream, and its requests that wait are
-- withdrawn; a commit of it that is pending goes on, and so does a batch that a stream took.
use Rattle.std.specs.Prelude.{ℕ, Bool, not, ◌==◌, ◌&&◌, is_none, List}
use Rattle.std.specs.List.{filter}
use Rattle.fs_stream.specs.Streams.{left_by}
use Rattle.fs_machine.specs.Listeners.{unheard}
use Rattle.fs_machine.specs.Sessions.{without}
use Rattle.fs_machine.specs.State.{Machine}
use Rattle.fs_machine.specs.declared.parked_request.ParkedRequest.{ParkedRequest}

-- the session asks for it, and no stream does
abbrev pub is_own : ℕ → ParkedRequest → Bool
is_own session r = r.session == session && is_none r.stream

-- the requests that stay: those of others, and of streams
abbrev pub of_others : ℕ → List ParkedRequest → List ParkedRequest
of_others session rs = filter (λ r. not (is_own session r)) rs

abbrev pub departed : Machine → ℕ → Machine
departed m session = record m {
  sessions = without session m.sessions;
  listeners = unheard session m.listeners;
  parked = of_others session m.parked;
  streams = left_by session m.streams;
}
