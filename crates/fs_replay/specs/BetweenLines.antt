-- What stands between two lines of a script.
use Rattle.std.specs.Prelude.{◌≡◌, ℕ, ◌<◌, Bool, true, false, ◌==◌, ◌||◌, is_some, ⊤, List, [], None, map}
use Rattle.std.specs.FinMap.{entries}
use Rattle.std.specs.List.{list_any, AllByRecursion}
use Rattle.fs_listen.specs.Cuts.{first_loading}
use Rattle.fs_machine.specs.Facts.{Facts}
use Rattle.fs_machine.specs.Limits.{AreAllowed}
use Rattle.fs_machine.specs.Listen.{listening_of}
use Rattle.fs_machine.specs.Match.{matched}
use Rattle.fs_machine.specs.Raise.{raised}
use Rattle.fs_machine.specs.Request.{Decision}
use Rattle.fs_machine.specs.Retry.{retry_decision}
use Rattle.fs_machine.specs.Past.{Past}
use Rattle.fs_machine.specs.Release.{past_released}
use Rattle.fs_machine.specs.State.{Machine}
use Rattle.fs_machine.specs.declared.parked_request.ParkedRequest.{ParkedRequest}
use Rattle.fs_machine.specs.declared.session.Session.{Session}
use Rattle.fs_replay.specs.declared.directory.Named.{Named}
use Rattle.fs_replay.specs.declared.state.State.{State}

abbrev pub is_open : ℕ → List Session → Bool
is_open number ss = list_any (λ s. s.number == number) ss

-- nothing waits for it to be told
abbrev pub HasNothing : Session → Type 0
HasNothing session = session.outbox ≡ []

abbrev pub numbers_in : List Named → List ℕ
numbers_in ns = map (λ n. n.number) ns

-- nothing is owed: an accepted commit that isn't released waits for an earlier one that is pending
abbrev pub IsReleased : Past → Type 0
IsReleased p = past_released p ≡ p

-- it waits on
abbrev pub IsHeld : Decision → Type 0
IsHeld (Decision.refused refusal) = ⊥
IsHeld (Decision.held id) = ⊤
IsHeld Decision.goes_on = ⊥

-- a request that waits is held still: to try it again does nothing
abbrev pub IsHeldStill : Machine → ParkedRequest → Type 0
IsHeldStill m r = IsHeld (retry_decision m r.session r.envelope.request)

-- a session that is open asks for it, or a stream does
abbrev pub is_asked : List Session → ParkedRequest → Bool
is_asked ss r = is_some r.stream || is_open r.session ss

-- nothing is left to settle
pub record IsSettled (m : Machine) : Type 0 where
  -- no commit is under way
  pub released : m.past.unreleased ≡ []
  -- and whatever waits is held still, by a transaction that is open
  pub held : AllByRecursion (IsHeldStill m) m.parked

-- each session was told all: its targets are loaded, and to match a shard or to raise a session does nothing more
pub record IsServed (m : Machine) : Type 0 where
  pub all_loaded : (session : ℕ) → first_loading (entries (listening_of m session).targets) ≡ None
  pub all_matched : (shard : ℕ) → shard < m.config.shards → matched m shard m.past.released ≡ m
  pub all_raised : (session : ℕ) → raised m session ≡ m

pub record IsBetweenLines (s : State) : Type 0 where
  -- unless the script settles by hand
  pub settled : s.manual ≡ false → IsSettled s.server
  pub served : s.manual ≡ false → IsServed s.server
  pub released : IsReleased s.server.past
  -- nothing waits to be told
  pub empty : AllByRecursion HasNothing s.server.sessions
  -- the script knows the sessions that are open, in the order of opening
  pub known : numbers_in s.directory ≡ map (λ x. x.number) s.server.sessions
  -- and what waits is of one of them, or of a stream
  pub waiting : AllByRecursion (λ r. is_asked s.server.sessions r ≡ true) s.server.parked
  pub facts : Facts s.server
  pub limits : AreAllowed s.server.limits
