-- When a session is raised: where it is ready and its outbox has room, and never else.
--
--     the targets of 0 are together at 4, and it was last raised at 3
--     raising 0       what changed, then NO_CHANGE at 4 with the token of 4
--     raising 0       nothing: it was raised at 4
-- (v1 reference, `TargetChange`: NO_CHANGE.)
use Rattle.std.specs.Prelude.{◌≡◌, ℕ, ℤ, ◌==◌, Bool, true, false, not, ◌&&◌, List, [], ◌∷◌, ◌++◌}
use Rattle.fs_token.specs.Token.{token_of}
use Rattle.fs_query.specs.declared.listen.ListenMessage.{ListenMessage}
use Rattle.fs_query.specs.declared.listen.ListenMessage.TheVariants as listen
use Rattle.fs_listen.specs.Cuts.{is_ready}
use Rattle.fs_listen.specs.ReadyLaws.{AreTogether, IsDue}
use Rattle.fs_listen.specs.declared.cut.Cut.TheVariants.{At}
use Rattle.fs_machine.specs.Event.{Event}
use Rattle.fs_machine.specs.Listen.{listening_of}
use Rattle.fs_machine.specs.Raise.{cut_of}
use Rattle.fs_machine.specs.Refusing.{outbox_is_full}
use Rattle.fs_machine.specs.State.{Machine}
use Rattle.fs_machine.specs.Told.{is_open, told_by}

-- its targets are together at a time, and what it is told ends with that time and the token that resumes from there
pub record IsRaised (m : Machine) (session : ℕ) : Type 0 where
  pub time : ℤ
  pub at : cut_of m session ≡ At time
  pub front : List ListenMessage
  pub told : told_by m (Event.raising session) session ≡ front ++ listen.NoChange time (token_of time) ∷ []

abbrev pub may_be_raised : Machine → ℕ → Bool
may_be_raised m session = is_ready (listening_of m session) && not (outbox_is_full m session)

abbrev pub RaisedWhenReady : Type 0
RaisedWhenReady = (m : Machine) (session : ℕ) → is_open session m.sessions ≡ true → may_be_raised m session ≡ true → IsRaised m session

-- where it isn't ready or has no room, nobody is told anything
abbrev pub QuietUnlessReady : Type 0
QuietUnlessReady = (m : Machine) (session other : ℕ) → may_be_raised m session ≡ false → told_by m (Event.raising session) other ≡ []

-- and no other session is
abbrev pub OthersStayQuiet : Type 0
OthersStayQuiet = (m : Machine) (session other : ℕ) → (session == other) ≡ false → told_by m (Event.raising session) other ≡ []

-- so one is raised whose targets are together at a time that is due
abbrev pub RaisedOnceDue : Type 0
RaisedOnceDue = (m : Machine) (session : ℕ) (time : ℤ) → is_open session m.sessions ≡ true → outbox_is_full m session ≡ false
    → AreTogether (listening_of m session) time → IsDue (listening_of m session) time
    → (front : List ListenMessage) × (told_by m (Event.raising session) session ≡ front ++ listen.NoChange time (token_of time) ∷ [])
