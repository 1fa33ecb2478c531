-- The runs of a client: its steps in any order, and what is received on a link may be any message.
use Rattle.std.specs.Prelude.{◌≡◌, ◌<◌, ℕ, ℤ, ⊤, true, List, [], ◌∷◌, drop, None, is_some}
use Rattle.std.specs.FinMap.{get}
use Rattle.fs_query.specs.declared.target.Target.{Target}
use Rattle.fs_request.specs.declared.message.Message.{Message}
use Rattle.fs_write.specs.declared.write.Write.{Write}
use Rattle.fs_local.specs.Connect.{connected, lost}
use Rattle.fs_local.specs.Listen.{listen_refusal, listened}
use Rattle.fs_local.specs.Receive.{received}
use Rattle.fs_local.specs.State.{Client}
use Rattle.fs_local.specs.TakeOut.{taken_out}
use Rattle.fs_local.specs.Unlisten.{unlistened}
use Rattle.fs_local.specs.Write.{wrote}

pub data Step : Type 0 where
  listens : ℕ → Target → Step
  unlistens : ℕ → Step
  writes : List Write → ℤ → Step
  connects : Step
  loses : Step
  sends : Step
  receives : Message → Step
  -- the oldest refusal of a batch is handed out
  tells : Step

abbrev pub told_refusal : Client → Client
told_refusal c = record c { refusals = drop 1 c.refusals }

abbrev pub after : Step → Client → Client
after (listens id t) c = listened id t c
after (unlistens id) c = unlistened id c
after (writes ws moment) c = wrote ws moment c
after connects c = connected c
after loses c = lost c
after sends c = taken_out c
after (receives m) c = received m c
after tells c = told_refusal c

-- what may happen: a target is listened to that isn't refused
abbrev pub May : Step → Client → Type 0
May (listens id t) c = (0 < id) × (listen_refusal id t c ≡ None)
May (unlistens id) c = is_some (get c.targets.listened id) ≡ true
May (writes ws moment) c = ⊤
May connects c = ⊤
May loses c = ⊤
May sends c = ⊤
May (receives m) c = ⊤
May tells c = ⊤

abbrev pub after_all : List Step → Client → Client
after_all [] c = c
after_all (s ∷ ss) c = after_all ss (after s c)

abbrev pub MayAll : List Step → Client → Type 0
MayAll [] c = ⊤
MayAll (s ∷ ss) c = May s c × MayAll ss (after s c)
