-- What is kept of targets is what the history has, also once that grows.
use Rattle.std.proofs.Common.{◌≡◌, ℕ, List, [], ◌∷◌, ◌++◌, refl, sym, ap, subst}
use Rattle.fs_history.specs.History.{IsRising}
use Rattle.fs_listen.specs.Listening.{none_listened}
use Rattle.fs_target.specs.Keeps.{Keeps}
use Rattle.fs_target.specs.Laws.{GrowthKeeps, NoneKeep}
use Rattle.fs_machine.specs.Config.{IsAllowed}
use Rattle.fs_machine.specs.Past.{Past}
use Rattle.fs_machine.specs.declared.config.Config.{Config}
use Rattle.fs_machine.specs.declared.answer.Outcome.{Outcome}
use Rattle.fs_machine.specs.declared.answer.Outcome.TheVariants as outcome
use Rattle.fs_machine.specs.declared.limits.Limits.{Limits}
use Rattle.fs_past.specs.Bringing.{BringsMore, IsBrought}
use Rattle.fs_sessions.specs.Heard.{AreHeard, Heard, opened_ear}
use Rattle.fs_machine.specs.Stream.{Desk}
use Rattle.fs_server.specs.Settling.{Decides}
use Rattle.fs_server.proofs.Unnumbered.{none_numbered}

-- where the history and what is released of it are as they were
pub heard_same : (config : Config) (limits : Limits) (p q : Past) (hs : List Heard) → q.history ≡ p.history → q.released ≡ p.released → AreHeard config limits p hs → AreHeard config limits q hs
heard_same config limits p q [] history released all = tt
heard_same config limits p q (h ∷ hs) history released all = (
  record {
    keeps = subst (λ b. Keeps b q.released h.held) (sym history) (subst (λ t. Keeps p.history t h.held) (sym released) all.0.keeps);
    shards = all.0.shards;
    limit = all.0.limit;
    numbered = all.0.numbered;
  },
  heard_same config limits p q hs history released all.1,
)

-- where it grows
pub heard_grown : GrowthKeeps → (config : Config) (limits : Limits) (p q : Past) (hs : List Heard) → BringsMore p q → IsRising q.history → AreHeard config limits p hs → AreHeard config limits q hs
heard_grown law config limits p q [] brings rising all = tt
heard_grown law config limits p q (h ∷ hs) brings rising all = (
  record {
    keeps = law p.history q.history brings.commits p.released q.released h.held all.0.keeps brings.brought rising brings.later brings.released;
    shards = all.0.shards;
    limit = all.0.limit;
    numbered = all.0.numbered;
  },
  heard_grown law config limits p q hs brings rising all.1,
)

-- where one more session is open, which listens to nothing
pub heard_more : NoneKeep → (config : Config) (limits : Limits) (p : Past) (number : ℕ) (hs : List Heard) → IsBrought p.history → IsRising p.history → IsAllowed config → AreHeard config limits p hs
    → AreHeard config limits p (hs ++ opened_ear number config.shards limits.targets ∷ [])
heard_more law config limits p number [] brought rising configured all =
    (record { keeps = law p.history brought.0 p.released config.shards limits.targets brought.1 rising configured; shards = refl; limit = refl; numbered = none_numbered none_listened }, tt)
heard_more law config limits p number (h ∷ hs) brought rising configured all = (all.0, heard_more law config limits p number hs brought rising configured all.1)

-- and once a commit is accepted or dropped, it is as it was
decided_history : (p q : Past) (d e : Desk) (id : ℕ) (o : Outcome) → Decides p d id o q e → q.history ≡ p.history
decided_history p q d e id (outcome.Effects changes results) is = ap (λ (x : Past). x.history) is.0
decided_history p q d e id (outcome.Refused refusal) is = ap (λ (x : Past). x.history) is.0

decided_released : (p q : Past) (d e : Desk) (id : ℕ) (o : Outcome) → Decides p d id o q e → q.released ≡ p.released
decided_released p q d e id (outcome.Effects changes results) is = ap (λ (x : Past). x.released) is.0
decided_released p q d e id (outcome.Refused refusal) is = ap (λ (x : Past). x.released) is.0

pub decided_shards : (p q : Past) (d e : Desk) (id : ℕ) (o : Outcome) → Decides p d id o q e → q.shards ≡ p.shards
decided_shards p q d e id (outcome.Effects changes results) is = ap (λ (x : Past). x.shards) is.0
decided_shards p q d e id (outcome.Refused refusal) is = ap (λ (x : Past). x.shards) is.0

pub heard_decided : (config : Config) (limits : Limits) (p q : Past) (d e : Desk) (hs : List Heard) (id : ℕ) (o : Outcome) → Decides p d id o q e → AreHeard config limits p hs → AreHeard config limits q hs
heard_decided config limits p q d e hs id o is all = heard_same config limits p q hs (decided_history p q d e id o is) (decided_released p q d e id o is) all
