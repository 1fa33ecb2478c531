use Rattle.std.proofs.Common.{◌≡◌, ℕ, ℤ, List, true, cond, rules, ap, subst}
use Rattle.fs_local.proofs.Standing.{stands_unchanged}
use Rattle.fs_local.specs.Raise.{may_raise, raised}
use Rattle.fs_local.specs.Stands.{Stands}
use Rattle.fs_local.specs.State.{Client}
use Rattle.fs_client.proofs.client.Client.told_unchanged.Goals as goal

-- a snapshot is taken where it may be
stands_raised : (c : Client) (time : ℤ) (token : List ℕ) → Stands c → may_raise time c ≡ true → Stands (raised time token c)
stands_raised c time token stands may = subst Stands (ap (λ b. cond b (raised time token c) c) may) (stands_unchanged c stands time token)

pub invariant_of-self : goal.invariant_of-self
invariant_of-self c =
    let copied = c.in_ok-token.ensures in
    subst Stands (cc copied) (stands_raised _ c.args.time c.args.token.now c.self.invariant (search rules))
