use Rattle.std.proofs.Common.{◌≡◌, ◌+◌, ◌-◌, ◌<◌, ◌≤◌, length, cond, suc, arith, sym, ap, ◌∙◌, subst}
use Rattle.fs_replay.specs.Settling.{place_after, tries_all, tries_from}
use Rattle.fs_replay.specs.declared.state.State.{State}
use Rattle.fs_replay.proofs.Falling.{place_within}
use Rattle.fs_replay.proofs.Playing.{Goes, found_at, next_try}
use Rattle.fs_replay.proofs.close.try_all.Goals as goal
use Rattle.fs_replay.proofs.close.try_all.Goals.{then-branch, else-branch}

pub overflow_add-place : goal.overflow_add-place
overflow_add-place c = omega (arith, c.requests.invariant.fits, c.requests-test.true)

pub requests-preserved : goal.requests-preserved
requests-preserved c =
    let s = c.requests.state in
    let t = c.try_one.new.state in
    let place = c.requests.place in
    let untried = c.requests.untried in
    let inv = c.requests.invariant in
    let tried = c.in_ok-try_one.ensures in
    let some : 0 < untried = omega (arith, c.requests-test.true) in
    let placed : c.if-branch.place ≡ place_after s.server place =
    elim c.if-branch.branch [
      | then-branch w ↦ w.place-is ∙ sym (ap (λ b. cond b (place + 1) place) (sym tried.waits ∙ w.if-branch.true))
      | else-branch w ↦ w.place-is ∙ sym (ap (λ b. cond b (place + 1) place) (sym tried.waits ∙ w.if-branch.false))
    ] in
    let at = found_at s.server.parked place (omega (arith, inv.within, some)) in
    let before : place + suc (untried - 1) ≤ length s.server.parked = omega (arith, inv.within, some) in
    let after = place_within s place (untried - 1) at.0 at.1 before in
    let there : length t.server.parked ≡ length _ = ap (λ (x : State). length x.server.parked) tried.plays.state in
    let near : c.if-branch.place ≤ place + 1 =
    elim c.if-branch.branch
    [ then-branch w ↦ omega (arith, w.place-is) | else-branch w ↦ omega (arith, w.place-is) ] in
    record {
      goes =
          subst (λ p. Goes (tries_all c.args.state.now) c.args.out.now.items c.try_one.new.out.items (tries_from (untried - 1) p t)) (sym placed)
          (next_try (tries_all c.args.state.now) c.args.out.now.items c.requests.out.items c.try_one.new.out.items s t untried place some inv.goes tried.plays);
      within = omega (arith, after, there, placed);
      fits = omega (arith, near, some, inv.fits);
    }
