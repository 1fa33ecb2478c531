use Rattle.std.proofs.Common.{◌≡◌, ◌&&◌, Bool, cond, not, [], ◌∷◌, ◌++◌, ◌+◌, drop, sym, ap, ◌∙◌}
use Rattle.std.specs.Prelude.{is_some}
use Rattle.std.specs.FinMap.{get}
use Rattle.fs_listen.specs.Told.{Views}
use Rattle.fs_target.proofs.Looking.{passing, passing_all, passing_next}
use Rattle.fs_target.proofs.told.leaving.Goals as goal
use Rattle.fs_target.proofs.told.leaving.Goals.{then-lost+in_ok-push, else-lost}

pub loop-look-preserved : goal.loop-look-preserved
loop-look-preserved c = λ time are.
    let p = λ (v : Views). is_some (get v.sent c.args.name.now) && not (is_some (get v.new c.args.name.now)) in
    let ids = c.loop-look.ids.items in
    let added = λ (b : Bool). cond b (ids ++ c.look-item.result.id ∷ []) ids in
    let now : c.if-lost.ids.items ≡ added c.lost.result = elim c.if-lost.branch [
      | then-lost+in_ok-push w ↦ ap (λ v. v.items) w.ids-is ∙ w.in_ok-push.ensures.items ∙ sym (ap added w.if-lost.true)
      | else-lost w ↦ ap (λ v. v.items) w.ids-is ∙ sym (ap added w.if-lost.false)
    ] in
    ap (λ xs. xs ++ passing time p (drop (c.loop-look.look-index + 1) c.args.looks.now)) now
    ∙ passing_next time p c.args.looks.now c.loop-look.look-index c.look-item.result ids c.lost.result c.loop-look-test.true are c.look-item.is (c.lost.ensures time) (c.loop-look.invariant time are)

pub returns : goal.returns
returns c = λ time are.
    let p = λ (v : Views). is_some (get v.sent c.args.name.now) && not (is_some (get v.new c.args.name.now)) in
    c.of.ensures ∙ passing_all time p c.args.looks.now c.loop-look.look-index c.loop-look.ids.items c.loop-look-test.false (c.loop-look.invariant time are)
