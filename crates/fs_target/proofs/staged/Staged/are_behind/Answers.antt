use Rattle.std.proofs.Common.{◌≡◌, true, false, [], refl, sym, ap, ◌∙◌, subst, arith}
use Rattle.std.specs.Prelude.{int_le, int_lt}
use Rattle.std.specs.Ordering.{int_cmp}
use Rattle.std.proofs.lemmas.Int.{ints}
use Rattle.fs_target.specs.Room.{AreInOrder, Coming}
use Rattle.fs_target.specs.Staged.{behind}
use Rattle.fs_target.proofs.Aside.{none_behind}
use Rattle.fs_target.proofs.InOrder.{not_before}
use Rattle.fs_target.proofs.staged.Staged.are_behind.Goals as goal

pub returns-in-Some : goal.returns-in-Some
returns-in-Some c = λ low.
    let time = c.args.time in
    let last = c.in-Some.last.now in
    let up : int_le last.time time ≡ true = not_before time last.time (int_cmp time last.time) refl (sym c.lt.ensures ∙ low) in
    let late : int_lt time last.time ≡ false = grind (arith, ints) in
    subst (λ es. behind time es ≡ []) (c.deref.ensures.value ∙ ap (λ (s : Coming). s.staged) c.self.view_is)
    (none_behind time c.deref.result.now last (subst AreInOrder (sym c.deref.ensures.value) c.self.invariant.1.0) c.in-Some.ensures.value late)
