use Rattle.std.proofs.Common.{◌≡◌, List, arith, sym, ap, ◌∙◌, subst}
use Rattle.std.specs.Prelude.{int_lt}
use Rattle.std.proofs.lemmas.Grind.{common_steps}
use Rattle.fs_target.specs.Places.{HasPlace, HavePlaces}
use Rattle.fs_target.specs.Room.{AreInOrder, Coming}
use Rattle.fs_target.specs.Staged.{behind, up_to}
use Rattle.fs_target.specs.declared.event.TimedEvent.{TimedEvent}
use Rattle.fs_target.proofs.Each.{each_filter}
use Rattle.fs_target.proofs.Going.{kept_behind, kept_places}
use Rattle.fs_target.proofs.GoneOver.{places_up}
use Rattle.fs_target.proofs.InOrder.{order_filter}
use Rattle.fs_target.proofs.staged.Staged.go_to.Goals as goal

pub invariant_of-self : goal.invariant_of-self
invariant_of-self c =
    let left : c.drop_up_to.new.staged.items ≡ behind c.args.time c.leave_all.new.staged = grind (arith, common_steps) in
    let order = c.leave_all.ensures.order (subst AreInOrder (sym c.as_mut_slice.ensures.value) c.self.invariant.1.0) in (
      omega (arith, c.drop_up_to.ensures.len, c.drop_up_to.ensures.capacity, c.self.invariant.0),
      (subst AreInOrder (sym left) (order_filter (λ (e : TimedEvent). int_lt c.args.time e.time) c.leave_all.new.staged order), c.self.invariant.1.1),
    )

pub leave_all-requires : goal.leave_all-requires
leave_all-requires c =
    subst (λ (es : List TimedEvent). HavePlaces c.args.places.now (up_to c.args.time es)) (sym (c.as_mut_slice.ensures.value ∙ ap (λ (s : Coming). s.staged) c.self.view_is))
    (places_up c.args.places.now c.args.self.now.staged c.args.time c.requires)

pub returns-clause-places : goal.returns-clause-places
returns-clause-places c =
    let time = c.args.time in
    let old = c.args.places.now in
    let left = c.leave_all.new.places in
    let staged = c.args.self.now.staged in
    let stay = kept_places old left (behind time staged) c.leave_all.ensures.kept (each_filter (HasPlace old) (λ (e : TimedEvent). int_lt time e.time) staged c.requires) in
    kept_behind left c.give_back_all.new.places time staged c.give_back_all.ensures.kept stay
