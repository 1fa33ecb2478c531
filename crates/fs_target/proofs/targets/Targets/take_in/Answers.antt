use Rattle.std.proofs.Common.{◌≡◌, ℤ, List, None, Option, get_or, map, set, refl, sym, ap, ◌∙◌, subst, arith}
use Rattle.std.specs.Vec.{with_items}
use Rattle.std.proofs.lemmas.List.{with_items_is}
use Rattle.fs_listen.specs.Listening.{later_of}
use Rattle.fs_target.specs.Held.{fed}
use Rattle.fs_target.specs.Prepared.{ArePrepared, held_in}
use Rattle.fs_target.specs.Seen.{seen}
use Rattle.fs_target.specs.Still.{standing}
use Rattle.fs_target.specs.declared.still.Still.{Still}
use Rattle.fs_target.proofs.MayStand.{are_still, shown_still}
use Rattle.fs_target.proofs.StandsOn.{moved_of, still_fed}
use Rattle.fs_target.proofs.targets.Targets.take_in.Goals as goal

abbrev positions_moved : goal.After-still-in-Some-1 → List (Option ℤ) → List (Option ℤ)
positions_moved c ps = set ps c.args.shard (later_of c.args.to (get_or ps c.args.shard None))

abbrev moved : goal.After-still-in-Some-1 → Still
moved c = record c.in-Some.still { positions = with_items c.in-Some.still.positions c.move_position.new.positions }

moves : (c : goal.After-still-in-Some-1) → (moved c).positions.items ≡ positions_moved c c.in-Some.still.positions.items
moves c =
    with_items_is c.in-Some.still.positions c.move_position.new.positions (omega arith)
    ∙ c.move_position.ensures
    ∙ ap (positions_moved c) c.as_mut_slice.ensures.value

pub invariant_of-self : goal.invariant_of-self
invariant_of-self c =
    let m = c.self.inside.awake in
    let s = c.in-Some.still in
    let are = are_still c.self.inside.still s m c.in-Some.is c.self.invariant.0 in
    (record { each = are.each; of = moved_of c.args.shard c.args.to s (moved c) (map seen m.entries) (moves c) refl are.of }, c.self.invariant.1)

pub returns-in-Some : goal.returns-in-Some
returns-in-Some c = λ es ready.
    let m = c.self.inside.awake in
    let s = c.in-Some.still in
    let are = are_still c.self.inside.still s m c.in-Some.is c.self.invariant.0 in
    let shown = shown_still c.self.inside.still s m c.args.self.now c.in-Some.is c.self.view_is in
    ap (λ ps. held_in (standing ps m)) (moves c)
    ∙ still_fed c.args.shard c.args.to es s.positions.items m are.of.rise (subst (ArePrepared c.args.shard es) (sym shown) ready)
    ∙ ap (λ v. fed c.args.shard es c.args.to (held_in v)) shown
