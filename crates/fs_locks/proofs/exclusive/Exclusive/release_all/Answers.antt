use Rattle.std.proofs.Common.{ap, refl, ◌∙◌}
use Rattle.std.specs.Prelude.{◌≡◌, ◌&&◌, ◌==◌, [], not, unwrap_or}
use Rattle.fs_locks.specs.Tree.{taken_by}
use Rattle.fs_locks.proofs.Holding.{held_less, taken_less}
use Rattle.fs_locks.proofs.Views.{canonical, held_at, held_view}
use Rattle.fs_locks.proofs.exclusive.Exclusive.release_all.Goals as goal

pub invariant_of-self : goal.invariant_of-self
invariant_of-self c =
    let old = c.self.inside.by_name.entries in
    let new = c.take_all.new.tree.entries in
    let taken = c.self.inside.by_id.entries in
    let all : c.as_slice.result.now ≡ taken_by c.args.id taken = c.as_slice.ensures ∙ ap (λ o. unwrap_or o []) c.in-Some.ensures.value in
    taken_less old new taken c.remove.new.self.entries c.args.id c.self.invariant (held_less old new taken c.args.id c.as_slice.result.now c.self.invariant all c.take_all.ensures)
    (λ i apart. ap (λ o. unwrap_or o []) (c.in-Some.ensures.updates.2 i apart))

pub returns-in-Some-clause-value : goal.returns-in-Some-clause-value
returns-in-Some-clause-value c = λ i n.
    let old = c.self.inside.by_name.entries in
    let new = c.take_all.new.tree.entries in
    let taken = c.self.inside.by_id.entries in
    let all : c.as_slice.result.now ≡ taken_by c.args.id taken = c.as_slice.ensures ∙ ap (λ o. unwrap_or o []) c.in-Some.ensures.value in
    held_view new i n
    ∙ held_less old new taken c.args.id c.as_slice.result.now c.self.invariant all c.take_all.ensures i n
    ∙ ap (λ b. not (i == c.args.id) && b) (held_at old c.args.self.now c.self.view_is i n)

pub returns-in_default-clause-value : goal.returns-in_default-clause-value
returns-in_default-clause-value c = λ i n.
    let old = c.self.inside.by_name.entries in
    let taken = c.self.inside.by_id.entries in
    held_view old i n
    ∙ held_less old old taken c.args.id [] c.self.invariant (ap (λ o. unwrap_or o []) c.in_default.ensures.value) (λ j m. refl) i n
    ∙ ap (λ b. not (i == c.args.id) && b) (held_at old c.args.self.now c.self.view_is i n)

pub returns-in-Some-clause-canonical : goal.returns-in-Some-clause-canonical
returns-in-Some-clause-canonical c = canonical c.take_all.new.tree.entries _ refl

pub returns-in_default-clause-canonical : goal.returns-in_default-clause-canonical
returns-in_default-clause-canonical c = canonical c.self.inside.by_name.entries _ refl
