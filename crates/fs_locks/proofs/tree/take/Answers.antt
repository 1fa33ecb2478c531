use Rattle.std.proofs.Common.{rules, List, ℕ, Some, None, [], sym, ap, ◌∙◌, subst}
use Rattle.std.specs.Prelude.{◌≡◌, ◌&&◌, ◌==◌, not, unwrap_or}
use Rattle.fs_locks.specs.Tree.{Tree, has, ids_at, HasLess, Puts}
use Rattle.fs_locks.proofs.Trees.{take_one, take_none, taken_twice}
use Rattle.fs_locks.proofs.tree.take.Goals as goal
use Rattle.std.specs.Prelude.{◌∷◌}

pub returns-in_default : goal.returns-in_default
returns-in_default c =
    let name = c.args.name.now in
    let old = c.args.tree.now.entries in
    let stays : c.get_mut.follows.lender-at-none.entries ≡ old = search rules in
    subst (λ (tree : Tree). HasLess old tree c.args.id (name ∷ [])) (sym stays) (take_none old name c.args.id (sym c.in_default.ensures.value))

pub returns-then-is_empty : goal.returns-then-is_empty
returns-then-is_empty c =
    let name = c.args.name.now in
    let old = c.args.tree.now.entries in
    let left = c.remove.new.self in
    let puts : Puts old (c.get_mut.follows.lender left).entries name (Some left) = search rules in
    let there : ids_at name old ≡ c.in-Some.holders.now = ap (λ o. unwrap_or o []) (sym c.in-Some.ensures.value) in
    let none : left ≡ [] = c.is_empty.ensures.0 c.if-is_empty.true in
    take_one old c.remove-then-is_empty.new.self.entries name None c.args.id
    (taken_twice old (c.get_mut.follows.lender left).entries c.remove-then-is_empty.new.self.entries name left puts c.remove-then-is_empty.ensures.updates.0)
    (λ i. sym (ap (has i) none) ∙ c.remove.ensures i ∙ ap (λ (ids : List ℕ). not (i == c.args.id) && has i ids) (sym there))

pub returns-else-is_empty : goal.returns-else-is_empty
returns-else-is_empty c =
    let name = c.args.name.now in
    let old = c.args.tree.now.entries in
    let left = c.remove.new.self in
    let puts : Puts old (c.get_mut.follows.lender left).entries name (Some left) = search rules in
    let there : ids_at name old ≡ c.in-Some.holders.now = ap (λ o. unwrap_or o []) (sym c.in-Some.ensures.value) in
    take_one old (c.get_mut.follows.lender left).entries name (Some left) c.args.id puts
    (λ i. c.remove.ensures i ∙ ap (λ (ids : List ℕ). not (i == c.args.id) && has i ids) (sym there))
