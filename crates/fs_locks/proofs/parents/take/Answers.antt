use Rattle.std.proofs.Common.{rules, List, ℕ, Some, None, [], sym, ap, ◌∙◌}
use Rattle.std.specs.Prelude.{◌≡◌, ◌&&◌, ◌==◌, not, unwrap_or}
use Rattle.fs_locks.specs.Spots.{ids_under}
use Rattle.fs_locks.specs.Tree.{has}
use Rattle.fs_locks.proofs.TextMaps.{ids_less, puts_text, puts_twice}
use Rattle.fs_locks.proofs.parents.take.Goals as goal

pub returns-then-is_empty : goal.returns-then-is_empty
returns-then-is_empty c =
    let path = c.args.path.now in
    let old = c.args.tree.now in
    let left = c.remove.new.self in
    let there : ids_under old path ≡ c.in-Some.holders.now = ap (λ o. unwrap_or o []) (sym c.in-Some.ensures.value) in
    let none : left ≡ [] = c.is_empty.ensures.0 c.if-is_empty.true in
    ids_less old c.remove-then-is_empty.new.self path c.args.id None
    (puts_twice old (c.get_mut.follows.lender left) c.remove-then-is_empty.new.self path (Some left) None (puts_text path old (c.get_mut.follows.lender left) (Some left) (search rules)) (puts_text path (c.get_mut.follows.lender left) c.remove-then-is_empty.new.self None c.remove-then-is_empty.ensures.updates))
    (λ i. sym (ap (has i) none) ∙ c.remove.ensures i ∙ ap (λ (ids : List ℕ). not (i == c.args.id) && has i ids) (sym there))

pub returns-else-is_empty : goal.returns-else-is_empty
returns-else-is_empty c =
    let path = c.args.path.now in
    let old = c.args.tree.now in
    let left = c.remove.new.self in
    let there : ids_under old path ≡ c.in-Some.holders.now = ap (λ o. unwrap_or o []) (sym c.in-Some.ensures.value) in
    ids_less old (c.get_mut.follows.lender left) path c.args.id (Some left) (puts_text path old (c.get_mut.follows.lender left) (Some left) (search rules))
    (λ i. c.remove.ensures i ∙ ap (λ (ids : List ℕ). not (i == c.args.id) && has i ids) (sym there))
