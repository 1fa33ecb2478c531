use Rattle.std.proofs.Common.{rules, List, ℕ, ap, ◌∙◌, subst}
use Rattle.std.specs.Prelude.{◌≡◌, ◌||◌, ◌==◌, unwrap_or}
use Rattle.fs_path.specs.declared.name.DocName.{DocName}
use Rattle.fs_locks.specs.Tree.{found, has, ids_at}
use Rattle.fs_locks.proofs.Trees.{put_one, put_none}
use Rattle.fs_locks.proofs.tree.put.Goals as goal

pub returns-in_err-insert-clause-err : goal.returns-in_err-insert-clause-err
returns-in_err-insert-clause-err c =
    let name = c.args.name.now in
    let old = c.args.tree.now.entries in
    let is : c.or_insert-holders.result.now ≡ ids_at name old =
    c.or_insert-holders.ensures.value ∙ ap (λ o. unwrap_or o c.new.result) c.in_ok-tree.ensures.value
    ∙ ap (λ (ids : List ℕ). unwrap_or (found c.in_ok-copy.field-0 old) ids) c.new.ensures ∙ ap (λ (n : DocName). ids_at n old) c.in_ok-copy.ensures in
    put_none c.from_residual-in_err-insert.result old _ name c.insert.new.self (search rules) (c.in_err-insert.ensures.err ∙ is)

pub returns-clause-ok : goal.returns-clause-ok
returns-clause-ok c =
    let name = c.args.name.now in
    let old = c.args.tree.now.entries in
    let is : c.or_insert-holders.result.now ≡ ids_at name old =
    c.or_insert-holders.ensures.value ∙ ap (λ o. unwrap_or o c.new.result) c.in_ok-tree.ensures.value
    ∙ ap (λ (ids : List ℕ). unwrap_or (found c.in_ok-copy.field-0 old) ids) c.new.ensures ∙ ap (λ (n : DocName). ids_at n old) c.in_ok-copy.ensures in
    put_one old _ name c.insert.new.self c.args.id (search rules)
    (subst (λ (ids : List ℕ). (i : ℕ) → has i c.insert.new.self ≡ (i == c.args.id || has i ids)) is c.in_ok-insert.ensures.ok)
