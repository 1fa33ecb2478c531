use Rattle.std.proofs.Common.{rules, List, refl, ap, ◌∙◌}
use Rattle.std.specs.Prelude.{◌≡◌, ◌++◌, unwrap_or}
use Rattle.fs_path.specs.declared.name.DocName.{DocName}
use Rattle.fs_status.specs.contracts.id.IdOrd.TheImpl as order
use Rattle.fs_locks.specs.Tree.{taken_at, taken_by}
use Rattle.fs_locks.proofs.Trees.{took_none, took_more}
use Rattle.fs_locks.proofs.hold.note.Goals as goal

pub returns-in_err-append-clause-err : goal.returns-in_err-append-clause-err
returns-in_err-append-clause-err c =
    let old = c.args.by_id.now.entries in
    let is : c.or_insert-taken.result.now ≡ taken_by c.args.id old =
    c.or_insert-taken.ensures.value ∙ ap (λ o. unwrap_or o c.in_ok-room.room) c.in_ok-by_id.ensures.value ∙ ap (λ (names : List DocName). unwrap_or (taken_at c.args.id old) names) c.in_ok-room.ensures in
    took_none c.from_residual-in_err-append.result order.ghosts.cmp old _ c.args.id c.append.new.self refl (search rules) (c.in_err-append.ensures.err ∙ is)

pub returns-clause-ok : goal.returns-clause-ok
returns-clause-ok c =
    let old = c.args.by_id.now.entries in
    let is : c.or_insert-taken.result.now ≡ taken_by c.args.id old =
    c.or_insert-taken.ensures.value ∙ ap (λ o. unwrap_or o c.in_ok-room.room) c.in_ok-by_id.ensures.value ∙ ap (λ (names : List DocName). unwrap_or (taken_at c.args.id old) names) c.in_ok-room.ensures in
    took_more order.ghosts.cmp old _ c.args.id c.append.new.self c.args.names.now.items refl (search rules) (c.in_ok-append.ensures.ok ∙ ap (λ (names : List DocName). names ++ c.args.names.now.items) is)
