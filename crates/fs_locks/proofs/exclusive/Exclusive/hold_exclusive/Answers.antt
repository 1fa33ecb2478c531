use Rattle.std.proofs.Common.{List, refl, ap, ◌∙◌, subst}
use Rattle.std.specs.Prelude.{◌||◌, ◌&&◌, ◌==◌}
use Rattle.fs_path.specs.declared.name.DocName.{DocName}
use Rattle.fs_locks.specs.Holds.{is_in}
use Rattle.fs_locks.specs.Tree.{HasLess}
use Rattle.fs_locks.proofs.Holding.{held_more, held_back}
use Rattle.fs_locks.proofs.Views.{canonical, held_at, held_view, same_view}
use Rattle.fs_locks.proofs.exclusive.Exclusive.hold_exclusive.Goals as goal

pub returns-in-Err-clause-err : goal.returns-in-Err-clause-err
returns-in-Err-clause-err c =
    let old = c.self.inside.by_name.entries in
    let mid = c.put_new.new.by_name.entries in
    let new = c.take_all.new.tree.entries in
    let less : HasLess mid new c.args.id c.fresh-more.result.items =
    subst (λ (names : List DocName). HasLess mid new c.args.id names) (c.as_slice.ensures.value ∙ c.in-Err.ensures.stay) c.take_all.ensures in
    same_view old new (held_back old mid new c.args.id c.args.names c.fresh-more.result.items c.fresh-more.ensures c.in-Err.ensures.some less) ∙ c.self.view_is

pub returns-clause-ok : goal.returns-clause-ok
returns-clause-ok c = λ i n.
    let old = c.self.inside.by_name.entries in
    let new = c.put_new.new.by_name.entries in
    held_view new i n
    ∙ held_more old new c.args.id c.args.names c.fresh-more.result.items c.fresh-more.ensures c.in_default.ensures.more i n
    ∙ ap (λ b. b || (i == c.args.id && is_in n c.args.names)) (held_at old c.args.self.now c.self.view_is i n)

pub returns-in-Err-clause-canonical : goal.returns-in-Err-clause-canonical
returns-in-Err-clause-canonical c = canonical c.take_all.new.tree.entries _ refl

pub returns-clause-canonical : goal.returns-clause-canonical
returns-clause-canonical c = canonical c.put_new.new.by_name.entries _ refl
