use Rattle.std.proofs.Common.{rules, List, subst}
use Rattle.fs_path.specs.declared.name.DocName.{DocName}
use Rattle.fs_locks.specs.Tree.{HasMore, SameBut}
use Rattle.fs_locks.proofs.Trees.{more_but}
use Rattle.fs_locks.proofs.hold.put_new.Goals as goal

pub returns-clause-more : goal.returns-clause-more
returns-clause-more c =
    let old = c.args.by_name.now.entries in
    let new = c.put_all.new.tree.entries in
    let so : HasMore old new c.args.id c.args.names.now.items =
    subst (λ (names : List DocName). HasMore old new c.args.id names) c.as_slice.ensures.value c.in_ok-put_all.ensures.ok in
    search rules

pub returns-clause-some : goal.returns-clause-some
returns-clause-some c =
    let old = c.args.by_name.now.entries in
    let new = c.put_all.new.tree.entries in
    let so : SameBut old new c.args.id c.args.names.now.items =
    more_but old new c.args.id c.args.names.now.items
    (subst (λ (names : List DocName). HasMore old new c.args.id names) c.as_slice.ensures.value c.in_ok-put_all.ensures.ok) in
    search rules
