use Rattle.std.proofs.Common.{rules, Some, None, sym, ap, ◌∙◌}
use Rattle.std.specs.Prelude.{◌&&◌, ◌==◌, not}
use Rattle.std.specs.Option.{option_copied}
use Rattle.fs_locks.specs.Paths.{path_eq}
use Rattle.fs_locks.proofs.TextMaps.{below, puts_text, puts_twice, scopes_less}
use Rattle.fs_locks.proofs.scopes.Scopes.take.Goals as goal

pub returns-then-is_empty : goal.returns-then-is_empty
returns-then-is_empty c =
    let name = c.args.name.now in
    let path = option_copied c.args.path in
    let old = c.args.self.now.by_id in
    let left = c.take.new.self in
    let mid = c.get_mut.follows.lender left in
    scopes_less old c.remove.new.self name path c.args.id None (puts_twice old mid c.remove.new.self name (Some left) None (puts_text name old mid (Some left) (search rules)) (puts_text name mid c.remove.new.self None c.remove.ensures.updates))
    (λ i t.
    sym (c.is_empty.ensures c.if-is_empty.true i t) ∙ c.take.ensures i t
    ∙ ap (λ o. not (path_eq path t && i == c.args.id) && below i t o) c.in-Some.ensures.value)

pub returns-else-is_empty : goal.returns-else-is_empty
returns-else-is_empty c =
    let name = c.args.name.now in
    let path = option_copied c.args.path in
    let old = c.args.self.now.by_id in
    let left = c.take.new.self in
    let mid = c.get_mut.follows.lender left in
    scopes_less old mid name path c.args.id (Some left) (puts_text name old mid (Some left) (search rules))
    (λ i t. c.take.ensures i t ∙ ap (λ o. not (path_eq path t && i == c.args.id) && below i t o) c.in-Some.ensures.value)
