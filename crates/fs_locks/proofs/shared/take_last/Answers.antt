use Rattle.std.proofs.Common.{rules, ◌≡◌, Some, sym, ap, ◌∙◌}
use Rattle.std.specs.BTreeMap.{is_at}
use Rattle.std.specs.Map.{lookup, remove_entry, set_value}
use Rattle.std.specs.Ordering.{nat_cmp}
use Rattle.fs_locks.specs.Shares.{Shares}
use Rattle.fs_locks.proofs.Lasts.{left_empty, left_none}
use Rattle.fs_locks.proofs.shared.take_last.Goals as goal

pub returns-in_err-reads-clause-left : goal.returns-in_err-reads-clause-left
returns-in_err-reads-clause-left c =
    let old = c.args.by_id.now.entries in
    let stays : c.get_mut.follows.lender-at-none.entries ≡ old = search rules in
    stays ∙ sym (left_none old c.args.id (sym c.in_err-reads.ensures.value))

pub returns-then-is_empty-clause-left : goal.returns-then-is_empty-clause-left
returns-then-is_empty-clause-left c =
    let old = c.args.by_id.now.entries in
    let id = c.args.id in
    let hs = c.in_ok-reads.reads.now in
    let left = c.pop-last.new.self in
    let found : lookup (is_at (nat_cmp id)) old ≡ Some hs = sym c.in_ok-reads.ensures.value in
    let set : (c.get_mut.follows.lender left).entries ≡ set_value (is_at (nat_cmp id)) old left = search rules in
    c.remove.ensures.entries ∙ ap (λ (es : Shares). remove_entry (is_at (nat_cmp id)) es) set
    ∙ left_empty old id hs left found c.pop-last.ensures.rest (c.is_empty.ensures.0 c.if-is_empty.true)
