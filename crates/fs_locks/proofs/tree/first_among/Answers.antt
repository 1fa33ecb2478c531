use Rattle.std.proofs.Common.{ℕ, ◌+◌, Option, take, sym, subst, arith}
use Rattle.std.specs.Prelude.{IsTrue}
use Rattle.std.specs.List.{list_any}
use Rattle.fs_locks.specs.Holds.{IsLeastOther}
use Rattle.fs_locks.specs.Tree.{held}
use Rattle.fs_locks.proofs.Searching.{among_more, among_all}
use Rattle.fs_locks.proofs.tree.first_among.Goals as goal

pub loop-name-preserved : goal.loop-name-preserved
loop-name-preserved c =
    subst (λ (first : Option ℕ). IsLeastOther (λ i. IsTrue (list_any (held c.args.tree.now.entries i) (take (c.loop-name.name-index + 1) c.args.names.now))) c.args.by first) (sym c.lesser-first.ensures)
    (among_more (held c.args.tree.now.entries) c.args.names.now c.loop-name.name-index c.name-item.result c.args.by c.loop-name.first c.first_at.result (omega arith) c.name-item.is
    c.loop-name.invariant c.first_at.ensures)

pub returns : goal.returns
returns c = among_all (held c.args.tree.now.entries) c.args.names.now c.loop-name.name-index c.args.by c.loop-name.first (omega arith) c.loop-name.invariant
