use Rattle.std.proofs.Common.{ℕ, Option, None, sym, ◌∙◌, subst}
use Rattle.fs_locks.specs.Tree.{Tree}
use Rattle.fs_locks.proofs.Searching.{Walked, walked_none, walked_in, walked_over, walked_all}
use Rattle.fs_locks.proofs.tree.first_in.Goals as goal

pub loop-name-init : goal.loop-name-init
loop-name-init c =
    let all = c.args.tree.now.entries in
    subst (λ (rest : Tree). Walked c.args.scope.now c.args.by all rest None) (sym (c.into_iter-name-iterator.ensures.into_iter_gives ∙ c.iter-name-items.ensures.rest))
    (walked_none c.args.scope.now c.args.by all)

pub loop-name-preserved-then-covers : goal.loop-name-preserved-then-covers
loop-name-preserved-then-covers c =
    let all = c.args.tree.now.entries in
    subst (λ (first : Option ℕ). Walked c.args.scope.now c.args.by all c.next.new.self first) (sym c.lesser-first.ensures)
    (walked_in c.args.scope.now c.args.by all c.next.new.self (c.in-Some.name.now, c.in-Some.holders.now) c.loop-name.first c.first_other.result
    (subst (λ (rest : Tree). Walked c.args.scope.now c.args.by all rest c.loop-name.first) c.in-Some.ensures.steps c.loop-name.invariant)
    (sym c.covers.ensures.value ∙ c.if-covers.true) c.first_other.ensures)

pub loop-name-preserved : goal.loop-name-preserved
loop-name-preserved c =
    let all = c.args.tree.now.entries in
    walked_over c.args.scope.now c.args.by all c.next.new.self (c.in-Some.name.now, c.in-Some.holders.now) c.loop-name.first
    (subst (λ (rest : Tree). Walked c.args.scope.now c.args.by all rest c.loop-name.first) c.in-Some.ensures.steps c.loop-name.invariant)
    (sym c.covers.ensures.value ∙ c.if-covers.false)

pub returns : goal.returns
returns c =
    walked_all c.args.scope.now c.args.by c.args.tree.now.entries c.loop-name.name-iterator c.loop-name.first c.iter-name-items.ensures.found c.in-None.ensures.steps.0
    c.loop-name.invariant
