use Rattle.std.proofs.Common.{sym, ◌∙◌, subst}
use Rattle.std.specs.Prelude.{◌≡◌}
use Rattle.std.specs.List.Sorted.{IsStrictlySortedBy}
use Rattle.std.specs.Ordering.{nat_cmp}
use Rattle.fs_locks.proofs.Ids.{RestOf, rest_all, rest_next, rest_first, rest_none, test_apart, test_same}
use Rattle.fs_locks.proofs.holders.Holders.first_other.Goals as goal

pub loop-id-init : goal.loop-id-init
loop-id-init c =
    let ids = c.args.self.now in
    let is : c.into_iter-id-iterator.result ≡ ids = c.into_iter-id-iterator.ensures.into_iter_gives ∙ c.iter-id-items.ensures.rest ∙ c.self.view_is in
    subst (λ rest. RestOf ids rest c.args.by) (sym is) (rest_all ids c.args.by (subst (IsStrictlySortedBy nat_cmp) c.self.view_is c.iter-id-items.ensures.ordered))

pub returns-then-ne : goal.returns-then-ne
returns-then-ne c =
    let id = c.in-Some.id.now in
    rest_first c.args.self.now c.next.new.self id c.args.by
    (subst (λ rest. RestOf c.args.self.now rest c.args.by) c.in-Some.ensures.steps c.loop-id.invariant)
    (test_apart id c.args.by (sym c.ne.ensures ∙ c.if-ne.true))

pub loop-id-preserved : goal.loop-id-preserved
loop-id-preserved c =
    let id = c.in-Some.id.now in
    rest_next c.args.self.now c.next.new.self id c.args.by
    (subst (λ rest. RestOf c.args.self.now rest c.args.by) c.in-Some.ensures.steps c.loop-id.invariant)
    (test_same id c.args.by (sym c.ne.ensures ∙ c.if-ne.false))

pub returns : goal.returns
returns c =
    rest_none c.args.self.now c.args.by (subst (λ rest. RestOf c.args.self.now rest c.args.by) c.in-None.ensures.steps.0 c.loop-id.invariant)
