use Rattle.std.proofs.Common.{ℕ, List, ap, ◌∙◌}
use Rattle.std.specs.FinMap.{FinMap, from_entries, get}
use Rattle.std.specs.Ordering.{nat_cmp}
use Rattle.fs_query.specs.declared.listen.Cause.{Cause}
use Rattle.fs_local.specs.State.{Targets}
use Rattle.fs_client.specs.Listed.{caused, caused_one}
use Rattle.fs_client.proofs.Refusing.{refused_is}
use Rattle.fs_client.proofs.targets.Targets.refuse.Goals as goal

pub returns-clause-ok : goal.returns-clause-ok
returns-clause-ok c =
    let ids = c.args.ids.now in
    let cause = c.args.cause.now in
    let targets = c.args.self.now.listened in
    let new : FinMap nat_cmp Cause = from_entries c.add_causes.new.causes.entries in
    ap (λ (t : Targets). record t { causes = new }) (c.self-2.view_is ∙ c.drop_all.ensures)
    ∙ refused_is cause new ids c.args.self.now
    (λ q. c.in_ok-add_causes.ensures q
    ∙ ap (λ (es : List (ℕ × Cause)). caused targets ids cause es q) c.in_ok-causes.ensures
    ∙ ap (λ (t : Targets). caused_one targets ids cause (get t.causes q) q) c.self.view_is)
