use Rattle.std.proofs.Common.{ℕ, List, ◌++◌, map, sym, ap, ◌∙◌}
use Rattle.std.specs.FinMap.{entries}
use Rattle.std.proofs.lemmas.Cmp.{nat_cmp_total}
use Rattle.std.proofs.lemmas.List.{append-nil}
use Rattle.fs_value.proofs.Tree.{entries_tree}
use Rattle.fs_local.specs.Connect.{add_entry}
use Rattle.fs_local.specs.State.{Targets}
use Rattle.fs_local.specs.declared.listened.Listened.{Listened}
use Rattle.fs_client.proofs.targets.Targets.push_requests.Goals as goal

pub returns : goal.returns
returns c =
    let begun = c.into_iter-id-iterator.ensures.into_iter_gives in
    let asked = add_entry c.args.root.now c.args.self.now.token in
    let all = entries_tree nat_cmp_total c.self.inside.listened.entries begun.5 in
    sym (append-nil c.loop-id.out.items)
    ∙ ap (λ (es : List (ℕ × Listened)). c.loop-id.out.items ++ map asked es) (sym c.in-None.ensures.steps.0)
    ∙ c.loop-id.invariant
    ∙ ap (λ (es : List (ℕ × Listened)). c.args.out.now.items ++ map asked es) (begun.0 ∙ sym all)
    ∙ ap (λ (t : Targets). c.args.out.now.items ++ map asked (entries t.listened)) c.self.view_is
