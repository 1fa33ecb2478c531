use Rattle.std.proofs.Common.{rules, Some, ap, ◌∙◌, subst, sym}
use Rattle.std.specs.FinMap.{FinMap, from_entries}
use Rattle.std.specs.Ordering.{nat_cmp}
use Rattle.fs_local.specs.Raise.{now_shown, with_snapshot}
use Rattle.fs_local.specs.State.{Targets}
use Rattle.fs_local.specs.declared.listened.Listened.{Listened}
use Rattle.fs_client.specs.Listed.{AreSmall}
use Rattle.fs_client.proofs.Each.{each_changed}
use Rattle.fs_client.proofs.Small.{small_each}
use Rattle.fs_client.proofs.targets.Targets.show.Goals as goal

pub invariant_of-self : goal.invariant_of-self
invariant_of-self c =
    subst AreSmall (sym (each_changed _ now_shown _ (λ k v b w g t. search rules) c.self.inside.listened.entries c.retain.new.self.entries c.retain.ensures.was_ordered c.retain.ensures.filtered))
    (small_each now_shown (from_entries c.self.inside.listened.entries) c.self.invariant)

pub returns : goal.returns
returns c =
    let rest : FinMap nat_cmp Listened → Targets = λ m. record { listened = m; token = Some c.args.token; causes = from_entries c.self.inside.causes.entries; last = c.self.inside.last; limit = c.self.inside.limit } in
    ap rest (each_changed _ now_shown _ (λ k v b w g t. search rules) c.self.inside.listened.entries c.retain.new.self.entries c.retain.ensures.was_ordered c.retain.ensures.filtered)
    ∙ ap (with_snapshot c.args.token) c.self.view_is
