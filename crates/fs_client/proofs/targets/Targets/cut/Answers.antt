use Rattle.std.proofs.Common.{rules, ap, ◌∙◌, subst, sym}
use Rattle.std.specs.FinMap.{FinMap, from_entries}
use Rattle.std.specs.Ordering.{nat_cmp}
use Rattle.fs_local.specs.Connect.{each, not_current}
use Rattle.fs_local.specs.State.{Targets}
use Rattle.fs_local.specs.declared.listened.Listened.{Listened}
use Rattle.fs_client.specs.Listed.{AreSmall}
use Rattle.fs_client.proofs.Each.{each_changed}
use Rattle.fs_client.proofs.Small.{small_each}
use Rattle.fs_client.proofs.targets.Targets.cut.Goals as goal

pub invariant_of-self : goal.invariant_of-self
invariant_of-self c =
    subst AreSmall (sym (each_changed _ not_current _ (λ k v b w g t. search rules) c.self.inside.listened.entries c.retain.new.self.entries c.retain.ensures.was_ordered c.retain.ensures.filtered))
    (small_each not_current (from_entries c.self.inside.listened.entries) c.self.invariant)

pub returns : goal.returns
returns c =
    let rest : FinMap nat_cmp Listened → Targets = λ m. record { listened = m; token = c.self.inside.token; causes = from_entries c.self.inside.causes.entries; last = c.self.inside.last; limit = c.self.inside.limit } in
    ap rest (each_changed _ not_current _ (λ k v b w g t. search rules) c.self.inside.listened.entries c.retain.new.self.entries c.retain.ensures.was_ordered c.retain.ensures.filtered)
    ∙ ap (each not_current) c.self.view_is
