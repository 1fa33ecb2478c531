use Rattle.std.proofs.Common.{◌≡◌, sym, ap, ◌∙◌, subst}
use Rattle.std.specs.FinMap.{FinMap, from_entries, nat_cmp-IsAntisymmetric, remove}
use Rattle.std.specs.Ordering.{nat_cmp}
use Rattle.std.proofs.lemmas.Cmp.{nat_cmp_total}
use Rattle.fs_value.proofs.Tree.{remove_tree}
use Rattle.fs_local.specs.State.{Targets}
use Rattle.fs_local.specs.Unlisten.{without_target}
use Rattle.fs_local.specs.declared.listened.Listened.{Listened}
use Rattle.fs_client.specs.Listed.{AreSmall}
use Rattle.fs_client.proofs.Small.{small_remove}
use Rattle.fs_client.proofs.targets.Targets.unlisten.Goals as goal

removed : (c : goal.After-drop) → from_entries {R = nat_cmp} c.remove.new.self.entries ≡ remove (from_entries c.self.inside.listened.entries) c.args.id
removed c = remove_tree nat_cmp_total nat_cmp-IsAntisymmetric c.self.inside.listened.entries c.remove.new.self.entries c.args.id c.remove.ensures.updates.0

pub invariant_of-self : goal.invariant_of-self
invariant_of-self c = subst AreSmall (sym (removed c)) (small_remove (from_entries c.self.inside.listened.entries) c.args.id c.self.invariant)

pub returns : goal.returns
returns c =
    let rest : FinMap nat_cmp Listened → Targets = λ m. record { listened = m; token = c.self.inside.token; causes = from_entries c.self.inside.causes.entries; last = c.self.inside.last; limit = c.self.inside.limit } in
    ap rest (removed c) ∙ ap (without_target c.args.id) c.self.view_is
