use Rattle.std.proofs.Common.{false, sym, ap, ◌∙◌, subst}
use Rattle.std.specs.FinMap.{FinMap, from_entries, nat_cmp-IsAntisymmetric}
use Rattle.std.specs.Ordering.{nat_cmp}
use Rattle.std.proofs.lemmas.Cmp.{nat_cmp_total}
use Rattle.fs_value.proofs.Tree.{insert_tree}
use Rattle.fs_local.specs.Listen.{with_target}
use Rattle.fs_local.specs.State.{Targets}
use Rattle.fs_local.specs.declared.listened.Listened.{Listened}
use Rattle.fs_client.specs.Listed.{AreSmall}
use Rattle.fs_client.proofs.Small.{small_insert}
use Rattle.fs_client.proofs.targets.Targets.listen.Goals as goal

pub invariant_of-self-2 : goal.invariant_of-self-2
invariant_of-self-2 c =
    let one : Listened = record { target = c.args.target; shown = false; current = false } in
    let inserted = insert_tree nat_cmp_total nat_cmp-IsAntisymmetric c.self.inside.listened.entries c.insert.new.self.entries c.args.id one c.in_ok-insert.ensures.updates.0 in
    subst AreSmall (sym inserted) (small_insert (from_entries c.self.inside.listened.entries) c.args.id one c.requires c.self.invariant)

pub returns-clause-ok : goal.returns-clause-ok
returns-clause-ok c =
    let one : Listened = record { target = c.args.target; shown = false; current = false } in
    let inserted = insert_tree nat_cmp_total nat_cmp-IsAntisymmetric c.self.inside.listened.entries c.insert.new.self.entries c.args.id one c.in_ok-insert.ensures.updates.0 in
    let rest : FinMap nat_cmp Listened → Targets = λ m. record { listened = m; token = c.self.inside.token; causes = from_entries c.self.inside.causes.entries; last = c.args.id; limit = c.self.inside.limit } in
    ap rest inserted ∙ ap (with_target c.args.id c.args.target) c.self.view_is
