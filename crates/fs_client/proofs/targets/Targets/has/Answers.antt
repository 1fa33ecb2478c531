use Rattle.std.proofs.Common.{◌≡◌, is_some, sym, ap, ◌∙◌}
use Rattle.std.specs.FinMap.{from_entries, get}
use Rattle.std.specs.Ordering.{nat_cmp}
use Rattle.std.proofs.lemmas.Cmp.{nat_cmp_total}
use Rattle.fs_value.proofs.Tree.{get_tree}
use Rattle.fs_local.specs.State.{Targets}
use Rattle.fs_client.proofs.targets.Targets.has.Goals as goal

there : (c : goal.After-contains_key) → c.contains_key.result ≡ is_some (get (from_entries {R = nat_cmp} c.self.inside.listened.entries) c.args.id)
there c = c.contains_key.ensures ∙ ap is_some (get_tree nat_cmp_total c.self.inside.listened.entries c.args.id)

pub returns-clause-value : goal.returns-clause-value
returns-clause-value c = there c ∙ ap (λ (t : Targets). is_some (get t.listened c.args.id)) c.self.view_is

pub returns-clause-small : goal.returns-clause-small
returns-clause-small c = λ is. c.self.invariant c.args.id (sym (there c) ∙ is)
